use Rattle.nibble.proofs.FiveThree.{fives}
use Rattle.nibble.proofs.five_three.of_three.Goals as goal

pub returns : goal.returns
returns c = search fives
