use Rattle.nibble.proofs.FiveThree.{fives}
use Rattle.nibble.proofs.five_three.fourth.Goals as goal

pub joined-requires : goal.joined-requires
joined-requires c = search fives

pub returns : goal.returns
returns c = search fives
