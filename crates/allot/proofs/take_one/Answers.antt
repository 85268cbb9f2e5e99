use Rattle.allot.proofs.Taking.{taking_one}
use Rattle.allot.proofs.take_one.Goals as goal

pub returns-in-Some : goal.returns-in-Some
returns-in-Some c = search taking_one
