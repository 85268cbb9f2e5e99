use Rattle.sides.proofs.Counts.{lines}
use Rattle.sides.proofs.count_line.Goals as goal

pub returns-then-not-of_side-clause-is : goal.returns-then-not-of_side-clause-is
returns-then-not-of_side-clause-is c = search lines

pub returns-in-Ok-clause-is : goal.returns-in-Ok-clause-is
returns-in-Ok-clause-is c = search lines

pub returns-in-Err-clause-is : goal.returns-in-Err-clause-is
returns-in-Err-clause-is c = search lines
