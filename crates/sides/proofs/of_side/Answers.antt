use Rattle.sides.proofs.Counts.{lines}
use Rattle.sides.proofs.of_side.Goals as goal

pub returns-then-valid_file : goal.returns-then-valid_file
returns-then-valid_file c = search lines
