use Rattle.stream.proofs.Images.{having}
use Rattle.stream.proofs.complete.Goals as goal

pub returns-then-at-k-eq0 : goal.returns-then-at-k-eq0
returns-then-at-k-eq0 c = search having
