use Rattle.files.proofs.Runs.{heads}
use Rattle.files.proofs.first_pair.Goals as goal

pub returns-then-q-eq0 : goal.returns-then-q-eq0
returns-then-q-eq0 c = search heads

pub returns : goal.returns
returns c = search heads
