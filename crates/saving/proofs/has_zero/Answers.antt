use Rattle.saving.proofs.Names.{zeros}
use Rattle.saving.proofs.has_zero.Goals as goal

pub returns-then-name-k-eq0 : goal.returns-then-name-k-eq0
returns-then-name-k-eq0 c = search zeros

pub loop-k-preserved : goal.loop-k-preserved
loop-k-preserved c = search zeros

pub returns : goal.returns
returns c = search zeros
