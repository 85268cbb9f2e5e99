use Rattle.fields.proofs.Seeks.{seeks}
use Rattle.fields.proofs.find_slow.Goals as goal

pub returns-then-s-k : goal.returns-then-s-k
returns-then-s-k c = search seeks

pub loop-k-preserved : goal.loop-k-preserved
loop-k-preserved c = search seeks

pub returns : goal.returns
returns c = search seeks
