use Rattle.fields.proofs.Seeks.{seeks}
use Rattle.fields.proofs.find_fast.Goals as goal

pub loop-k-preserved : goal.loop-k-preserved
loop-k-preserved c = search seeks
