use Rattle.holders.proofs.Sums.{counts}
use Rattle.holders.proofs.count_held.Goals as goal

pub loop-k-init : goal.loop-k-init
loop-k-init c = search counts

pub loop-k-preserved : goal.loop-k-preserved
loop-k-preserved c = search counts
