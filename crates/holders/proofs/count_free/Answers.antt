use Rattle.holders.proofs.Sums.{tracks}
use Rattle.holders.proofs.count_free.Goals as goal

pub loop-t-init : goal.loop-t-init
loop-t-init c = search tracks

pub loop-t-preserved : goal.loop-t-preserved
loop-t-preserved c = search tracks
