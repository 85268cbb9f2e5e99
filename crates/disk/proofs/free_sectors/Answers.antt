use Rattle.disk.proofs.Numbers.{counts}
use Rattle.disk.proofs.free_sectors.Goals as goal

pub loop-t-init : goal.loop-t-init
loop-t-init c = search counts

pub loop-t-preserved : goal.loop-t-preserved
loop-t-preserved c = search counts
