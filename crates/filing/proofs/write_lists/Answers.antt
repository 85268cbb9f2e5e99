use Rattle.filing.proofs.Writing.{listings}
use Rattle.filing.proofs.write_lists.Goals as goal

pub loop-j-init : goal.loop-j-init
loop-j-init c = search listings

pub loop-j-preserved : goal.loop-j-preserved
loop-j-preserved c = search listings
