use Rattle.filing.proofs.Writing.{storings}
use Rattle.filing.proofs.write_data.Goals as goal

pub loop-k-init : goal.loop-k-init
loop-k-init c = search storings

pub loop-k-preserved : goal.loop-k-preserved
loop-k-preserved c = search storings
