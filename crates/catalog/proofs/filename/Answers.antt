use Rattle.catalog.proofs.Shown.{namings}
use Rattle.catalog.proofs.filename.Goals as goal

pub loop-k-init : goal.loop-k-init
loop-k-init c = search namings

pub loop-k-preserved : goal.loop-k-preserved
loop-k-preserved c = search namings

pub returns : goal.returns
returns c = search namings
