use Rattle.catalog.proofs.Turns.{livings}
use Rattle.catalog.proofs.live_entries.Goals as goal

pub loop-i-init : goal.loop-i-init
loop-i-init c = search livings

pub loop-i-preserved : goal.loop-i-preserved
loop-i-preserved c = search livings

pub returns : goal.returns
returns c = search livings
