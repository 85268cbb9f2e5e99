use Rattle.forecast.proofs.Tallies.{foresees}
use Rattle.forecast.proofs.foresee.Goals as goal

pub loop-i-init : goal.loop-i-init
loop-i-init c = search foresees

pub loop-i-preserved : goal.loop-i-preserved
loop-i-preserved c = search foresees

pub returns : goal.returns
returns c = search foresees
