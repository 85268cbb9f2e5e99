use Rattle.nibble.proofs.Runs.{valued}
use Rattle.nibble.proofs.running.put_values.Goals as goal

pub loop-k-init : goal.loop-k-init
loop-k-init c = search valued

pub loop-k-preserved : goal.loop-k-preserved
loop-k-preserved c = search valued

pub returns : goal.returns
returns c = search valued
