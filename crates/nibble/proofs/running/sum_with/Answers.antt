use Rattle.nibble.proofs.Runs.{sums}
use Rattle.nibble.proofs.running.sum_with.Goals as goal

pub loop-k-init : goal.loop-k-init
loop-k-init c = search sums

pub loop-k-preserved : goal.loop-k-preserved
loop-k-preserved c = search sums

pub returns : goal.returns
returns c = search sums
