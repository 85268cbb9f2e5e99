use Rattle.nibble.proofs.Decode.{byted}
use Rattle.nibble.proofs.put_bytes.Goals as goal

pub loop-i-init : goal.loop-i-init
loop-i-init c = search byted

pub loop-i-preserved : goal.loop-i-preserved
loop-i-preserved c = search byted

pub loop-i-2-init : goal.loop-i-2-init
loop-i-2-init c = search byted

pub loop-i-2-preserved : goal.loop-i-2-preserved
loop-i-2-preserved c = search byted

pub loop-i-3-init : goal.loop-i-3-init
loop-i-3-init c = search byted

pub loop-i-3-preserved : goal.loop-i-3-preserved
loop-i-3-preserved c = search byted

pub returns : goal.returns
returns c = search byted
