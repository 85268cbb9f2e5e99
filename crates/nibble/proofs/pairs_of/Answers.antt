use Rattle.nibble.proofs.Decode.{paired}
use Rattle.nibble.proofs.pairs_of.Goals as goal

pub loop-k-init : goal.loop-k-init
loop-k-init c = search paired

pub loop-k-preserved : goal.loop-k-preserved
loop-k-preserved c = search paired

pub returns : goal.returns
returns c = search paired
