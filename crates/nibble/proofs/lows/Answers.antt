use Rattle.nibble.proofs.Encode.{lowered}
use Rattle.nibble.proofs.lows.Goals as goal

pub loop-k-init : goal.loop-k-init
loop-k-init c = search lowered

pub loop-k-preserved : goal.loop-k-preserved
loop-k-preserved c = search lowered

pub loop-k-2-preserved : goal.loop-k-2-preserved
loop-k-2-preserved c = search lowered

pub returns : goal.returns
returns c = search lowered
