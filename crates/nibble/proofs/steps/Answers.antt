use Rattle.nibble.proofs.Encode.{stepped}
use Rattle.nibble.proofs.steps.Goals as goal

pub loop-k-init : goal.loop-k-init
loop-k-init c = search stepped

pub loop-k-preserved : goal.loop-k-preserved
loop-k-preserved c = search stepped

pub loop-k-2-init : goal.loop-k-2-init
loop-k-2-init c = search stepped

pub loop-k-2-preserved : goal.loop-k-2-preserved
loop-k-2-preserved c = search stepped

pub returns : goal.returns
returns c = search stepped
