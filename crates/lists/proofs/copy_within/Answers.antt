use Rattle.lists.proofs.Fills.{fills}
use Rattle.lists.proofs.copy_within.Goals as goal

pub loop-k-init : goal.loop-k-init
loop-k-init c = search fills

pub loop-k-preserved : goal.loop-k-preserved
loop-k-preserved c = search fills

pub returns : goal.returns
returns c = search fills
