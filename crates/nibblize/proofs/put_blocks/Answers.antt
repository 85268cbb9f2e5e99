use Rattle.nibblize.proofs.Writing.{writes}
use Rattle.nibblize.proofs.put_blocks.Goals as goal

pub loop-k-init : goal.loop-k-init
loop-k-init c = search writes

pub loop-k-preserved : goal.loop-k-preserved
loop-k-preserved c = search writes
