use Rattle.writer.proofs.Heads.{heads}
use Rattle.writer.proofs.make_head.Goals as goal

pub returns : goal.returns
returns c = search heads
