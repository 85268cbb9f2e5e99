use Rattle.writer.proofs.Heads.{heads}
use Rattle.writer.proofs.emit_block.Goals as goal

pub returns-in-Write : goal.returns-in-Write
returns-in-Write c = search heads
