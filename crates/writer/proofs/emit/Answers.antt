use Rattle.writer.proofs.Emits.{emits}
use Rattle.writer.proofs.emit.Goals as goal

pub returns-in-Write : goal.returns-in-Write
returns-in-Write c = search emits

pub returns-in-Compare : goal.returns-in-Compare
returns-in-Compare c = search emits
