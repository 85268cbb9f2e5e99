use Rattle.writer.proofs.Sources.{sources}
use Rattle.writer.proofs.emit_blocks.Goals as goal

pub returns-clause-is : goal.returns-clause-is
returns-clause-is c = search sources
