use Rattle.archive.proofs.Making.{making}
use Rattle.archive.proofs.entry_block.Goals as goal

pub returns : goal.returns
returns c = search making
