use Rattle.reader.proofs.Tests.{blocks}
use Rattle.reader.proofs.allowed_entry.Goals as goal

pub returns : goal.returns
returns c = search blocks
