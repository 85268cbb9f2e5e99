use Rattle.reader.proofs.Tests.{blocks}
use Rattle.reader.proofs.name_due.Goals as goal

pub returns : goal.returns
returns c = search blocks
