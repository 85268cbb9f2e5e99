use Rattle.reader.proofs.Tests.{blocks}
use Rattle.reader.proofs.links_due.Goals as goal

pub returns : goal.returns
returns c = search blocks
