use Rattle.catalog.proofs.Writes.{entry_writing}
use Rattle.catalog.proofs.entry_bytes.Goals as goal

pub returns : goal.returns
returns c = search entry_writing
