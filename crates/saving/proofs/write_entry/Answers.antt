use Rattle.saving.proofs.Calls.{entry_writes}
use Rattle.saving.proofs.write_entry.Goals as goal

pub returns : goal.returns
returns c = search entry_writes
