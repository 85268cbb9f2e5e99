use Rattle.records.proofs.Entries.{entry_records}
use Rattle.records.proofs.entry_record.Goals as goal

pub returns : goal.returns
returns c = search entry_records
