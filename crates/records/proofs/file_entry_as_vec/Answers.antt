use Rattle.records.proofs.Entries.{entry_records}
use Rattle.records.proofs.file_entry_as_vec.Goals as goal

pub returns-then-not-writable_name : goal.returns-then-not-writable_name
returns-then-not-writable_name c = search entry_records

pub returns-then-out-lt35 : goal.returns-then-out-lt35
returns-then-out-lt35 c = search entry_records

pub returns : goal.returns
returns c = search entry_records
