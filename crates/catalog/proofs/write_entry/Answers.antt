use Rattle.catalog.proofs.Writes.{entry_writing}
use Rattle.catalog.proofs.write_entry.Goals as goal

pub returns-then-valid_file : goal.returns-then-valid_file
returns-then-valid_file c = search entry_writing

pub returns : goal.returns
returns c = search entry_writing
