use Rattle.records.proofs.Page.{entry_reads}
use Rattle.records.proofs.record_at.Goals as goal

pub returns : goal.returns
returns c = search entry_reads
