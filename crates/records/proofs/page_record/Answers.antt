use Rattle.records.proofs.Page.{page_records}
use Rattle.records.proofs.page_record.Goals as goal

pub returns : goal.returns
returns c = search page_records
