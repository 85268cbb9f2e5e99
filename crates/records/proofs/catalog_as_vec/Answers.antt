use Rattle.records.proofs.Page.{page_calls}
use Rattle.records.proofs.catalog_as_vec.Goals as goal

pub returns-then-n-gt7 : goal.returns-then-n-gt7
returns-then-n-gt7 c = search page_calls

pub returns-then-not-writable_entries : goal.returns-then-not-writable_entries
returns-then-not-writable_entries c = search page_calls

pub returns-then-out-lt256 : goal.returns-then-out-lt256
returns-then-out-lt256 c = search page_calls

pub returns : goal.returns
returns c = search page_calls
