use Rattle.filing.proofs.Writing.{filings}
use Rattle.filing.proofs.write_file.Goals as goal

pub returns-then-data-gt32768 : goal.returns-then-data-gt32768
returns-then-data-gt32768 c = search filings

pub returns : goal.returns
returns c = search filings
