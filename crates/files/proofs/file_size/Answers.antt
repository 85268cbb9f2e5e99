use Rattle.files.proofs.Adds.{sizes}
use Rattle.files.proofs.file_size.Goals as goal

pub returns-then-kind-ne4 : goal.returns-then-kind-ne4
returns-then-kind-ne4 c = search sizes

pub returns-then-stated-total : goal.returns-then-stated-total
returns-then-stated-total c = search sizes

pub returns : goal.returns
returns c = search sizes
