use Rattle.records.proofs.Answers.{file_calls}
use Rattle.records.proofs.full_file_as_vec.Goals as goal

pub returns-then-kind-ne4 : goal.returns-then-kind-ne4
returns-then-kind-ne4 c = search file_calls

pub returns-then-out-need : goal.returns-then-out-need
returns-then-out-need c = search file_calls

pub returns : goal.returns
returns c = search file_calls
