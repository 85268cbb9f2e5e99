use Rattle.stream.proofs.Numbers.{told}
use Rattle.stream.proofs.sum_at.Goals as goal

pub returns-in-Sixteen : goal.returns-in-Sixteen
returns-in-Sixteen c = search told

pub returns-in-Thirteen : goal.returns-in-Thirteen
returns-in-Thirteen c = search told
