use Rattle.files.proofs.Datas.{starts}
use Rattle.files.proofs.file_start.Goals as goal

pub returns-then-kind-ne4 : goal.returns-then-kind-ne4
returns-then-kind-ne4 c = search starts

pub returns-then-low-high : goal.returns-then-low-high
returns-then-low-high c = search starts

pub returns : goal.returns
returns c = search starts
