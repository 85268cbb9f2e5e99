use Rattle.disk.proofs.Numbers.{tables}
use Rattle.disk.proofs.table.Goals as goal

pub returns : goal.returns
returns c = search tables
