use Rattle.allot.proofs.Marking.{tables}
use Rattle.allot.proofs.mark_in.Goals as goal

pub returns : goal.returns
returns c = search tables
