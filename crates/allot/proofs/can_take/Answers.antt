use Rattle.allot.proofs.Seeking.{tests}
use Rattle.allot.proofs.can_take.Goals as goal

pub returns : goal.returns
returns c = search tests
