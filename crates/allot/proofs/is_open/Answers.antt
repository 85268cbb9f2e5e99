use Rattle.allot.proofs.Seeking.{tests}
use Rattle.allot.proofs.is_open.Goals as goal

pub returns : goal.returns
returns c = search tests
