use Rattle.allot.proofs.Seeking.{seeks}
use Rattle.allot.proofs.seek.Goals as goal

pub returns-then-is_some : goal.returns-then-is_some
returns-then-is_some c = search seeks

pub returns-then-is_some-2 : goal.returns-then-is_some-2
returns-then-is_some-2 c = search seeks

pub returns : goal.returns
returns c = search seeks
