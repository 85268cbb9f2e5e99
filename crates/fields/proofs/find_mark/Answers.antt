use Rattle.fields.proofs.Seeks.{seeks}
use Rattle.fields.proofs.find_mark.Goals as goal

pub returns-then-s-i : goal.returns-then-s-i
returns-then-s-i c = search seeks
