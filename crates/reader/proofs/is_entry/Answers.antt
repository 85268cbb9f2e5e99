use Rattle.reader.proofs.Opening.{steps}
use Rattle.reader.proofs.is_entry.Goals as goal

pub returns-then-b-eq0 : goal.returns-then-b-eq0
returns-then-b-eq0 c = search steps

pub returns : goal.returns
returns c = search steps
