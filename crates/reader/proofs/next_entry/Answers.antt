use Rattle.reader.proofs.Opening.{steps}
use Rattle.reader.proofs.next_entry.Goals as goal

pub returns-then-is_entry : goal.returns-then-is_entry
returns-then-is_entry c = search steps

pub returns : goal.returns
returns c = search steps
