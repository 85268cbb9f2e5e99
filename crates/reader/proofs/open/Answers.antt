use Rattle.reader.proofs.Opening.{opens}
use Rattle.reader.proofs.open.Goals as goal

pub returns-then-not-sound_first : goal.returns-then-not-sound_first
returns-then-not-sound_first c = search opens

pub read_entries-requires : goal.read_entries-requires
read_entries-requires c = search opens

pub overflow_cast-result : goal.overflow_cast-result
overflow_cast-result c = search opens

pub returns : goal.returns
returns c = search opens

pub returns-in-Unsound : goal.returns-in-Unsound
returns-in-Unsound c = search opens
