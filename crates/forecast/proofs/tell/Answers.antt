use Rattle.forecast.proofs.Calls.{tells}
use Rattle.forecast.proofs.tell.Goals as goal

pub open_lines-left-requires : goal.open_lines-left-requires
open_lines-left-requires c = search tells

pub returns : goal.returns
returns c = search tells
