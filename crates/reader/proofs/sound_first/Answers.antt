use Rattle.reader.proofs.Tests.{blocks}
use Rattle.reader.proofs.sound_first.Goals as goal

pub returns-then-n-gt4095 : goal.returns-then-n-gt4095
returns-then-n-gt4095 c = search blocks

pub returns-then-archive-n : goal.returns-then-archive-n
returns-then-archive-n c = search blocks

pub returns : goal.returns
returns c = search blocks
