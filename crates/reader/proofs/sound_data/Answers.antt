use Rattle.reader.proofs.Tests.{blocks}
use Rattle.reader.proofs.sound_data.Goals as goal

pub returns-then-s-lt256 : goal.returns-then-s-lt256
returns-then-s-lt256 c = search blocks

pub returns-then-not-same : goal.returns-then-not-same
returns-then-not-same c = search blocks

pub returns : goal.returns
returns c = search blocks
