use Rattle.nibble.proofs.Decode.{decodes}
use Rattle.nibble.proofs.decode_sector.Goals as goal

pub returns-then-vals-ne0 : goal.returns-then-vals-ne0
returns-then-vals-ne0 c = search decodes

pub returns-then-out-lt256 : goal.returns-then-out-lt256
returns-then-out-lt256 c = search decodes

pub returns : goal.returns
returns c = search decodes
