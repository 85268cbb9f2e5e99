use Rattle.nibble.proofs.Decode.{unpacks}
use Rattle.nibble.proofs.sector_data.Goals as goal

pub returns-then-out-lt256 : goal.returns-then-out-lt256
returns-then-out-lt256 c = search unpacks

pub returns : goal.returns
returns c = search unpacks
