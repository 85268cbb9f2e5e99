use Rattle.nibble.proofs.Encode.{masked}
use Rattle.nibble.proofs.low6.Goals as goal

pub returns : goal.returns
returns c = search masked
