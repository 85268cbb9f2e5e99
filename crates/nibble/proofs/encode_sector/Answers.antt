use Rattle.nibble.proofs.Encode.{encodes}
use Rattle.nibble.proofs.encode_sector.Goals as goal

pub returns-then-src-ne256 : goal.returns-then-src-ne256
returns-then-src-ne256 c = search encodes

pub returns-then-out-lt343 : goal.returns-then-out-lt343
returns-then-out-lt343 c = search encodes

pub loop-k-init : goal.loop-k-init
loop-k-init c = search encodes

pub write-requires : goal.write-requires
write-requires c = search encodes

pub loop-k-preserved : goal.loop-k-preserved
loop-k-preserved c = search encodes

pub returns : goal.returns
returns c = search encodes
