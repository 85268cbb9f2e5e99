use Rattle.nibble.proofs.FiveThree.{grouped}
use Rattle.nibble.proofs.five_three.put_bytes.Goals as goal

pub loop-i-init : goal.loop-i-init
loop-i-init c = search grouped

pub loop-i-preserved : goal.loop-i-preserved
loop-i-preserved c = search grouped

pub returns : goal.returns
returns c = search grouped
