use Rattle.holders.proofs.Tallies.{lines}
use Rattle.holders.proofs.hold_page.Goals as goal

pub loop-i-init : goal.loop-i-init
loop-i-init c = search lines

pub loop-i-preserved : goal.loop-i-preserved
loop-i-preserved c = search lines

pub returns : goal.returns
returns c = search lines
