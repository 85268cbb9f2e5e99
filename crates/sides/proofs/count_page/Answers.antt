use Rattle.sides.proofs.Counts.{linings}
use Rattle.sides.proofs.count_page.Goals as goal

pub loop-i-init : goal.loop-i-init
loop-i-init c = search linings

pub loop-i-preserved : goal.loop-i-preserved
loop-i-preserved c = search linings

pub returns : goal.returns
returns c = search linings
