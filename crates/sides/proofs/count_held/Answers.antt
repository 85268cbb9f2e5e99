use Rattle.sides.proofs.Counts.{pagings}
use Rattle.sides.proofs.count_held.Goals as goal

pub loop-turn-init : goal.loop-turn-init
loop-turn-init c = search pagings

pub returns-then-last_page : goal.returns-then-last_page
returns-then-last_page c = search pagings

pub loop-turn-preserved : goal.loop-turn-preserved
loop-turn-preserved c = search pagings

pub returns : goal.returns
returns c = search pagings
