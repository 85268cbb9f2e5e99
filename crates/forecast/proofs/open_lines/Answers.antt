use Rattle.forecast.proofs.Opens.{totals}
use Rattle.forecast.proofs.open_lines.Goals as goal

pub loop-turn-init : goal.loop-turn-init
loop-turn-init c = search totals

pub returns-then-last_page : goal.returns-then-last_page
returns-then-last_page c = search totals

pub loop-turn-preserved : goal.loop-turn-preserved
loop-turn-preserved c = search totals

pub returns : goal.returns
returns c = search totals
