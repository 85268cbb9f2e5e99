use Rattle.saving.proofs.Looks.{lookings}
use Rattle.saving.proofs.look.Goals as goal

pub loop-turn-init : goal.loop-turn-init
loop-turn-init c = search lookings

pub returns-then-last_page : goal.returns-then-last_page
returns-then-last_page c = search lookings

pub loop-turn-preserved : goal.loop-turn-preserved
loop-turn-preserved c = search lookings

pub returns : goal.returns
returns c = search lookings
