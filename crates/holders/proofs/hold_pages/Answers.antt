use Rattle.holders.proofs.Tallies.{pagings}
use Rattle.holders.proofs.hold_pages.Goals as goal

pub loop-turn-init : goal.loop-turn-init
loop-turn-init c = search pagings

pub returns-then-not-on_disk : goal.returns-then-not-on_disk
returns-then-not-on_disk c = search pagings

pub returns-then-not-plain_page : goal.returns-then-not-plain_page
returns-then-not-plain_page c = search pagings

pub returns-then-last_page : goal.returns-then-last_page
returns-then-last_page c = search pagings

pub loop-turn-preserved : goal.loop-turn-preserved
loop-turn-preserved c = search pagings

pub returns : goal.returns
returns c = search pagings
