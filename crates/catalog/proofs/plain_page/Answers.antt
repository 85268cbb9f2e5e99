use Rattle.catalog.proofs.Turns.{plains}
use Rattle.catalog.proofs.plain_page.Goals as goal

pub loop-i-init : goal.loop-i-init
loop-i-init c = search plains

pub returns-then-not-plain_entry : goal.returns-then-not-plain_entry
returns-then-not-plain_entry c = search plains

pub loop-i-preserved : goal.loop-i-preserved
loop-i-preserved c = search plains

pub returns : goal.returns
returns c = search plains
