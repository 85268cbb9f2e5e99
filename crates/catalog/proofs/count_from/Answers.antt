use Rattle.catalog.proofs.Turns.{walks}
use Rattle.catalog.proofs.count_from.Goals as goal

pub loop-k-init : goal.loop-k-init
loop-k-init c = search walks

pub returns-then-not-on_disk : goal.returns-then-not-on_disk
returns-then-not-on_disk c = search walks

pub returns-then-not-plain_page : goal.returns-then-not-plain_page
returns-then-not-plain_page c = search walks

pub returns-then-last_page : goal.returns-then-last_page
returns-then-last_page c = search walks

pub loop-k-preserved : goal.loop-k-preserved
loop-k-preserved c = search walks

pub returns : goal.returns
returns c = search walks
