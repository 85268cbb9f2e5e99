use Rattle.holders.proofs.Tallies.{listings}
use Rattle.holders.proofs.hold_file.Goals as goal

pub loop-turn-init : goal.loop-turn-init
loop-turn-init c = search listings

pub returns-then-not-on_disk : goal.returns-then-not-on_disk
returns-then-not-on_disk c = search listings

pub returns-then-not-whole_link : goal.returns-then-not-whole_link
returns-then-not-whole_link c = search listings

pub returns-then-last_list : goal.returns-then-last_list
returns-then-last_list c = search listings

pub loop-turn-preserved : goal.loop-turn-preserved
loop-turn-preserved c = search listings

pub returns : goal.returns
returns c = search listings
