use Rattle.allot.proofs.Taking.{taking}
use Rattle.allot.proofs.take_sectors.Goals as goal

pub returns-then-table-ne256 : goal.returns-then-table-ne256
returns-then-table-ne256 c = search taking

pub returns-then-places-m : goal.returns-then-places-m
returns-then-places-m c = search taking

pub loop-i-init : goal.loop-i-init
loop-i-init c = search taking

pub returns-in_default : goal.returns-in_default
returns-in_default c = search taking

pub loop-i-preserved : goal.loop-i-preserved
loop-i-preserved c = search taking

pub returns : goal.returns
returns c = search taking
