use Rattle.allot.proofs.Seeking.{tops}
use Rattle.allot.proofs.top_sector.Goals as goal

pub returns-then-not-is_open : goal.returns-then-not-is_open
returns-then-not-is_open c = search tops

pub returns-then-can_take : goal.returns-then-can_take
returns-then-can_take c = search tops

pub loop-s-preserved : goal.loop-s-preserved
loop-s-preserved c = search tops

pub returns : goal.returns
returns c = search tops
