use Rattle.allot.proofs.Seeking.{legs}
use Rattle.allot.proofs.leg_down.Goals as goal

pub returns-in-Some : goal.returns-in-Some
returns-in-Some c = search legs

pub returns-then-t-eq0 : goal.returns-then-t-eq0
returns-then-t-eq0 c = search legs

pub loop-s-preserved : goal.loop-s-preserved
loop-s-preserved c = search legs
