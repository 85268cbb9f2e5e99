use Rattle.allot.proofs.Seeking.{legs}
use Rattle.allot.proofs.leg_up.Goals as goal

pub returns-in-Some : goal.returns-in-Some
returns-in-Some c = search legs

pub loop-t-preserved : goal.loop-t-preserved
loop-t-preserved c = search legs

pub returns : goal.returns
returns c = search legs
