use Rattle.outcome.proofs.Outcome.{passed}
use Rattle.stream.proofs.Images.{ahead, ahead_bad}
use Rattle.stream.proofs.address_refusal.Goals as goal

pub returns-in_err-p : goal.returns-in_err-p
returns-in_err-p c = ahead_bad _ _ _ _ c.loop-p.invariant _ _ (passed c.from_residual.ensures.1) c.in_err-p.ensures

pub loop-p-smaller : goal.loop-p-smaller
loop-p-smaller c = search ahead

pub loop-p-preserved : goal.loop-p-preserved
loop-p-preserved c = search ahead

pub returns : goal.returns
returns c = search ahead
