use Rattle.outcome.proofs.Outcome.{passed}
use Rattle.stream.proofs.Keyed.{looking, looking_bad}
use Rattle.stream.proofs.locate.Goals as goal

pub loop-p-init : goal.loop-p-init
loop-p-init c = search looking

pub returns-in_err-p : goal.returns-in_err-p
returns-in_err-p c = looking_bad _ _ _ _ _ _ _ _ c.loop-p.invariant _ _ (passed c.from_residual.ensures.1) c.in_err-p.ensures

pub sums_right-good-requires : goal.sums_right-good-requires
sums_right-good-requires c = search looking

pub loop-p-smaller : goal.loop-p-smaller
loop-p-smaller c = search looking

pub loop-p-preserved : goal.loop-p-preserved
loop-p-preserved c = search looking

pub returns : goal.returns
returns c = let e = rw c.in_default.is at c.in_ok-p.ensures in search (looking, e)
