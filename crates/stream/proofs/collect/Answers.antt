use Rattle.outcome.proofs.Outcome.{passed}
use Rattle.stream.proofs.Images.{collecting, collect_first, collect_bad, collect_sum}
use Rattle.stream.proofs.collect.Goals as goal

pub returns-in_err-first : goal.returns-in_err-first
returns-in_err-first c = collect_first _ _ _ _ _ (passed c.from_residual.ensures.1) c.in_err-first.ensures

pub returns-in_default : goal.returns-in_default
returns-in_default c = search collecting

pub loop-p-init : goal.loop-p-init
loop-p-init c = search collecting

pub returns-in_err-p : goal.returns-in_err-p
returns-in_err-p c = collect_bad _ _ _ _ _ _ _ _ c.loop-p.invariant _ _ (passed c.from_residual-in_err-p.ensures.1) c.in_err-p.ensures

pub returns-in_err-address_refusal : goal.returns-in_err-address_refusal
returns-in_err-address_refusal c = let e = rw c.in-Some-2.is at c.in_ok-p.ensures in collect_sum _ _ _ _ _ _ _ _ c.loop-p.invariant _ e _ _ (passed c.from_residual-in_err-address_refusal.ensures.1) c.in_err-address_refusal.ensures

pub returns-then-is_stranger : goal.returns-then-is_stranger
returns-then-is_stranger c = let e = rw c.in-Some-2.is at c.in_ok-p.ensures in search (collecting, e, c.in_ok-address_refusal.ensures)

pub sector_number-k-requires : goal.sector_number-k-requires
sector_number-k-requires c = let e = rw c.in-Some-2.is at c.in_ok-p.ensures in search (collecting, e)

pub decode_first-good-requires : goal.decode_first-good-requires
decode_first-good-requires c = let e = rw c.in-Some-2.is at c.in_ok-p.ensures in search (collecting, e)

pub loop-p-smaller : goal.loop-p-smaller
loop-p-smaller c = let e = rw c.in-Some-2.is at c.in_ok-p.ensures in search (collecting, e)

pub loop-p-preserved : goal.loop-p-preserved
loop-p-preserved c = let e = rw c.in-Some-2.is at c.in_ok-p.ensures in search (collecting, e)

pub returns : goal.returns
returns c = let e = rw c.in_default-2.is at c.in_ok-p.ensures in search (collecting, e)
