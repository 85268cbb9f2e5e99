use Rattle.outcome.proofs.Outcome.{passed}
use Rattle.host.specs.Exports.{holder_numbers}
use Rattle.host.proofs.Numbers.{puts_refused, puts_given}
use Rattle.host.proofs.put_holders.Goals as goal

pub returns-in_err-h : goal.returns-in_err-h
unfolding holder_numbers
returns-in_err-h c = puts_refused _ _ _ _ _ (passed c.from_residual.ensures.1) c.in_err-h.ensures

pub returns : goal.returns
unfolding holder_numbers
returns c = puts_given _ _ _ _ c.in_ok-h.ensures _ _ (rw c.bit.ensures at c.put_fields.ensures)
