use Rattle.outcome.proofs.Outcome.{passed}
use Rattle.host.specs.Exports.{format_numbers}
use Rattle.host.proofs.Numbers.{puts_refused, puts_given}
use Rattle.host.proofs.put_format.Goals as goal

pub returns-in_err-found : goal.returns-in_err-found
unfolding format_numbers
returns-in_err-found c = puts_refused _ _ _ _ _ (passed c.from_residual.ensures.1) c.in_err-found.ensures

pub returns : goal.returns
unfolding format_numbers
returns c = puts_given _ _ _ _ c.in_ok-found.ensures _ _ (rw c.bit.ensures at c.put_fields.ensures)
