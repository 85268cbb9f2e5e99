use Rattle.outcome.proofs.Outcome.{passed}
use Rattle.host.proofs.Numbers.{open_is, puts_refused, puts_given}
use Rattle.host.proofs.put_opened.Goals as goal

pub returns-in_err-o : goal.returns-in_err-o
returns-in_err-o c = rw (← (open_is _)) (puts_refused _ _ _ _ _ (passed c.from_residual.ensures.1) c.in_err-o.ensures)

pub returns : goal.returns
returns c = rw (← (open_is _)) (puts_given _ _ _ _ c.in_ok-o.ensures _ _ c.put_fields.ensures)
