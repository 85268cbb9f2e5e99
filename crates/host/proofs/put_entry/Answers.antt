use Rattle.outcome.proofs.Outcome.{passed}
use Rattle.host.proofs.Numbers.{entry_is, puts_refused, puts_given}
use Rattle.host.proofs.put_entry.Goals as goal

pub returns-in_err-found : goal.returns-in_err-found
returns-in_err-found c = rw (← (entry_is _ _)) (puts_refused _ _ _ _ _ (passed c.from_residual.ensures.1) c.in_err-found.ensures)

pub returns : goal.returns
returns c = rw (← (entry_is _ _)) (puts_given _ _ _ _ c.in_ok-found.ensures _ _ (rw c.entry_values.ensures at c.put_fields.ensures))
