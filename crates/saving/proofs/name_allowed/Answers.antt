use Rattle.outcome.proofs.Outcome.{passed}
use Rattle.saving.proofs.Calls.{allow_refused, allows}
use Rattle.saving.proofs.name_allowed.Goals as goal

pub returns-in_err-tidy : goal.returns-in_err-tidy
returns-in_err-tidy c = allow_refused _ _ _ _ _ (passed c.from_residual.ensures.1) c.in_err-tidy.ensures

pub returns-then-not-savable_name : goal.returns-then-not-savable_name
returns-then-not-savable_name c = search (allows, c.in_ok-tidy.ensures)

pub returns-then-not-may_name : goal.returns-then-not-may_name
returns-then-not-may_name c = search (allows, c.in_ok-tidy.ensures)

pub returns : goal.returns
returns c = search (allows, c.in_ok-tidy.ensures)
