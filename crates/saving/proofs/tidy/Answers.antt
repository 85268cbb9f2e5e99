use Rattle.outcome.proofs.Outcome.{passed}
use Rattle.saving.proofs.Tidied.{tidy_refused, tidies}
use Rattle.saving.proofs.tidy.Goals as goal

pub returns-then-disk-ne143360 : goal.returns-then-disk-ne143360
returns-then-disk-ne143360 c = search tidies

pub returns-in_err-report : goal.returns-in_err-report
returns-in_err-report c = tidy_refused _ (search tidies) _ _ (passed c.from_residual.ensures.1) c.in_err-report.ensures

pub returns-then-not-report : goal.returns-then-not-report
returns-then-not-report c = search (tidies, c.in_ok-report.ensures)

pub returns : goal.returns
returns c = search (tidies, c.in_ok-report.ensures)
