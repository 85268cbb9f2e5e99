use Rattle.outcome.proofs.Outcome.{passed}
use Rattle.holders.proofs.Report.{report_refused, reports}
use Rattle.holders.proofs.holders_of.Goals as goal

pub returns-in_err-hold_all : goal.returns-in_err-hold_all
returns-in_err-hold_all c = report_refused _ _ _ _ c.hold_all.ensures _ _ (passed c.from_residual.ensures.1) c.in_err-hold_all.was

pub returns : goal.returns
returns c = search (reports, c.in_ok-hold_all.was)
