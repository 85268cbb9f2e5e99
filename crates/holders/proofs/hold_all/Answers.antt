use Rattle.outcome.proofs.Outcome.{passed}
use Rattle.holders.proofs.Tallies.{all_refused, alls}
use Rattle.holders.proofs.hold_all.Goals as goal

pub returns-in_err-readable : goal.returns-in_err-readable
returns-in_err-readable c = all_refused _ _ _ _ _ (passed c.from_residual.ensures.1) c.in_err-readable.ensures

pub returns : goal.returns
returns c = search (alls, c.in_ok-readable.ensures)
