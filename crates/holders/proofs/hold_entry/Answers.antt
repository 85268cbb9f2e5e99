use Rattle.outcome.proofs.Outcome.{passed}
use Rattle.holders.proofs.Tallies.{entry_refused, entries}
use Rattle.holders.proofs.hold_entry.Goals as goal

pub returns-in_err-before : goal.returns-in_err-before
returns-in_err-before c = entry_refused _ _ _ _ _ _ _ (passed c.from_residual.ensures.1) c.in_err-before.was

pub returns-then-valid_file : goal.returns-then-valid_file
returns-then-valid_file c = search (entries, c.in_ok-before.was)

pub returns : goal.returns
returns c = search (entries, c.in_ok-before.was)
