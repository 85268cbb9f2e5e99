use Rattle.outcome.proofs.Outcome.{passed}
use Rattle.writer.proofs.Calls.{check_refused, calls}
use Rattle.writer.proofs.check_archive.Goals as goal

pub returns-in_err-s : goal.returns-in_err-s
returns-in_err-s c = rw (passed c.from_residual.ensures.1) (check_refused _ _ c.in_err-s.field-0.0 c.in_err-s.ensures _)

pub returns-then-s-gt4096 : goal.returns-then-s-gt4096
returns-then-s-gt4096 c = search (calls, c.in_ok-s.ensures)

pub returns-then-archive-total : goal.returns-then-archive-total
returns-then-archive-total c = search (calls, c.in_ok-s.ensures)

pub emit_all-m-requires : goal.emit_all-m-requires
emit_all-m-requires c = search (calls, c.in_ok-s.ensures)

pub returns-then-not-m : goal.returns-then-not-m
returns-then-not-m c = search (calls, c.in_ok-s.ensures)

pub returns : goal.returns
returns c = search (calls, c.in_ok-s.ensures)
