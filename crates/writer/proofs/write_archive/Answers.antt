use Rattle.outcome.proofs.Outcome.{passed}
use Rattle.writer.proofs.Calls.{write_refused, calls}
use Rattle.writer.proofs.write_archive.Goals as goal

pub returns-in_err-s : goal.returns-in_err-s
returns-in_err-s c = rw (passed c.from_residual.ensures.1) (write_refused _ _ c.in_err-s.field-0.0 c.in_err-s.ensures _)

pub returns-then-s-gt4096 : goal.returns-then-s-gt4096
returns-then-s-gt4096 c = search (calls, c.in_ok-s.ensures)

pub returns-then-out-size : goal.returns-then-out-size
returns-then-out-size c = search (calls, c.in_ok-s.ensures)

pub emit_all-requires : goal.emit_all-requires
emit_all-requires c = search (calls, c.in_ok-s.ensures)

pub returns : goal.returns
returns c = search (calls, c.in_ok-s.ensures)
