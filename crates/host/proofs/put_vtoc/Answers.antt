use Rattle.outcome.proofs.Outcome.{passed}
use Rattle.host.proofs.Numbers.{vtoc_refused, vtoc_given}
use Rattle.host.proofs.put_vtoc.Goals as goal

pub returns-in_err-v : goal.returns-in_err-v
returns-in_err-v c = vtoc_refused _ _ _ _ (passed c.from_residual.ensures.1) c.in_err-v.ensures

pub returns : goal.returns
returns c = vtoc_given _ _ _ c.in_ok-v.ensures _ c.direction_byte.ensures _ _ _ c.vtoc_values.ensures c.put_fields.ensures
