use Rattle.std.proofs.Common.{sym}
use Rattle.outcome.proofs.Outcome.{passed, hands_refused}
use Rattle.host.proofs.put_window.Goals as goal

pub returns-in_err-bytes : goal.returns-in_err-bytes
returns-in_err-bytes c = hands_refused _ _ _ (sym c.in_err-bytes.ensures) _ (passed c.from_residual.ensures.1)
