use native.Mathlib.Omega.{arith}
use Rattle.disk.proofs.Numbers.{signed_low, signed_high}
use Rattle.disk.proofs.signed_byte.Goals as goal

pub returns-then-b-lt128 : goal.returns-then-b-lt128
returns-then-b-lt128 c = signed_low _ (omega arith)

pub returns-else-b-lt128 : goal.returns-else-b-lt128
returns-else-b-lt128 c = signed_high _ (omega arith) (omega arith)
