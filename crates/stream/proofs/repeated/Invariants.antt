use Prim.Native.Nat.{◌-◌}
use Rattle.stream.proofs.Keyed.{Left}
use Rattle.stream.proofs.repeated.Given as goal

abbrev pub invariant-loop-i : goal.invariant-loop-i
invariant-loop-i l = Left l.ed l.s l.e l.p l.i

abbrev pub decreases-loop-i : goal.decreases-loop-i
decreases-loop-i l = l.e - l.i
