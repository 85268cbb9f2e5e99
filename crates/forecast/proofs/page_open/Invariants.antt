use Rattle.forecast.proofs.Opens.{Counting}
use Prim.Native.Nat.{◌-◌}
use Rattle.forecast.proofs.page_open.Given as goal

abbrev pub invariant-loop-i : goal.invariant-loop-i
invariant-loop-i l = Counting l.disk l.p l.i l.many

abbrev pub decreases-loop-i : goal.decreases-loop-i
decreases-loop-i l = 7 - l.i
