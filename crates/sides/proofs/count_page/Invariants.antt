use Prim.Native.Nat.{◌-◌}
use Rattle.sides.proofs.Counts.{Lining}
use Rattle.sides.proofs.count_page.Given as goal

abbrev pub invariant-loop-i : goal.invariant-loop-i
invariant-loop-i l = Lining l.per l.disk l.side l.p l.i l.many

abbrev pub decreases-loop-i : goal.decreases-loop-i
decreases-loop-i l = 7 - l.i
