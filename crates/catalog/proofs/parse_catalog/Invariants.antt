use Rattle.catalog.proofs.Writes.{Paging}
use Prim.Native.Nat.{◌-◌}
use Rattle.catalog.proofs.parse_catalog.Given as goal

abbrev pub invariant-loop-i : goal.invariant-loop-i
invariant-loop-i l = Paging l.per l.disk l.p l.i l.w l.initial.out l.out

abbrev pub decreases-loop-i : goal.decreases-loop-i
decreases-loop-i l = 7 - l.i
