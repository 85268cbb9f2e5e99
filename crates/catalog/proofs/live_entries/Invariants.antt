use Rattle.catalog.proofs.Turns.{Living}
use Prim.Native.Nat.{◌-◌}
use Rattle.catalog.proofs.live_entries.Given as goal

abbrev pub invariant-loop-i : goal.invariant-loop-i
invariant-loop-i l = Living l.per l.disk l.p l.n l.i

abbrev pub decreases-loop-i : goal.decreases-loop-i
decreases-loop-i l = 7 - l.i
