use Rattle.disk.proofs.Numbers.{Counting}
use Prim.Native.Nat.{◌-◌}
use Rattle.disk.proofs.free_sectors.Given as goal

abbrev pub invariant-loop-t : goal.invariant-loop-t
invariant-loop-t l = Counting l.per l.disk l.n l.t

abbrev pub decreases-loop-t : goal.decreases-loop-t
decreases-loop-t l = 35 - l.t
