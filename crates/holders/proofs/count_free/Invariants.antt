use Rattle.holders.proofs.Sums.{Tracks}
use Prim.Native.Nat.{◌-◌}
use Rattle.holders.proofs.count_free.Given as goal

abbrev pub invariant-loop-t : goal.invariant-loop-t
invariant-loop-t l = Tracks l.per l.disk l.counts l.t l.n

abbrev pub decreases-loop-t : goal.decreases-loop-t
decreases-loop-t l = 35 - l.t
