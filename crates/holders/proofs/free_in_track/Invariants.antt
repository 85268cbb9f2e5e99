use Rattle.holders.proofs.Sums.{InTrack}
use Prim.Native.Nat.{◌-◌}
use Rattle.holders.proofs.free_in_track.Given as goal

abbrev pub invariant-loop-s : goal.invariant-loop-s
invariant-loop-s l = InTrack l.per l.disk l.counts l.t l.w l.low l.from l.s l.n

abbrev pub decreases-loop-s : goal.decreases-loop-s
decreases-loop-s l = l.per - l.s
