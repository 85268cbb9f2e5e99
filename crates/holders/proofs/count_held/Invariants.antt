use Rattle.holders.proofs.Sums.{Counted}
use Prim.Native.Nat.{◌-◌}
use Rattle.holders.specs.Tally.{is_held}
use Rattle.holders.proofs.count_held.Given as goal

abbrev pub invariant-loop-k : goal.invariant-loop-k
invariant-loop-k l = Counted (is_held l.counts l.v) l.total l.k l.n

abbrev pub decreases-loop-k : goal.decreases-loop-k
decreases-loop-k l = l.total - l.k
