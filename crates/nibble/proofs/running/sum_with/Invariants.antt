use Rattle.nibble.specs.Running.{looked}
use Rattle.nibble.proofs.Runs.{Chains}
use Prim.Native.Nat.{◌-◌}
use Rattle.nibble.proofs.running.sum_with.Given as goal

abbrev pub invariant-loop-k : goal.invariant-loop-k
invariant-loop-k l = Chains (looked l.table) l.nibbles l.m l.even l.odd l.k

abbrev pub decreases-loop-k : goal.decreases-loop-k
decreases-loop-k l = l.m - l.k
