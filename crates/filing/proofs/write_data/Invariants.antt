use Rattle.filing.proofs.Writing.{Storing}
use Prim.Native.Nat.{◌-◌}
use Rattle.filing.proofs.write_data.Given as goal

abbrev pub invariant-loop-k : goal.invariant-loop-k
invariant-loop-k l = Storing l.places l.address l.«data» l.count l.k l.initial.disk l.disk

abbrev pub decreases-loop-k : goal.decreases-loop-k
decreases-loop-k l = l.count - l.k
