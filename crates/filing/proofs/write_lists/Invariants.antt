use Prim.Native.Nat.{◌-◌}
use Rattle.filing.proofs.Writing.{Listing}
use Rattle.filing.proofs.write_lists.Given as goal

abbrev pub invariant-loop-j : goal.invariant-loop-j
invariant-loop-j l = Listing l.places l.count l.j l.initial.disk l.disk

abbrev pub decreases-loop-j : goal.decreases-loop-j
decreases-loop-j l = l.count - l.j
