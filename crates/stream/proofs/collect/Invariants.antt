use Rattle.stream.proofs.Images.{Collecting}
use lib.ListN.{length}
use Prim.Native.Nat.{◌-◌}
use Rattle.stream.proofs.collect.Given as goal

abbrev pub invariant-loop-p : goal.invariant-loop-p
invariant-loop-p l = Collecting l.ed l.s l.first.volume l.i l.good l.at l.initial.disk l.disk

abbrev pub decreases-loop-p : goal.decreases-loop-p
decreases-loop-p l = length l.s - l.i
