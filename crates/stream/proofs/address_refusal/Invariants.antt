use lib.ListN.{length}
use Prim.Native.Nat.{◌-◌}
use Rattle.stream.proofs.Images.{Ahead}
use Rattle.stream.proofs.address_refusal.Given as goal

abbrev pub invariant-loop-p : goal.invariant-loop-p
invariant-loop-p l = Ahead l.ed l.s l.i l.k

abbrev pub decreases-loop-p : goal.decreases-loop-p
decreases-loop-p l = length l.s - l.k
