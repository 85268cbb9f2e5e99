use lib.ListN.{length}
use Prim.Native.Nat.{◌-◌}
use Rattle.stream.proofs.Keyed.{Looking}
use Rattle.stream.proofs.locate.Given as goal

abbrev pub invariant-loop-p : goal.invariant-loop-p
invariant-loop-p l = Looking l.ed l.s l.volume l.track l.sector l.i l.good l.at

abbrev pub decreases-loop-p : goal.decreases-loop-p
decreases-loop-p l = length l.s - l.i
