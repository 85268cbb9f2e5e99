use Rattle.reader.proofs.Finding.{Passed}
use Prim.Native.Nat.{◌-◌}
use Rattle.reader.proofs.find_entry.Given as goal

abbrev pub invariant-loop-i : goal.invariant-loop-i
invariant-loop-i l = Passed l.archive l.block l.i

abbrev pub decreases-loop-i : goal.decreases-loop-i
decreases-loop-i l = l.blocks - l.i
