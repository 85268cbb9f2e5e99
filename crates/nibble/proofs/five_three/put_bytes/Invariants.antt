use Rattle.nibble.proofs.FiveThree.{Grouped}
use Rattle.nibble.proofs.five_three.put_bytes.Given as goal

abbrev pub invariant-loop-i : goal.invariant-loop-i
invariant-loop-i l = Grouped l.vals l.initial.out l.out l.i
