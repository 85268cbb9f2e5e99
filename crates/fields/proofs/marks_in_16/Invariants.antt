use Rattle.fields.proofs.Seeks.{Hits}
use Rattle.fields.proofs.marks_in_16.Given as goal

abbrev pub invariant-loop-j : goal.invariant-loop-j
invariant-loop-j l = Hits l.s l.i l.hit l.j
