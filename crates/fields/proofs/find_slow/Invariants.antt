use Rattle.fields.proofs.Seeks.{From}
use Rattle.fields.proofs.find_slow.Given as goal

abbrev pub invariant-loop-k : goal.invariant-loop-k
invariant-loop-k l = From l.s l.i l.k
