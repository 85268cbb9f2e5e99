use Rattle.writer.proofs.Stands.{Compared}
use Rattle.writer.proofs.equal.Given as goal

abbrev pub invariant-loop-k : goal.invariant-loop-k
invariant-loop-k l = Compared l.a l.b l.k l.all
