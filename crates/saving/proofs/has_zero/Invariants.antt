use Rattle.saving.proofs.Names.{Zeros}
use Rattle.saving.proofs.has_zero.Given as goal

abbrev pub invariant-loop-k : goal.invariant-loop-k
invariant-loop-k l = Zeros l.name l.k
