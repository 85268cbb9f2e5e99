use Rattle.saving.proofs.Freeing.{Freeing}
use Rattle.saving.proofs.free_pairs.Given as goal

abbrev pub invariant-loop-i : goal.invariant-loop-i
invariant-loop-i l = Freeing l.disk l.p l.initial.table l.i l.table
