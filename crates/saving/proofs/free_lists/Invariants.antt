use Rattle.saving.proofs.Freeing.{Walking}
use Rattle.saving.proofs.free_lists.Given as goal

abbrev pub invariant-loop-turn : goal.invariant-loop-turn
invariant-loop-turn l = Walking l.disk l.initial.p l.initial.table l.most l._turn l.table l.p
