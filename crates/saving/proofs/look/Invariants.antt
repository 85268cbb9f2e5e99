use Rattle.saving.proofs.Looks.{Looking}
use Rattle.saving.proofs.look.Given as goal

abbrev pub invariant-loop-turn : goal.invariant-loop-turn
invariant-loop-turn l = Looking l.disk l.name l.most l._turn l.s l.p
