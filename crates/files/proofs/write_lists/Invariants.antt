use Rattle.files.proofs.ListCalls.{Placing}
use Rattle.files.proofs.write_lists.Given as goal

abbrev pub invariant-loop-turn : goal.invariant-loop-turn
invariant-loop-turn l = Placing l.per l.disk l.initial.p l.most l._turn l.w l.p l.initial.out l.out
