use Rattle.catalog.proofs.Writes.{Listed}
use Rattle.catalog.proofs.write_pages.Given as goal

abbrev pub invariant-loop-turn : goal.invariant-loop-turn
invariant-loop-turn l = Listed l.per l.disk l.initial.p l.most l._turn l.w l.p l.initial.out l.out
