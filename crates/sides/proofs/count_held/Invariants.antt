use Rattle.sides.proofs.Counts.{Paging}
use Rattle.sides.proofs.count_held.Given as goal

abbrev pub invariant-loop-turn : goal.invariant-loop-turn
invariant-loop-turn l = Paging l.per l.disk l.side l.most l._turn l.many l.p
