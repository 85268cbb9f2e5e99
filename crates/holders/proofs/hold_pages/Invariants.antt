use Rattle.holders.proofs.Tallies.{Paging}
use Rattle.holders.proofs.hold_pages.Given as goal

abbrev pub invariant-loop-turn : goal.invariant-loop-turn
invariant-loop-turn l = Paging l.per l.disk l.initial.p l.initial.counts l.most l._turn l.r l.counts l.p
