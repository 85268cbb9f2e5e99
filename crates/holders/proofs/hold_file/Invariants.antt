use Rattle.holders.proofs.Tallies.{Listed}
use Rattle.holders.proofs.hold_file.Given as goal

abbrev pub invariant-loop-turn : goal.invariant-loop-turn
invariant-loop-turn l = Listed l.per l.disk l.initial.p l.initial.counts l.most l._turn l.good l.counts l.p
