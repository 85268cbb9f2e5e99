use Rattle.forecast.proofs.Opens.{Totalling}
use Rattle.forecast.proofs.open_lines.Given as goal

abbrev pub invariant-loop-turn : goal.invariant-loop-turn
invariant-loop-turn l = Totalling l.disk l.most l._turn l.many l.p
