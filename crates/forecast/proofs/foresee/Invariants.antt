use Rattle.forecast.proofs.Tallies.{Foreseeing}
use Rattle.forecast.proofs.foresee.Given as goal

abbrev pub invariant-loop-i : goal.invariant-loop-i
invariant-loop-i l = Foreseeing l.initial.table l.left l.lengths l.initial.numbers l.i l.s l.table l.numbers
