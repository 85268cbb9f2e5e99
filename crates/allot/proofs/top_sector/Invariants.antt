use Rattle.allot.proofs.Seeking.{Topping}
use Rattle.allot.proofs.top_sector.Given as goal

abbrev pub invariant-loop-s : goal.invariant-loop-s
invariant-loop-s l = Topping l.table l.later l.t l.w l.s
