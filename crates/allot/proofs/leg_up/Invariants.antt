use Rattle.allot.proofs.Seeking.{Left}
use Rattle.allot.proofs.leg_up.Given as goal

abbrev pub invariant-loop-t : goal.invariant-loop-t
invariant-loop-t l = Left l.table l.later 1 l.first l.t
