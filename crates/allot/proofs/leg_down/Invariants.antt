use Rattle.allot.proofs.Seeking.{Left}
use Rattle.allot.proofs.leg_down.Given as goal

abbrev pub invariant-loop-s : goal.invariant-loop-s
invariant-loop-s l = Left l.table l.later 255 l.initial.t l.t

abbrev pub decreases-loop-s : goal.decreases-loop-s
decreases-loop-s l = l.t
