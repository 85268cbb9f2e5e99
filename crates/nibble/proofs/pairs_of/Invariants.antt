use Rattle.nibble.specs.Nibble.{pairs_at}
use Rattle.nibble.proofs.Ranges.{Ranged}
use Rattle.nibble.proofs.pairs_of.Given as goal

abbrev pub invariant-loop-k : goal.invariant-loop-k
invariant-loop-k l = Ranged (pairs_at l.vals) 86 l.initial.pairs l.pairs 0 86 l.k
