use Rattle.nibble.proofs.Encode.{Part}
use Rattle.nibble.specs.Nibble.{value_of}
use Rattle.nibble.proofs.lows.Given as goal

abbrev pub invariant-loop-k : goal.invariant-loop-k
invariant-loop-k l = Part (value_of l.src) l.vals 86 0 84 l.k

abbrev pub invariant-loop-k-2 : goal.invariant-loop-k-2
invariant-loop-k-2 l = Part (value_of l.src) l.vals 86 84 86 l.k
