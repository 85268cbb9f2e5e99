use Rattle.nibble.proofs.Encode.{Part}
use Rattle.nibble.specs.Nibble.{step_of}
use Rattle.nibble.proofs.steps.Given as goal

abbrev pub invariant-loop-k : goal.invariant-loop-k
invariant-loop-k l = Part (step_of l.src) l.diffs 343 1 86 l.k

abbrev pub invariant-loop-k-2 : goal.invariant-loop-k-2
invariant-loop-k-2 l = Part (step_of l.src) l.diffs 343 87 342 l.k
