use Rattle.nibble.specs.Running.{looked}
use Rattle.nibble.proofs.Runs.{Vals}
use lib.ListN.{length}
use Rattle.nibble.proofs.running.put_values.Given as goal

abbrev pub invariant-loop-k : goal.invariant-loop-k
invariant-loop-k l = Vals (looked l.table) l.nibbles (length l.initial.vals) l.initial.vals l.vals l.last l.k
