use Rattle.nibble.specs.Nibble.{byte_from}
use Rattle.nibble.proofs.Ranges.{Ranged}
use Rattle.nibble.proofs.put_bytes.Given as goal

abbrev pub invariant-loop-i : goal.invariant-loop-i
invariant-loop-i l = Ranged (byte_from l.vals) 256 l.initial.out l.out 0 86 l.i

abbrev pub invariant-loop-i-2 : goal.invariant-loop-i-2
invariant-loop-i-2 l = Ranged (byte_from l.vals) 256 l.initial.out l.out 86 172 l.i

abbrev pub invariant-loop-i-3 : goal.invariant-loop-i-3
invariant-loop-i-3 l = Ranged (byte_from l.vals) 256 l.initial.out l.out 172 256 l.i
