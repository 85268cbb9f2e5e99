use Rattle.nibble.proofs.Encode.{Outs}
use Rattle.nibble.proofs.encode_sector.Given as goal

abbrev pub invariant-loop-k : goal.invariant-loop-k
invariant-loop-k l = Outs l.src l.initial.out l.out l.k
