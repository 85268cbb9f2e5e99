use Rattle.stream.proofs.Images.{Having}
use Rattle.stream.proofs.complete.Given as goal

abbrev pub invariant-loop-k : goal.invariant-loop-k
invariant-loop-k l = Having l.at l.k
