use Rattle.nibblize.proofs.Writing.{Writing}
use Rattle.nibblize.proofs.put_blocks.Given as goal

abbrev pub invariant-loop-k : goal.invariant-loop-k
invariant-loop-k l = Writing l.volume l.disk l.initial.out l.out l.k
