use Rattle.files.proofs.Runs.{Following}
use Rattle.files.proofs.build_file.Given as goal

abbrev pub invariant-loop-k : goal.invariant-loop-k
invariant-loop-k l = Following l.per l.disk l.initial.p l.most l.k l.m l.good l.head l.p
