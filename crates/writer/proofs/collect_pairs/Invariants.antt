use Rattle.files.proofs.Copying.{Pairs}
use Rattle.writer.specs.Passes.{start_of, spot}
use Rattle.writer.proofs.collect_pairs.Given as goal

abbrev pub invariant-loop-i : goal.invariant-loop-i
invariant-loop-i l = Pairs l.per l.disk (start_of l.per) l.p 257 (spot l.first) l.initial.places l.i (spot l.at) l.places
