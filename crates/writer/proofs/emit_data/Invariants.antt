use Rattle.writer.specs.Passes.{writes, compared}
use Rattle.writer.proofs.Heads.{Emitting}
use Rattle.writer.proofs.emit_data.Given as goal

abbrev pub invariant-loop-j : goal.invariant-loop-j
invariant-loop-j l = Emitting (writes l.target) (compared l.target) l.data.disk.now l.data.places.now l.data.start l.data.size l.data.k l.first l.initial.t l.initial.out l.j l.t l.out
