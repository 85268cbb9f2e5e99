use Rattle.files.proofs.Datas.{Lists}
use Rattle.writer.specs.Passes.{start_of, spot}
use Rattle.writer.proofs.collect.Given as goal

abbrev pub invariant-loop-turn : goal.invariant-loop-turn
invariant-loop-turn l = Lists l.per l.disk (start_of l.per) l.initial.p 257 (spot 0) l.initial.places l.most l._turn l.p (spot l.at) l.places
