use Rattle.catalog.proofs.Shown.{Naming}
use Rattle.catalog.proofs.filename.Given as goal

abbrev pub invariant-loop-k : goal.invariant-loop-k
invariant-loop-k l = Naming l.raw l.n l.k l.initial.letters l.letters
