use Rattle.catalog.proofs.Shown.{Trimming}
use Rattle.catalog.proofs.shown_length.Given as goal

abbrev pub invariant-loop-n : goal.invariant-loop-n
invariant-loop-n l = Trimming l.raw l.n
