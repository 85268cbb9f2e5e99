use Rattle.files.specs.Totals.{picked}
use Rattle.files.proofs.Adds.{Adding}
use Rattle.files.proofs.add_page.Given as goal

abbrev pub invariant-loop-i : goal.invariant-loop-i
invariant-loop-i l = Adding l.per l.disk (picked l.wanted) l.fn.before l.p l.i l.t
