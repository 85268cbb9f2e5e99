use Rattle.files.specs.Totals.{picked}
use Rattle.files.proofs.Goes.{Going}
use Rattle.files.proofs.build_files.Given as goal

abbrev pub invariant-loop-turn : goal.invariant-loop-turn
invariant-loop-turn l = Going l.per l.disk (picked l.wanted) l.initial.p l.most l._turn l.t l.p
