use Rattle.catalog.proofs.Turns.{Walking}
use Rattle.catalog.proofs.count_from.Given as goal

abbrev pub invariant-loop-k : goal.invariant-loop-k
invariant-loop-k l = Walking l.per l.disk l.initial.p l.most l.k l.entries l.p
