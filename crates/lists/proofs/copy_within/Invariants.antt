use Rattle.lists.proofs.Fills.{FillAtTo}
use lib.ListN.{length, get_or}
use Rattle.lists.proofs.copy_within.Given as goal

abbrev pub invariant-loop-k : goal.invariant-loop-k
invariant-loop-k l = FillAtTo (λ j. get_or l.src j 0) l.at (length l.src) l.k l.initial.dst l.dst
