use Rattle.allot.proofs.Taking.{Taking}
use Rattle.allot.proofs.take_sectors.Given as goal

abbrev pub invariant-loop-i : goal.invariant-loop-i
invariant-loop-i l = Taking l.m l.initial.table l.initial.places l.i l.table l.places
