use Rattle.holders.proofs.Tallies.{Pairing}
use Rattle.holders.proofs.hold_pairs.Given as goal

abbrev pub invariant-loop-i : goal.invariant-loop-i
invariant-loop-i l = Pairing l.per l.disk l.p l.initial.counts l.i l.good l.counts
