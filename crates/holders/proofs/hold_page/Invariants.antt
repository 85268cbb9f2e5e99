use Rattle.holders.proofs.Tallies.{Lines}
use Prim.Native.Nat.{◌-◌}
use Rattle.holders.proofs.hold_page.Given as goal

abbrev pub invariant-loop-i : goal.invariant-loop-i
invariant-loop-i l = Lines l.per l.disk l.page l.initial.counts l.initial.r l.i l.counts l.r

abbrev pub decreases-loop-i : goal.decreases-loop-i
decreases-loop-i l = 7 - l.i
