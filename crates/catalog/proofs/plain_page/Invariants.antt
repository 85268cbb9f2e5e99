use Rattle.catalog.proofs.Turns.{Plain}
use Prim.Native.Nat.{◌-◌}
use Rattle.catalog.proofs.plain_page.Given as goal

abbrev pub invariant-loop-i : goal.invariant-loop-i
invariant-loop-i l = Plain l.per l.disk l.p l.i

abbrev pub decreases-loop-i : goal.decreases-loop-i
decreases-loop-i l = 7 - l.i
