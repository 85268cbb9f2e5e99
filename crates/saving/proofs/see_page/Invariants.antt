use Rattle.saving.proofs.Looks.{Lining}
use Prim.Native.Nat.{◌-◌}
use Rattle.saving.proofs.see_page.Given as goal

abbrev pub invariant-loop-i : goal.invariant-loop-i
invariant-loop-i l = Lining l.disk l.name l.p l.initial.s l.i l.s

abbrev pub decreases-loop-i : goal.decreases-loop-i
decreases-loop-i l = 7 - l.i
