use Prim.Native.Nat.{◌-◌}
use Rattle.records.proofs.Page.{Paging}
use Rattle.records.proofs.put_entries.Given as goal

abbrev pub invariant-loop-i : goal.invariant-loop-i
invariant-loop-i l = Paging l.entries l.n l.i l.initial.page l.page

abbrev pub decreases-loop-i : goal.decreases-loop-i
decreases-loop-i l = l.n - l.i
