use Prim.Native.Nat.{◌-◌}
use Rattle.records.proofs.Page.{Named}
use Rattle.records.proofs.writable_entries.Given as goal

abbrev pub invariant-loop-k : goal.invariant-loop-k
invariant-loop-k l = Named l.entries l.n l.k

abbrev pub decreases-loop-k : goal.decreases-loop-k
decreases-loop-k l = l.n - l.k
