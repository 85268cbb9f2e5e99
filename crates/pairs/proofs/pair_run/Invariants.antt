use Rattle.std.proofs.Common.{◌≡◌, length}
use Rattle.disk.specs.Disk.{per_of, place}
use Rattle.pairs.specs.Run.{pair_run, fitting}
use Rattle.pairs.proofs.Storing.{stored, hands_over}
use Rattle.pairs.proofs.pair_run.Given as goal

-- i of the pairs stand in the run
abbrev pub invariant-loop-i : goal.invariant-loop-i
invariant-loop-i l = l.run ≡ stored l.i (hands_over (fitting (length l.initial.run) (pair_run (per_of l.disk) l.disk (place l.track l.sector)))) l.initial.run
