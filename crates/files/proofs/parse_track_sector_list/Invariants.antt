use Rattle.files.proofs.Runs.{Pairing}
use Rattle.files.proofs.parse_track_sector_list.Given as goal

abbrev pub invariant-loop-i : goal.invariant-loop-i
invariant-loop-i l = Pairing l.per l.disk l.p l.i l.good
