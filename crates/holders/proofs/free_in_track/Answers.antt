use Rattle.holders.proofs.Sums.{tracks}
use Rattle.holders.proofs.free_in_track.Goals as goal

pub returns-then-is_idle : goal.returns-then-is_idle
returns-then-is_idle c = search tracks

pub loop-s-init : goal.loop-s-init
loop-s-init c = search tracks

pub loop-s-preserved : goal.loop-s-preserved
loop-s-preserved c = search tracks
