use Rattle.holders.proofs.Tallies.{holds}
use Rattle.holders.proofs.hold.Goals as goal

pub returns-then-counts-k : goal.returns-then-counts-k
returns-then-counts-k c = search holds

pub returns-then-c-lt2 : goal.returns-then-c-lt2
returns-then-c-lt2 c = search holds

pub returns-else-c-lt2 : goal.returns-else-c-lt2
returns-else-c-lt2 c = search holds
