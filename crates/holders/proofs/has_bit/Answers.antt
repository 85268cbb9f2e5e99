use Rattle.holders.proofs.Sums.{maps}
use Rattle.holders.proofs.has_bit.Goals as goal

pub returns-then-k-lt16 : goal.returns-then-k-lt16
returns-then-k-lt16 c = search maps

pub returns-else-k-lt16 : goal.returns-else-k-lt16
returns-else-k-lt16 c = search maps
