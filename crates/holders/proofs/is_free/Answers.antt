use Rattle.holders.proofs.Sums.{maps}
use Rattle.holders.proofs.is_free.Goals as goal

pub returns : goal.returns
returns c = search maps
