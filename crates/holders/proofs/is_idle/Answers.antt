use Rattle.holders.proofs.Sums.{idles}
use Rattle.holders.proofs.is_idle.Goals as goal

pub returns : goal.returns
returns c = search idles
