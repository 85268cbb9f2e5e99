use Rattle.forecast.proofs.Tallies.{sums}
use Rattle.forecast.proofs.put_sums.Goals as goal

pub returns : goal.returns
returns c = search sums
