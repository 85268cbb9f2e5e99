use Rattle.files.proofs.PairCalls.{pair_calls}
use Rattle.files.proofs.track_sector_pairs.Goals as goal

pub returns : goal.returns
returns c = search pair_calls
