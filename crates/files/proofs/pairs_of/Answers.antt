use Rattle.files.proofs.PairCalls.{pair_calls}
use Rattle.files.proofs.pairs_of.Goals as goal

pub returns-then-disk-per : goal.returns-then-disk-per
returns-then-disk-per c = search pair_calls

pub returns-then-not-on_disk : goal.returns-then-not-on_disk
returns-then-not-on_disk c = search pair_calls

pub returns-then-out-size : goal.returns-then-out-size
returns-then-out-size c = search pair_calls

pub returns : goal.returns
returns c = search pair_calls
