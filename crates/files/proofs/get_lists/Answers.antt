use Rattle.files.proofs.ListCalls.{listings}
use Rattle.files.proofs.get_lists.Goals as goal

pub returns-then-out-size : goal.returns-then-out-size
returns-then-out-size c = search listings

pub write_lists-requires : goal.write_lists-requires
write_lists-requires c = search listings

pub returns : goal.returns
returns c = search listings
