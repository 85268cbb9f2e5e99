use Rattle.stream.proofs.Images.{imaged}
use Rattle.stream.proofs.denibblize_of.Goals as goal

pub collect-requires : goal.collect-requires
collect-requires c = search imaged

pub returns : goal.returns
returns c = search (imaged, c.in_ok-collect.ensures)
