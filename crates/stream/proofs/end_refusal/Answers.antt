use Rattle.stream.proofs.Images.{decided}
use Rattle.stream.proofs.end_refusal.Goals as goal

pub returns : goal.returns
returns c = search decided
