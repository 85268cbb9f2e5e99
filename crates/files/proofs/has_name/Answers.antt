use Rattle.files.proofs.Adds.{names}
use Rattle.files.proofs.has_name.Goals as goal

pub returns : goal.returns
returns c = search names
