use Rattle.reader.proofs.Opening.{steps}
use Rattle.reader.proofs.fields_in.Goals as goal

pub returns : goal.returns
returns c = search steps
