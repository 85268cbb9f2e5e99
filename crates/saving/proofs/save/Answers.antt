use Rattle.saving.proofs.Calls.{askers}
use Rattle.saving.proofs.save.Goals as goal

pub returns : goal.returns
returns c = search askers
