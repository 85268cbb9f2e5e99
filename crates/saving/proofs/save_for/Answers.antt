use Rattle.saving.proofs.Calls.{askers}
use Rattle.saving.proofs.save_for.Goals as goal

pub returns : goal.returns
returns c = search askers
