use Rattle.saving.proofs.Calls.{askers}
use Rattle.saving.proofs.delete_for.Goals as goal

pub returns : goal.returns
returns c = search askers
