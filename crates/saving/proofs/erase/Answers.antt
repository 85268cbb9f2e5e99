use Rattle.saving.proofs.Calls.{erases}
use Rattle.saving.proofs.erase.Goals as goal

pub free_lists-requires : goal.free_lists-requires
free_lists-requires c = search erases

pub returns : goal.returns
returns c = search erases
