use Rattle.saving.proofs.Freeing.{copies}
use Rattle.saving.proofs.vtoc_copy.Goals as goal

pub returns : goal.returns
returns c = search copies
