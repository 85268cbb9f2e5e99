use Rattle.saving.proofs.Freeing.{list_frees}
use Rattle.saving.proofs.free_list.Goals as goal

pub returns : goal.returns
returns c = search list_frees
