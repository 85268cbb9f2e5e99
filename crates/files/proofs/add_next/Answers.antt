use Rattle.files.proofs.Adds.{next_paged}
use Rattle.files.proofs.add_next.Goals as goal

pub returns : goal.returns
returns c = next_paged _ _ _ _ _ _ _ c.in_ok-before.was c.add_page.ensures
