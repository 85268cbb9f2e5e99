use Rattle.catalog.proofs.Shown.{entering}
use Rattle.catalog.proofs.entry_head.Goals as goal

pub returns-then-disk-at : goal.returns-then-disk-at
returns-then-disk-at c = search entering
