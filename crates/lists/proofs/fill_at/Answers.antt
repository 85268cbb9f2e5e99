use Rattle.lists.proofs.Placed.{placing}
use Rattle.lists.proofs.fill_at.Goals as goal

pub returns-then-dst-at : goal.returns-then-dst-at
returns-then-dst-at c = search placing

pub returns-then-dst-at-2 : goal.returns-then-dst-at-2
returns-then-dst-at-2 c = search placing

pub returns : goal.returns
returns c = search placing
