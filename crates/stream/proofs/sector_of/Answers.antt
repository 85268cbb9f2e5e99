use Rattle.stream.proofs.Keyed.{sectored}
use Rattle.stream.proofs.sector_of.Goals as goal

pub returns-then-out-lt256 : goal.returns-then-out-lt256
returns-then-out-lt256 c = search (sectored, c.in_ok-at.ensures)

pub returns : goal.returns
returns c = search (sectored, c.in_ok-at.ensures)
