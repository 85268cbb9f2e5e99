use Rattle.filing.proofs.Writing.{data_makes}
use Rattle.filing.proofs.data_sector.Goals as goal

pub returns-then-k-eq0 : goal.returns-then-k-eq0
returns-then-k-eq0 c = search data_makes

pub returns : goal.returns
returns c = search data_makes
