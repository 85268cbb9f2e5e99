use Rattle.filing.proofs.Writing.{list_makes}
use Rattle.filing.proofs.list_sector.Goals as goal

pub returns : goal.returns
returns c = search list_makes
