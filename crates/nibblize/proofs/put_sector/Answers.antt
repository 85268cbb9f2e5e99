use Rattle.nibblize.proofs.Writing.{sectors}
use Rattle.nibblize.proofs.put_sector.Goals as goal

pub returns : goal.returns
returns c = search sectors
