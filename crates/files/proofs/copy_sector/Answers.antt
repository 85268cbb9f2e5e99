use Rattle.files.proofs.Copying.{sectors}
use Rattle.files.proofs.copy_sector.Goals as goal

pub returns : goal.returns
returns c = search sectors
