use Rattle.fields.proofs.Numbers.{interleaves}
use Rattle.fields.proofs.dos_sector.Goals as goal

pub returns-then-p-lt16 : goal.returns-then-p-lt16
returns-then-p-lt16 c = search interleaves

pub returns : goal.returns
returns c = search interleaves
