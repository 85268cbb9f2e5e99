use Rattle.fields.proofs.Numbers.{interleaves}
use Rattle.nibblize.proofs.dos_sector_in.Goals as goal

pub returns : goal.returns
returns c = search interleaves
