use Rattle.stream.proofs.Numbers.{told}
use Rattle.stream.proofs.sector_number.Goals as goal

pub returns : goal.returns
returns c = search told
