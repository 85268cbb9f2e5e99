use Rattle.stream.proofs.Numbers.{told}
use Rattle.stream.proofs.dos_sector_of.Goals as goal

pub returns-in-Sixteen : goal.returns-in-Sixteen
returns-in-Sixteen c = search told

pub returns-in-Thirteen : goal.returns-in-Thirteen
returns-in-Thirteen c = search told
