use Rattle.fields.proofs.Scan.{bytes}
use Rattle.fields.proofs.byte_4_and_4.Goals as goal

pub returns : goal.returns
returns c = search bytes
