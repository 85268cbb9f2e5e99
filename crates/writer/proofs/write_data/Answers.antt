use Rattle.writer.proofs.Pieces.{makings}
use Rattle.writer.proofs.write_data.Goals as goal

pub put_data-requires : goal.put_data-requires
put_data-requires c = search makings

pub returns : goal.returns
returns c = search makings
