use Rattle.writer.proofs.Pieces.{makings}
use Rattle.writer.proofs.make_data.Goals as goal

pub data_block-requires : goal.data_block-requires
data_block-requires c = search makings

pub returns : goal.returns
returns c = search makings
