use Rattle.writer.proofs.Pieces.{datas}
use Rattle.writer.proofs.data_block.Goals as goal

pub returns : goal.returns
returns c = search datas
