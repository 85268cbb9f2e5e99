use Rattle.writer.proofs.Pieces.{datas}
use Rattle.writer.proofs.put_data.Goals as goal

pub returns-then-out-at : goal.returns-then-out-at
returns-then-out-at c = search datas

pub returns : goal.returns
returns c = search datas
