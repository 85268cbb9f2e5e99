use Rattle.writer.proofs.Pieces.{pieces}
use Rattle.writer.proofs.head_piece.Goals as goal

pub returns : goal.returns
returns c = search pieces
