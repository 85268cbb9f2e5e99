use Rattle.writer.proofs.Pieces.{pieces}
use Rattle.writer.proofs.tail_piece.Goals as goal

pub overflow_sub-size : goal.overflow_sub-size
overflow_sub-size c = search pieces

pub returns : goal.returns
returns c = search pieces
