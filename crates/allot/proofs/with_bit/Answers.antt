use Rattle.allot.proofs.Marking.{bits}
use Rattle.allot.proofs.with_bit.Goals as goal

pub overflow_add-result : goal.overflow_add-result
overflow_add-result c = search bits

pub returns : goal.returns
returns c = search bits
