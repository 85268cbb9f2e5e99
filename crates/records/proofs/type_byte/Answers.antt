use Rattle.records.proofs.Entries.{types}
use Rattle.records.proofs.type_byte.Goals as goal

pub overflow_add-result : goal.overflow_add-result
overflow_add-result c = search types
