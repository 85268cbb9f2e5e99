use Rattle.records.proofs.Entries.{fields}
use Rattle.records.proofs.name_field.Goals as goal

pub loop-k-init : goal.loop-k-init
loop-k-init c = search fields

pub overflow_add-field : goal.overflow_add-field
overflow_add-field c = search fields

pub loop-k-preserved : goal.loop-k-preserved
loop-k-preserved c = search fields

pub returns : goal.returns
returns c = search fields
