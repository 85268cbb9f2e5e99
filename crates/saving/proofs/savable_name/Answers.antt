use Rattle.saving.proofs.Names.{savables}
use Rattle.saving.proofs.savable_name.Goals as goal

pub overflow_sub-name : goal.overflow_sub-name
overflow_sub-name c = search savables

pub returns-then-not-has_zero : goal.returns-then-not-has_zero
returns-then-not-has_zero c = search savables

pub returns-else-not-has_zero : goal.returns-else-not-has_zero
returns-else-not-has_zero c = search savables
