use Rattle.allot.proofs.Marking.{marks}
use Rattle.allot.proofs.mark_sector.Goals as goal

pub returns-then-table-ne256 : goal.returns-then-table-ne256
returns-then-table-ne256 c = search marks

pub mark_in-requires : goal.mark_in-requires
mark_in-requires c = search marks

pub returns-then-on_disk : goal.returns-then-on_disk
returns-then-on_disk c = search marks

pub returns-else-on_disk : goal.returns-else-on_disk
returns-else-on_disk c = search marks
