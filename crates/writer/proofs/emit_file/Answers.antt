use Rattle.writer.proofs.Entries.{entries}
use Rattle.writer.proofs.emit_file.Goals as goal

pub emit_blocks-requires : goal.emit_blocks-requires
emit_blocks-requires c = search entries

pub returns-then-e-ne4 : goal.returns-then-e-ne4
returns-then-e-ne4 c = search entries

pub collect-n-requires : goal.collect-n-requires
collect-n-requires c = search entries

pub emit_blocks-requires-2 : goal.emit_blocks-requires-2
emit_blocks-requires-2 c = search entries

pub returns : goal.returns
returns c = search entries
