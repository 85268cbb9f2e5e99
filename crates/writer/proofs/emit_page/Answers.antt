use Rattle.writer.proofs.Pages.{pagings}
use Rattle.writer.proofs.emit_page.Goals as goal

pub loop-i-init : goal.loop-i-init
loop-i-init c = search pagings

pub emit_entry-t-requires : goal.emit_entry-t-requires
emit_entry-t-requires c = search pagings

pub loop-i-preserved : goal.loop-i-preserved
loop-i-preserved c = search pagings

pub returns : goal.returns
returns c = search pagings
