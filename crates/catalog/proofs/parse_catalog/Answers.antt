use Rattle.catalog.proofs.Writes.{pagings}
use Rattle.catalog.proofs.parse_catalog.Goals as goal

pub loop-i-init : goal.loop-i-init
loop-i-init c = search pagings

pub write_entry-w-requires : goal.write_entry-w-requires
write_entry-w-requires c = search pagings

pub loop-i-preserved : goal.loop-i-preserved
loop-i-preserved c = search pagings

pub returns : goal.returns
returns c = search pagings
