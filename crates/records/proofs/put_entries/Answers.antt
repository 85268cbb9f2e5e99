use Rattle.records.proofs.Page.{pagings}
use Rattle.records.proofs.put_entries.Goals as goal

pub loop-i-init : goal.loop-i-init
loop-i-init c = search pagings

pub record_at-record-requires : goal.record_at-record-requires
record_at-record-requires c = search pagings

pub loop-i-preserved : goal.loop-i-preserved
loop-i-preserved c = search pagings
