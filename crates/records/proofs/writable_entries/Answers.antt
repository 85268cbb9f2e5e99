use Rattle.records.proofs.Page.{nameds}
use Rattle.records.proofs.writable_entries.Goals as goal

pub loop-k-init : goal.loop-k-init
loop-k-init c = search nameds

pub returns-then-not-writable_name : goal.returns-then-not-writable_name
returns-then-not-writable_name c = search nameds

pub loop-k-preserved : goal.loop-k-preserved
loop-k-preserved c = search nameds

pub returns : goal.returns
returns c = search nameds
