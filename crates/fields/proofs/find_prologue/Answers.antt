use Rattle.fields.proofs.Scan.{seeking}
use Rattle.fields.proofs.find_prologue.Goals as goal

pub loop-k-init : goal.loop-k-init
loop-k-init c = search seeking

pub returns-then-mark_at : goal.returns-then-mark_at
returns-then-mark_at c = search seeking

pub loop-k-preserved : goal.loop-k-preserved
loop-k-preserved c = search seeking

pub returns : goal.returns
returns c = search seeking
