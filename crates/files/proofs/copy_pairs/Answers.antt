use Rattle.files.proofs.Copying.{pairings}
use Rattle.files.proofs.copy_pairs.Goals as goal

pub loop-i-init : goal.loop-i-init
loop-i-init c = search pairings

pub returns-then-q-eq0 : goal.returns-then-q-eq0
returns-then-q-eq0 c = search pairings

pub loop-i-preserved : goal.loop-i-preserved
loop-i-preserved c = search pairings

pub returns : goal.returns
returns c = search pairings
