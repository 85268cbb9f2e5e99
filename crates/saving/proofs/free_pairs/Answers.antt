use Rattle.saving.proofs.Freeing.{freeings}
use Rattle.saving.proofs.free_pairs.Goals as goal

pub loop-i-init : goal.loop-i-init
loop-i-init c = search freeings

pub returns-then-q-eq0 : goal.returns-then-q-eq0
returns-then-q-eq0 c = search freeings

pub loop-i-preserved : goal.loop-i-preserved
loop-i-preserved c = search freeings

pub returns : goal.returns
returns c = search freeings
