use Rattle.writer.proofs.Collects.{collects}
use Rattle.writer.proofs.collect_pairs.Goals as goal

pub loop-i-init : goal.loop-i-init
loop-i-init c = search collects

pub returns-then-q-eq0 : goal.returns-then-q-eq0
returns-then-q-eq0 c = search collects

pub loop-i-preserved : goal.loop-i-preserved
loop-i-preserved c = search collects

pub returns : goal.returns
returns c = search collects
