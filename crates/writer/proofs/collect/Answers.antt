use Rattle.writer.proofs.Collects.{collectings}
use Rattle.writer.proofs.collect.Goals as goal

pub loop-turn-init : goal.loop-turn-init
loop-turn-init c = search collectings

pub collect_pairs-at-requires : goal.collect_pairs-at-requires
collect_pairs-at-requires c = search collectings

pub returns-then-last_list : goal.returns-then-last_list
returns-then-last_list c = search collectings

pub loop-turn-preserved : goal.loop-turn-preserved
loop-turn-preserved c = search collectings

pub returns : goal.returns
returns c = search collectings
