use Rattle.files.proofs.ListCalls.{placings}
use Rattle.files.proofs.write_lists.Goals as goal

pub loop-turn-init : goal.loop-turn-init
loop-turn-init c = search placings

pub overflow_add-w : goal.overflow_add-w
overflow_add-w c = search placings

pub returns-then-last_list : goal.returns-then-last_list
returns-then-last_list c = search placings

pub loop-turn-preserved : goal.loop-turn-preserved
loop-turn-preserved c = search placings

pub returns : goal.returns
returns c = search placings
