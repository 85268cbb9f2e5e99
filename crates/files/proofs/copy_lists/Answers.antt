use Rattle.files.proofs.Datas.{copies}
use Rattle.files.proofs.copy_lists.Goals as goal

pub loop-turn-init : goal.loop-turn-init
loop-turn-init c = search copies

pub returns-then-last_list : goal.returns-then-last_list
returns-then-last_list c = search copies

pub loop-turn-preserved : goal.loop-turn-preserved
loop-turn-preserved c = search copies

pub returns : goal.returns
returns c = search copies
