use Rattle.saving.proofs.Freeing.{walkings}
use Rattle.saving.proofs.free_lists.Goals as goal

pub loop-turn-init : goal.loop-turn-init
loop-turn-init c = search walkings

pub returns-then-last_list : goal.returns-then-last_list
returns-then-last_list c = search walkings

pub loop-turn-preserved : goal.loop-turn-preserved
loop-turn-preserved c = search walkings

pub returns : goal.returns
returns c = search walkings
