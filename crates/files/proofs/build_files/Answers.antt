use Rattle.files.proofs.Goes.{goings}
use Rattle.files.proofs.build_files.Goals as goal

pub loop-turn-init : goal.loop-turn-init
loop-turn-init c = search goings

pub returns-then-not-on_disk : goal.returns-then-not-on_disk
returns-then-not-on_disk c = search goings

pub returns-then-not-plain_page : goal.returns-then-not-plain_page
returns-then-not-plain_page c = search goings

pub returns-then-last_page : goal.returns-then-last_page
returns-then-last_page c = search goings

pub loop-turn-preserved : goal.loop-turn-preserved
loop-turn-preserved c = search goings

pub returns : goal.returns
returns c = search goings
