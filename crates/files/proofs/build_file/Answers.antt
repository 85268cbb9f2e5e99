use Rattle.files.proofs.Runs.{follows}
use Rattle.files.proofs.build_file.Goals as goal

pub loop-k-init : goal.loop-k-init
loop-k-init c = search follows

pub returns-then-not-on_disk : goal.returns-then-not-on_disk
returns-then-not-on_disk c = search follows

pub returns-then-not-whole_link : goal.returns-then-not-whole_link
returns-then-not-whole_link c = search follows

pub returns-then-last_list : goal.returns-then-last_list
returns-then-last_list c = search follows

pub loop-k-preserved : goal.loop-k-preserved
loop-k-preserved c = search follows

pub returns : goal.returns
returns c = search follows
