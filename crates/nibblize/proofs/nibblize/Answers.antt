use Rattle.nibblize.proofs.Writing.{nibblizes}
use Rattle.nibblize.proofs.nibblize.Goals as goal

pub returns-then-disk-ne143360 : goal.returns-then-disk-ne143360
returns-then-disk-ne143360 c = search nibblizes

pub returns-then-out-lt232960 : goal.returns-then-out-lt232960
returns-then-out-lt232960 c = search nibblizes

pub returns : goal.returns
returns c = search nibblizes
