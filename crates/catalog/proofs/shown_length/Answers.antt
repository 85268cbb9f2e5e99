use Rattle.catalog.proofs.Shown.{trims}
use Rattle.catalog.proofs.shown_length.Goals as goal

pub loop-n-init : goal.loop-n-init
loop-n-init c = search trims

pub returns-then-letter_of-ne32 : goal.returns-then-letter_of-ne32
returns-then-letter_of-ne32 c = search trims

pub loop-n-preserved : goal.loop-n-preserved
loop-n-preserved c = search trims

pub returns : goal.returns
returns c = search trims
