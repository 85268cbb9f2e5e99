use Rattle.forecast.proofs.Opens.{page_opens}
use Rattle.forecast.proofs.page_open.Goals as goal

pub loop-i-init : goal.loop-i-init
loop-i-init c = search page_opens

pub loop-i-preserved : goal.loop-i-preserved
loop-i-preserved c = search page_opens
