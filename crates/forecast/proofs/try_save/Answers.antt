use Rattle.forecast.proofs.Trials.{trials}
use Rattle.forecast.proofs.try_save.Goals as goal

pub returns-then-left-eq0 : goal.returns-then-left-eq0
returns-then-left-eq0 c = search trials

pub returns : goal.returns
returns c = search trials
