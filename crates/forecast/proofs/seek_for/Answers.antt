use Rattle.forecast.proofs.Trials.{soughts}
use Rattle.forecast.proofs.seek_for.Goals as goal

pub returns-then-not-take_sectors : goal.returns-then-not-take_sectors
returns-then-not-take_sectors c = search soughts

pub returns : goal.returns
returns c = search soughts
