use Rattle.disk.proofs.PercentOf.{percents}
use Rattle.disk.proofs.percent_of.Goals as goal

pub returns-then-rest-total : goal.returns-then-rest-total
returns-then-rest-total c = search percents

pub returns-then-total-rest : goal.returns-then-total-rest
returns-then-total-rest c = search percents

pub returns : goal.returns
returns c = search percents
