use Rattle.outcome.proofs.Outcome.{passed}
use Rattle.forecast.proofs.Calls.{forecast_refused, forecasts}
use Rattle.forecast.proofs.forecast.Goals as goal

pub returns-then-lengths-gt64 : goal.returns-then-lengths-gt64
returns-then-lengths-gt64 c = search forecasts

pub returns-in_err-tidy : goal.returns-in_err-tidy
returns-in_err-tidy c = forecast_refused _ _ _ (search forecasts) _ _ (passed c.from_residual.ensures.1) c.in_err-tidy.ensures

pub returns-then-numbers-lengths : goal.returns-then-numbers-lengths
returns-then-numbers-lengths c = search (forecasts, c.in_ok-tidy.ensures)

pub returns : goal.returns
returns c = search (forecasts, c.in_ok-tidy.ensures)
