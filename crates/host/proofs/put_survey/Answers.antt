use Rattle.outcome.proofs.Outcome.{passed}
use Rattle.host.specs.Exports.{survey_numbers}
use Rattle.host.proofs.Numbers.{puts_refused, puts_given}
use Rattle.host.proofs.put_survey.Goals as goal

pub returns-in_err-s : goal.returns-in_err-s
unfolding survey_numbers
returns-in_err-s c = puts_refused _ _ _ _ _ (passed c.from_residual.ensures.1) c.in_err-s.ensures

pub returns : goal.returns
unfolding survey_numbers
returns c = puts_given _ _ _ _ c.in_ok-s.ensures _ _ c.put_fields.ensures
