use Rattle.outcome.proofs.Outcome.{passed}
use Rattle.files.proofs.Calls.{survey_none, survey_read, survey_done}
use Rattle.files.proofs.survey_of.Goals as goal

pub returns-in_err-t : goal.returns-in_err-t
returns-in_err-t c = survey_none _ _ _ _ _ (passed c.from_residual.ensures.1) c.in_err-t.ensures

pub returns-in_err-v : goal.returns-in_err-v
returns-in_err-v c = survey_read _ _ _ _ c.in_ok-t.ensures _ _ (passed c.from_residual-in_err-v.ensures.1) c.in_err-v.ensures

pub returns : goal.returns
returns c = survey_done _ _ _ _ c.in_ok-t.ensures _ c.in_ok-v.ensures
