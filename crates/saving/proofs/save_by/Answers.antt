use Rattle.outcome.proofs.Outcome.{passed}
use Rattle.saving.proofs.Calls.{save_refused, saves}
use Rattle.saving.proofs.save_by.Goals as goal

pub returns-in_err-name_allowed : goal.returns-in_err-name_allowed
returns-in_err-name_allowed c = save_refused _ _ _ _ _ (passed c.from_residual.ensures.1) c.in_err-name_allowed.ensures _ _

pub look-s-requires : goal.look-s-requires
look-s-requires c = search (saves, c.in_ok-name_allowed.ensures)

pub returns-then-is_some : goal.returns-then-is_some
returns-then-is_some c = search (saves, c.in_ok-name_allowed.ensures)

pub returns-then-over_limit : goal.returns-then-over_limit
returns-then-over_limit c = search (saves, c.in_ok-name_allowed.ensures)

pub settle-requires : goal.settle-requires
settle-requires c = search (saves, c.in_ok-name_allowed.ensures)

pub returns : goal.returns
returns c = search (saves, c.in_ok-name_allowed.ensures)
