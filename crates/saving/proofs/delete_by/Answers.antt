use Rattle.outcome.proofs.Outcome.{passed}
use Rattle.saving.proofs.Calls.{delete_refused, deletes}
use Rattle.saving.proofs.delete_by.Goals as goal

pub returns-in_err-name_allowed : goal.returns-in_err-name_allowed
returns-in_err-name_allowed c = delete_refused _ _ _ _ _ (passed c.from_residual.ensures.1) c.in_err-name_allowed.ensures

pub look-requires : goal.look-requires
look-requires c = search (deletes, c.in_ok-name_allowed.ensures)

pub returns-in-None : goal.returns-in-None
returns-in-None c = search (deletes, c.in_ok-name_allowed.ensures)

pub erase-requires : goal.erase-requires
erase-requires c = search (deletes, c.in_ok-name_allowed.ensures)

pub returns-in-Some : goal.returns-in-Some
returns-in-Some c = search (deletes, c.in_ok-name_allowed.ensures)
