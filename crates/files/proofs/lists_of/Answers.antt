use Rattle.outcome.proofs.Outcome.{passed}
use Rattle.files.proofs.ListCalls.{number_refused, list_calls}
use Rattle.files.proofs.lists_of.Goals as goal

pub returns-in_err-t : goal.returns-in_err-t
returns-in_err-t c = number_refused _ _ _ _ _ _ (passed c.from_residual.ensures.1) c.in_err-t.ensures

pub get_lists-requires : goal.get_lists-requires
get_lists-requires c = search (list_calls, c.in_ok-t.ensures)

pub returns-in-None : goal.returns-in-None
returns-in-None c = search (list_calls, c.in_ok-t.ensures)

pub returns-in-Some : goal.returns-in-Some
returns-in-Some c = search (list_calls, c.in_ok-t.ensures)
