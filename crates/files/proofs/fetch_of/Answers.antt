use Rattle.outcome.proofs.Outcome.{passed}
use Rattle.files.proofs.Choices.{fetch_refused, fetch_calls}
use Rattle.files.proofs.fetch_of.Goals as goal

pub returns-in_err-t : goal.returns-in_err-t
returns-in_err-t c = fetch_refused _ _ c.args.name _ _ _ (passed c.from_residual.ensures.1) c.in_err-t.ensures

pub get_data-requires : goal.get_data-requires
get_data-requires c = search (fetch_calls, c.in_ok-t.ensures)

pub returns-in-None : goal.returns-in-None
returns-in-None c = search (fetch_calls, c.in_ok-t.ensures)

pub returns-in-Some : goal.returns-in-Some
returns-in-Some c = search (fetch_calls, c.in_ok-t.ensures)
