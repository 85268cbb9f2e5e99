use Rattle.outcome.proofs.Outcome.{passed}
use Rattle.catalog.proofs.Listings.{call_refused, calls}
use Rattle.catalog.proofs.catalogs_of.Goals as goal

pub returns-in_err-found : goal.returns-in_err-found
returns-in_err-found c = call_refused _ _ _ _ _ (passed c.from_residual.ensures.1) c.in_err-found.ensures

pub returns-then-out-length : goal.returns-then-out-length
returns-then-out-length c = search (calls, c.in_ok-found.ensures)

pub write_pages-requires : goal.write_pages-requires
write_pages-requires c = search (calls, c.in_ok-found.ensures)

pub returns : goal.returns
returns c = search (calls, c.in_ok-found.ensures)
