use Rattle.catalog.proofs.Writes.{listings}
use Rattle.catalog.proofs.write_pages.Goals as goal

pub loop-turn-init : goal.loop-turn-init
loop-turn-init c = search listings

pub slice_bounds-parse_catalog-count : goal.slice_bounds-parse_catalog-count
slice_bounds-parse_catalog-count c = search listings

pub slice_bounds-parse_catalog-start : goal.slice_bounds-parse_catalog-start
slice_bounds-parse_catalog-start c = search listings

pub parse_catalog-w-requires : goal.parse_catalog-w-requires
parse_catalog-w-requires c = search listings

pub returns-then-last_page : goal.returns-then-last_page
returns-then-last_page c = search listings

pub loop-turn-preserved : goal.loop-turn-preserved
loop-turn-preserved c = search listings

pub returns : goal.returns
returns c = search listings
