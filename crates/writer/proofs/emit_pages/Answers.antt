use Rattle.writer.proofs.Pages.{walkings}
use Rattle.writer.proofs.emit_pages.Goals as goal

pub loop-turn-init : goal.loop-turn-init
loop-turn-init c = search walkings

pub emit_page-t-requires : goal.emit_page-t-requires
emit_page-t-requires c = search walkings

pub returns-then-last_page : goal.returns-then-last_page
returns-then-last_page c = search walkings

pub loop-turn-preserved : goal.loop-turn-preserved
loop-turn-preserved c = search walkings

pub returns : goal.returns
returns c = search walkings
