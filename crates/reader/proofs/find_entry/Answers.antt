use Rattle.std.proofs.Common.{refl}
use Rattle.reader.proofs.Finding.{finds, pass_some}
use Rattle.reader.proofs.find_entry.Goals as goal

pub loop-i-init : goal.loop-i-init
loop-i-init c = search finds

pub returns-then-i-block : goal.returns-then-i-block
returns-then-i-block c = search (finds, c.in_ok-e.ensures)

pub loop-i-preserved : goal.loop-i-preserved
loop-i-preserved c = search (finds, c.in_ok-e.ensures)

pub returns : goal.returns
returns c = search finds

pub returns-in_err-e : goal.returns-in_err-e
returns-in_err-e c = pass_some c.args.archive.now c.args.block c.loop-i.i _ refl c.loop-i.invariant c.loop-i-test.true c.in_err-e.ensures
