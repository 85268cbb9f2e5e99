use Rattle.std.proofs.Common.{arith}
use Rattle.disk.specs.Disk.{place}
use Rattle.pairs.proofs.Answers.{stored_pair, stored_run}
use Rattle.pairs.proofs.Storing.{stored_none}
use Rattle.pairs.proofs.pair_run.Goals as goal

pub loop-i-init : goal.loop-i-init
loop-i-init c = stored_none _ _

pub loop-i-preserved : goal.loop-i-preserved
loop-i-preserved c =
    stored_pair c.args.disk.now (place c.args.track c.args.sector) c.args.run.now c.loop-i.i c.in_ok-n.n c.loop-i.run c.in_ok-n.ensures c.loop-i.invariant c.pair_at.result c.loop-i-test.true c.pair_at.ensures

pub returns : goal.returns
returns c =
    stored_run c.args.disk.now (place c.args.track c.args.sector) c.args.run.now c.loop-i.i c.in_ok-n.n c.loop-i.run c.in_ok-n.ensures c.loop-i.invariant (omega (arith, c.loop-i-test.false, c.loop-i.auto.i-end))
