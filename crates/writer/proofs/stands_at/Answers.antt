use Rattle.writer.proofs.Stands.{stands_whole, stands_short}
use Rattle.writer.proofs.stands_at.Goals as goal

pub returns-in-Some : goal.returns-in-Some
returns-in-Some c = stands_whole c.args.block.now c.args.archive.now c.part.result.now c.args.at c.part.ensures c.in-Some.other.now _ c.in-Some.ensures.cases.same c.equal.ensures

pub returns-in-None : goal.returns-in-None
returns-in-None c = stands_short c.args.block.now c.args.archive.now c.part.result.now c.args.at c.part.ensures c.told-block c.in-None.ensures.cases
