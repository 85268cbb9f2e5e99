use mathlib.Core.Path.{refl}
use Rattle.writer.proofs.Stands.{compared_none, compared_more, compared_all}
use Rattle.writer.proofs.equal.Goals as goal

pub loop-k-init : goal.loop-k-init
loop-k-init c = compared_none _ _

pub loop-k-preserved : goal.loop-k-preserved
loop-k-preserved c = compared_more _ _ c.told-a c.told-b _ _ c.loop-k.invariant c.loop-k-test.true _ refl

pub returns : goal.returns
returns c = compared_all _ _ c.told-a c.told-b _ _ c.loop-k.invariant (c.loop-k-test.false)
