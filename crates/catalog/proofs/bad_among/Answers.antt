use Rattle.std.proofs.Common.{refl}
use Rattle.lists.specs.Select.{among}
use Rattle.catalog.proofs.Turns.{letters}
use Rattle.catalog.proofs.bad_among.Goals as goal

pub loop-b-preserved : goal.loop-b-preserved
loop-b-preserved c = search letters

pub loop-b-init : goal.loop-b-init
unfolding among
loop-b-init c = refl
