use mathlib.Core.Path.{refl}
use Rattle.lists.specs.Fill.{tab}
use Rattle.fields.specs.Editions.{interleave}
use Rattle.fields.proofs.dos_sectors.Goals as goal

pub returns : goal.returns
unfolding interleave tab
returns c = refl
