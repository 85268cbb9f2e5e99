use Rattle.stream.proofs.Keyed.{repeats}
use Rattle.stream.proofs.repeated.Goals as goal

pub returns-in_default : goal.returns-in_default
returns-in_default c = search repeats

pub returns-in_default-2 : goal.returns-in_default-2
returns-in_default-2 c = let e = rw c.in_default.is at c.parse_nib_sector.ensures in search (repeats, e)

pub returns-then-has_key : goal.returns-then-has_key
returns-then-has_key c = search repeats

pub loop-i-smaller : goal.loop-i-smaller
loop-i-smaller c = search repeats

pub loop-i-preserved : goal.loop-i-preserved
loop-i-preserved c = search repeats

pub returns : goal.returns
returns c = search repeats
