-- A side as a host passes it: Req 10.
use Rattle.std.specs.Prelude.{cond, ℕ, eqb}
use Rattle.sides.specs.declared.Side.{Side}
use Rattle.sides.specs.declared.Side.TheVariants.{Survey, Ours}

-- 0 is ours, anything else the survey office
abbrev pub side_of : ℕ → Side
side_of b = cond (eqb b 0) Ours Survey
