use Rattle.std.proofs.Common.{◌≡◌, take}
use Rattle.lists.specs.Select.{among}
use Rattle.catalog.proofs.bad_among.Given as goal

abbrev pub invariant-loop-b : goal.invariant-loop-b
invariant-loop-b l = l.bad ≡ among 128 (take l.b-index l.raw)
