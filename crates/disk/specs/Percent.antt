-- What holds of the percent used, over whole numbers: the claim of document 02, Req 04, "Fill at the half". proofs/Percent.antt proves it.
use Rattle.std.specs.Prelude.{◌≡◌, ◌↔◌, ℕ, ◌+◌, ◌*◌, ◌%◌, ◌<◌, ◌≤◌}
use Rattle.disk.specs.Vtoc.{percent}

-- 100 times used / total is exactly halfway: a whole number and a half
abbrev pub Halfway : (total used : ℕ) → Type 0
Halfway total used = (k : ℕ) × (200 * used ≡ 2 * total * k + total)

-- p is never more than half a percent from 100 times used / total; exactly halfway, it is even
pub record Nearest (total used p : ℕ) : Type 0 where
  -- no more than a half below
  pub below : 200 * used ≤ 2 * total * p + total
  -- .. or above
  pub above : 2 * total * p ≤ 200 * used + total
  pub even : Halfway total used → p % 2 ≡ 0

-- Req 04, for every total that is not zero and every used
pub record Rounding : Type 0 where
  -- the percent used is such a number
  pub nearest : (total used : ℕ) → 0 < total → Nearest total used (percent total used)
  -- there is no other: the law could stand in for the definition
  pub only : (total used p q : ℕ) → 0 < total → Nearest total used p → Nearest total used q → p ≡ q
  -- of 560 sectors the halves are 14, 42, 70 and so on; of 455 there is none
  pub halves_560 : (used : ℕ) → Halfway 560 used ↔ (used % 28 ≡ 14)
  pub halves_455 : (used : ℕ) → Halfway 455 used → ⊥
