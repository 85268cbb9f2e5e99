-- The percent used: the three cases as the code computes them. Assumes nothing.
use mathlib.Core.Path.{◌≡◌, refl}
use Prim.Native.Nat.{ℕ, ◌+◌, ◌*◌, ◌/◌, ◌%◌, ◌^◌, ◌<◌, ◌≤◌}
use native.Mathlib.Nat.{div-le_self, mod-lt}
use native.Mathlib.Omega.{arith}
use borrow.Author.Tests.{lt-ltb, le-ltb}
use borrow.Author.Rules.{rules}
use Rattle.disk.specs.Vtoc.{percent}

module _ (total used : ℕ) where
  -- less than a half above
  pub percent_below : 2 * (100 * used % total) < total → 100 * used / total ≡ percent total used
  unfolding percent
  percent_below h = rw (lt-ltb _ _ h) refl

  -- .. more than a half
  pub percent_above : total < 2 * (100 * used % total) → 100 * used / total + 1 ≡ percent total used
  unfolding percent
  percent_above h = let l : total ≤ 2 * (100 * used % total) = omega arith in rw (le-ltb _ _ l, lt-ltb _ _ h) refl

  -- .. and a half
  pub percent_half : total ≤ 2 * (100 * used % total) → 2 * (100 * used % total) ≤ total
      → 100 * used / total + 100 * used / total % 2 ≡ percent total used
  unfolding percent
  percent_half h l = rw (le-ltb _ _ h, le-ltb _ _ l) refl

-- nothing that is computed on the way is lost: the rest is below the total ..
pub rest_fits : (a total : ℕ) → 0 < total → total ≤ 8925 → 2 * (a % total) < 2 ^ 32
rest_fits a total h l = omega (arith, mod-lt a h)

-- .. and the number at most 100 times used
pub below_fits : (used total k : ℕ) → used ≤ 8925 → k < 2 → 100 * used / total + k < 2 ^ 32
below_fits used total k h l = omega (arith, div-le_self (100 * used) total)

pub below_2 : (x : ℕ) → x % 2 < 2
below_2 x = omega arith

pub ruleset percents = (rest_fits, below_fits, below_2, percent_below, percent_above, percent_half, rules)
