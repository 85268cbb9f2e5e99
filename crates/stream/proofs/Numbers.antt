-- `sum_at`, `dos_sector_of` and `sector_number` over plain variables, each by the two editions. Assumes nothing.
use mathlib.Core.Path.{◌≡◌, refl}
use mathlib.Core.List.{List}
use Prim.Native.Nat.{ℕ, ◌+◌, ◌-◌, ◌*◌, ◌≤◌, ◌<◌}
use native.Mathlib.Omega.{arith}
use borrow.Author.Rules.{rules}
use lib.ListN.{length, get_or, take, drop}
use Rattle.lists.specs.Fill.{tab}
use Rattle.nibble.specs.Nibble.{val_at}
use Rattle.nibble.specs.FiveThree.{val_at53}
use Rattle.fields.specs.declared.Edition.{Edition}
use Rattle.fields.specs.declared.Edition.TheVariants.{Sixteen, Thirteen}
use Rattle.fields.specs.declared.FieldPair.{FieldPair}
use Rattle.fields.specs.Editions.{nibbles_of, per_track, interleave, dos_sector, sum_of}
use Rattle.fields.proofs.Numbers.{per_small, number_below, order_at, dos_lt}
use Rattle.stream.specs.Steps.{number_of}

module _ (ed : Edition) where
  -- the table has a place for each address sector
  pub order_in : (p : ℕ) → p < per_track ed → p < 16
  order_in p h = omega (arith, per_small ed)

  module _ (e : ed ≡ Sixteen) where
    pub dos_16 : (t : List ℕ) (p : ℕ) → t ≡ tab interleave 16 → p < 16 → get_or t p 0 ≡ dos_sector ed p
    unfolding dos_sector
    dos_16 t p q h = rw e (order_at t p q h)

    pub sum_16 : (s : List ℕ) (a n r : ℕ) → n ≡ nibbles_of ed → r ≡ val_at (take (a + n - a) (drop a s)) 342 → r ≡ sum_of ed (take (nibbles_of ed) (drop a s))
    unfolding sum_of
    sum_16 s a n r k q = let l : a + n - a ≡ nibbles_of ed = omega arith in rw (← l, e) q

  module _ (e : ed ≡ Thirteen) where
    pub dos_13 : (p : ℕ) → p ≡ dos_sector ed p
    unfolding dos_sector
    dos_13 p = rw e refl

    pub sum_13 : (s : List ℕ) (a n r : ℕ) → n ≡ nibbles_of ed → r ≡ val_at53 (take (a + n - a) (drop a s)) 410 → r ≡ sum_of ed (take (nibbles_of ed) (drop a s))
    unfolding sum_of
    sum_13 s a n r k q = let l : a + n - a ≡ nibbles_of ed = omega arith in rw (← l, e) q

  -- the data fields' places are in the stream
  pub part_fits : (s : List ℕ) (a n : ℕ) → n ≡ nibbles_of ed → a + (nibbles_of ed + 3) ≤ length s → a + n ≤ length s
  part_fits s a n k h = omega arith

  pub number_is : (p : FieldPair) (n d m : ℕ) → n ≡ per_track ed → m ≡ n * p.track → d ≡ dos_sector ed p.sector → m + d ≡ number_of ed p
  number_is p n d m k e q = rw (e, k, q) refl

  pub number_small : (t s n d m : ℕ) → n ≡ per_track ed → m ≡ n * t → d ≡ dos_sector ed s → t ≤ 34 → s < per_track ed → m + d < 560
  number_small t s n d m k e q h l =
      let b : m + d < 35 * per_track ed = rw (e, k, q) (number_below ed t (dos_sector ed s) h (dos_lt ed s l)) in
      omega (arith, per_small ed)

pub ruleset told = (order_in, dos_16, dos_13, sum_16, sum_13, part_fits, number_is, number_small, rules)
