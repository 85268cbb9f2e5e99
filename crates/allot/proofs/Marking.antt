-- A bit of the map made 1 or 0, as code computes it. Assumes nothing.
use mathlib.Core.Path.{◌≡◌, refl, sym, ◌∙◌}
use mathlib.Core.Bool.{Bool, true, false, cond}
use mathlib.Core.List.{List, [], ◌∷◌}
use Prim.Native.Nat.{ℕ, zero, suc, ◌+◌, ◌*◌, ◌-◌, ◌/◌, ◌%◌, ◌^◌, ◌<◌, ◌≤◌}
use native.Mathlib.Nat.{mod-eq_of_lt}
use native.Mathlib.Omega.{arith}
use lib.Pow.{pow-lt}
use lib.ListN.{length}
use borrow.Author.Rules.{rules}
use borrow.Author.Tests.{eq-eqb, ne_eqb, not-true, not-false}
use Rattle.lists.specs.Fill.{placed}
use Rattle.lists.proofs.Put.{placed_put}
use Rattle.disk.specs.declared.Place.{Place}
use Rattle.disk.specs.Disk.{on_disk}
use Rattle.disk.proofs.Places.{on_track, on_sector}
use Rattle.holders.specs.Holders.{bit}
use Rattle.amend.specs.Search.{with_bit}
use Rattle.amend.proofs.Bits.{bit_part, with_small}
use Rattle.allot.specs.Table.{map_in, mark_on, Marked}
use Rattle.allot.specs.Steps.{MadeBit}

-- ---- a number's bit
module _ (s v w : ℕ) (h : s < 16) (l : v < 2) where
  shifted : 1 * 2 ^ s % 65536 ≡ 2 ^ s
  shifted = let l : 2 ^ s < 2 ^ 16 = pow-lt h in mod-eq_of_lt (omega arith) ∙ omega arith

  bit_is : w - 1 * 2 ^ s % 65536 * (w / 2 ^ s % 2) + 1 * 2 ^ s % 65536 * v ≡ with_bit s v w
  unfolding with_bit bit
  bit_is = rw shifted refl

  pub bit_less : 1 * 2 ^ s % 65536 * (w / 2 ^ s % 2) ≤ w
  unfolding bit
  bit_less = rw shifted (bit_part s w)

  pub bit_fits : w < 2 ^ 16 → 1 * 2 ^ s % 65536 * (w / 2 ^ s % 2) < 2 ^ 16
  bit_fits k = let b = bit_less in omega arith

  pub bit_sum : w < 2 ^ 16 → w - 1 * 2 ^ s % 65536 * (w / 2 ^ s % 2) + 1 * 2 ^ s % 65536 * v < 2 ^ 16
  bit_sum k = rw bit_is (with_small 16 s v w k h l)

  pub bit_done : w - 1 * 2 ^ s % 65536 * (w / 2 ^ s % 2) + 1 * 2 ^ s % 65536 * v ≡ with_bit s v w
  bit_done = bit_is

-- what is added
pub new_fits : (s v : ℕ) → s < 16 → v < 2 → 1 * 2 ^ s % 65536 * v < 2 ^ 16
new_fits s zero h l = omega arith
new_fits s (suc zero) h l = omega arith
new_fits s (suc (suc v)) h l = absurd (omega arith)

pub ruleset bits = (bit_less, bit_fits, new_fits, bit_sum, bit_done, rules)

-- ---- a sector's bit in a table
pub bit_made : (T T' : List ℕ) (p : Place) (v m w : ℕ) → T' ≡ placed (56 + 4 * p.track.0) (w / 256 ∷ w % 256 ∷ []) T → w ≡ with_bit p.sector.0 v m
    → m ≡ map_in T p.track.0 → length T ≡ 256 → p.track.0 < 35 → MadeBit v p T T'
bit_made T T' p v m w e q x l h =
    let z : p.sector.0 + (16 - 16) ≡ p.sector.0 = omega arith in
    let f = placed_put e (omega arith) in
    record { is = f.is ∙ rw (z, ← x, ← q) refl }

pub ruleset tables = (bit_made, rules)

-- ---- a sector's bit, where it is on the disk
pub bit_small : (b : Bool) (v : ℕ) → v ≡ cond b 1 0 → v < 2
bit_small true v e = omega arith
bit_small false v e = omega arith

pub mark_other : (T : List ℕ) (v : ℕ) (p : Place) → (length T ≡ 256 → ⊥) → Marked v p T T
unfolding mark_on
mark_other T v p h = record { is = rw (ne_eqb _ _ h) refl }

pub mark_off : (T : List ℕ) (v : ℕ) (p : Place) (b : Bool) → b ≡ on_disk 16 p → b ≡ false → length T ≡ 256 → Marked v p T T
unfolding mark_on
mark_off T v p b e z l = record { is = rw (eq-eqb _ _ l, ← e, z) refl }

pub mark_on_lem : (T T' : List ℕ) (p : Place) (v : ℕ) (free b : Bool) → MadeBit v p T T' → v ≡ cond free 1 0 → b ≡ on_disk 16 p → b ≡ true → length T ≡ 256
    → Marked (cond free 1 0) p T T'
unfolding mark_on
mark_on_lem T T' p v free b u q e z l = record { is = u.is ∙ rw (eq-eqb _ _ l, ← e, z, q) refl }

pub mark_track : (p : Place) (b : Bool) → b ≡ on_disk 16 p → b ≡ true → p.track.0 < 35
mark_track p b e z = on_track 16 p (sym e ∙ z)

pub mark_sector : (p : Place) (b : Bool) → b ≡ on_disk 16 p → b ≡ true → p.sector.0 < 16
mark_sector p b e z = on_sector 16 p (sym e ∙ z)

pub ruleset marks = (bit_small, mark_other, mark_off, mark_on_lem, mark_track, mark_sector, not-true, not-false, rules)
