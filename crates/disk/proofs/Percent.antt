-- The percent used: the claim of Req 04. Assumes nothing.
use mathlib.Core.Path.{◌≡◌, refl}
use Prim.Native.Nat.{ℕ, suc, ◌+◌, ◌*◌, ◌-◌, ◌/◌, ◌%◌, ◌<◌, ◌≤◌}
use native.Mathlib.Nat.{mul-suc, mul_assoc, mul-le-mul_left, le_of_mul-le-mul_left, lt_of_mul-lt-mul_left, mul-add-mod_self_left, div-add-mod, mod-lt}
use native.Mathlib.Omega.{arith}
use Rattle.lists.proofs.Split.{by_lt, by_order}
use Rattle.disk.specs.Vtoc.{percent}
use Rattle.disk.specs.Percent.{Halfway, Nearest, Rounding}
use Rattle.disk.proofs.PercentOf.{percent_below, percent_above, percent_half}

-- used as a whole number q and a rest r
module _ (total used q r : ℕ) (e : total * q + r ≡ 100 * used) (l : r < total) where
  -- halfway the rest is half the total
  half_rest : Halfway total used → 2 * r ≡ total
  half_rest (k, h) =
      let a = mul_assoc 2 total k in
      by_order k q
      (λ z. let m : total * suc k ≤ total * q = mul-le-mul_left total z in absurd (omega (arith, mul-suc total k)))
      (λ z. let m : total * suc q ≤ total * k = mul-le-mul_left total z in absurd (omega (arith, mul-suc total q)))
      (λ z. let m : total * k ≡ total * q = rw z refl in omega arith)

  -- less than a half above
  near_below : 2 * r < total → Nearest total used q
  near_below h =
      let a = mul_assoc 2 total q in
      record { below = omega arith; above = omega arith; even = λ w. let y = half_rest w in absurd (omega arith) }

  -- .. more than a half
  near_above : total < 2 * r → Nearest total used (q + 1)
  near_above h =
      let a = mul_assoc 2 total (suc q) in
      let b = mul-suc total q in
      record { below = omega arith; above = omega arith; even = λ w. let y = half_rest w in absurd (omega arith) }

  -- .. and a half: q where it is even, else the next
  near_half : 2 * r ≡ total → Nearest total used (q + q % 2)
  near_half h =
      let a = mul_assoc 2 total q in
      let b = mul_assoc 2 total (suc q) in
      let c = mul-suc total q in
      by_lt (q % 2) 1
      (λ z. let i : q + q % 2 ≡ q = omega arith in rw i (record { below = omega arith; above = omega arith; even = λ w. omega arith }))
      (λ z. let i : q + q % 2 ≡ suc q = omega arith in rw i (record { below = omega arith; above = omega arith; even = λ w. omega arith }))

-- the percent used is such a number
nearest : (total used : ℕ) → 0 < total → Nearest total used (percent total used)
nearest total used h =
    let q = 100 * used / total in
    let r = 100 * used % total in
    let e : total * q + r ≡ 100 * used = div-add-mod (100 * used) total in
    let l : r < total = mod-lt (100 * used) h in
    by_order (2 * r) total
    (λ z. rw (← percent_below total used z) (near_below total used q r e l z))
    (λ z. rw (← percent_above total used z) (near_above total used q r e l z))
    (λ z. rw (← percent_half total used (omega arith) (omega arith)) (near_half total used q r e l z))

-- of two such numbers neither is the smaller one
not_less : (total used p q : ℕ) → 0 < total → Nearest total used p → Nearest total used q → p < q → ⊥
not_less total used p q h a b l =
    let m : total * suc p ≤ total * q = mul-le-mul_left total l in
    let x = mul-suc total p in
    let y = mul_assoc 2 total p in
    let z = mul_assoc 2 total q in
    let i = a.below in
    let j = b.above in
    let w : Halfway total used = (p, omega arith) in
    let n : q ≤ suc p = le_of_mul-le-mul_left {k = total} (omega arith) h in
    let s = a.even w in
    let t = b.even w in
    omega arith

-- .. so they are one
only : (total used p q : ℕ) → 0 < total → Nearest total used p → Nearest total used q → p ≡ q
only total used p q h a b =
    by_order p q
    (λ l. absurd (not_less total used p q h a b l))
    (λ l. absurd (not_less total used q p h b a l))
    (λ l. l)

-- k and a half percent of 560 sectors are 28 m + 14, m being 2 used - (11 k + 6)
half_560 : (used k : ℕ) → 200 * used ≡ 2 * 560 * k + 560 → used % 28 ≡ 14
half_560 used k h =
    let a : 5 * used ≡ 28 * k + 14 = omega arith in
    let l : 11 * k + 6 ≤ 2 * used = omega arith in
    go (2 * used - (11 * k + 6)) (omega arith)
  where
    go : (m : ℕ) → used ≡ 28 * m + 14 → used % 28 ≡ 14
    go m e = rw e (mul-add-mod_self_left 28 m 14)

pub rounding : Rounding
rounding =
    record {
      nearest = nearest;
      only = only;
      halves_560 = λ used. (λ w. half_560 used w.0 w.1, λ h. (5 * (used / 28) + 2, omega arith));
      halves_455 = λ used w. let h = w.1 in omega arith;
    }

-- none of a total is 0
pub near_none : (total : ℕ) → Nearest total 0 0
near_none total = record { below = omega arith; above = omega arith; even = λ w. refl }

-- a part of a whole is at most 100 of 100
pub percent_small : (total used : ℕ) → used ≤ total → percent total used ≤ 100
unfolding percent
percent_small total used h =
    by_lt 0 total
    (λ z.
    let a = (nearest total used z).above in
    let b : percent total used < 101 = lt_of_mul-lt-mul_left (2 * total) (omega arith) in
    omega arith)
    (λ z. let e : total ≡ 0 = omega arith in let i : used ≡ 0 = omega arith in rw (e, i) (omega arith))
