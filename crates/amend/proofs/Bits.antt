-- One bit of a number changed. Assumes nothing.
use mathlib.Core.Path.{◌≡◌, refl, ap}
use Prim.Native.Nat.{ℕ, zero, suc, ◌+◌, ◌*◌, ◌/◌, ◌%◌, ◌^◌, ◌<◌, ◌≤◌}
use native.Mathlib.Nat.{pow-succ', mul_assoc, mul-le-mul_left, mul-div-le, le_trans, mod-le}
use native.Mathlib.Omega.{arith}
use Rattle.holders.specs.Holders.{bit}
use Rattle.holders.proofs.Bits.{bit_zero, bit_suc}
use Rattle.amend.specs.Search.{with_bit}

-- what a bit counts is no more than the number
pub bit_part : (k w : ℕ) → 2 ^ k * bit k w ≤ w
unfolding bit
bit_part k w = le_trans (mul-le-mul_left (2 ^ k) (mod-le (w / 2 ^ k) 2)) (mul-div-le w (2 ^ k))

-- one bit changed: the lowest, or one of the others
with_zero : (v w : ℕ) → with_bit 0 v w ≡ 2 * (w / 2) + v
unfolding with_bit
with_zero v w = rw (bit_zero w) (omega arith)

with_suc : (k v w : ℕ) → with_bit (suc k) v w ≡ w % 2 + 2 * with_bit k v (w / 2)
unfolding with_bit
with_suc k v w =
    let x = bit_part k (w / 2) in
    rw (bit_suc k w, pow-succ' 2 k, mul_assoc 2 (2 ^ k) (bit k (w / 2)), mul_assoc 2 (2 ^ k) v) (omega arith)

-- it is what it was made
pub with_same : (k v w : ℕ) → v < 2 → bit k (with_bit k v w) ≡ v
with_same zero v w h = rw (with_zero v w, bit_zero (2 * (w / 2) + v)) (omega arith)
with_same (suc k) v w h =
    let i = with_same k v (w / 2) h in
    let e : (w % 2 + 2 * with_bit k v (w / 2)) / 2 ≡ with_bit k v (w / 2) = omega arith in
    rw (with_suc k v w, bit_suc k (w % 2 + 2 * with_bit k v (w / 2)), e) i

-- .. and the others are what they were
pub with_else : (j k v w : ℕ) → (j ≡ k → ⊥) → v < 2 → bit j (with_bit k v w) ≡ bit j w
with_else zero zero v w h l = absurd (h refl)
with_else zero (suc k) v w h l = rw (with_suc k v w, bit_zero (w % 2 + 2 * with_bit k v (w / 2)), bit_zero w) (omega arith)
with_else (suc j) zero v w h l =
    let e : (2 * (w / 2) + v) / 2 ≡ w / 2 = omega arith in
    rw (with_zero v w, bit_suc j (2 * (w / 2) + v), e, bit_suc j w) refl
with_else (suc j) (suc k) v w h l =
    let i = with_else j k v (w / 2) (λ e. h (ap suc e)) l in
    let e : (w % 2 + 2 * with_bit k v (w / 2)) / 2 ≡ with_bit k v (w / 2) = omega arith in
    rw (with_suc k v w, bit_suc j (w % 2 + 2 * with_bit k v (w / 2)), e, bit_suc j w) i

-- a number of m bits stays one
pub with_small : (m k v w : ℕ) → w < 2 ^ m → k < m → v < 2 → with_bit k v w < 2 ^ m
with_small zero k v w h l b = absurd (omega arith)
with_small (suc m) zero v w h l b =
    let g : w < 2 * 2 ^ m = rw (pow-succ' 2 m) at h in
    rw (with_zero v w, pow-succ' 2 m) (omega arith)
with_small (suc m) (suc k) v w h l b =
    let g : w < 2 * 2 ^ m = rw (pow-succ' 2 m) at h in
    let i = with_small m k v (w / 2) (omega arith) (omega arith) b in
    rw (with_suc k v w, pow-succ' 2 m) (omega arith)
