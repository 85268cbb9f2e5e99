-- The map calls as many sectors free as the VTOC counts. Assumes nothing.
use mathlib.Core.Path.{◌≡◌, refl, sym, ap, ◌∙◌}
use mathlib.Core.Logic.{inl, inr}
use mathlib.Core.List.{List}
use Prim.Native.Nat.{ℕ, zero, suc, ◌+◌, ◌*◌, ◌/◌, ◌%◌, ◌^◌, ◌<◌}
use native.Mathlib.Nat.{pow-succ', mul-suc}
use native.Mathlib.Omega.{arith}
use lib.Count.{ones, ones_step}
use lib.Dec.{eqb}
use borrow.Author.Tests.{eqb-true, eqb-false}
use Rattle.lists.specs.Fill.{Bytes}
use Rattle.lists.specs.Select.{passing}
use Rattle.lists.proofs.Split.{by_test}
use Rattle.lists.proofs.Passing.{one, passing_none, passing_same, passing_add, passing_front}
use Rattle.disk.specs.Disk.{per_of, place, place_of, start}
use Rattle.disk.specs.Vtoc.{vtoc, spare, map_word, map_of, free_in, free_below}
use Rattle.disk.proofs.Places.{Per, per_known, map_bit, at_place}
use Rattle.holders.specs.Holders.{bit, free}
use Rattle.holders.specs.Claims.{MapAgrees}
use Rattle.holders.proofs.Bits.{bit_small, bit_zero, bit_suc}

-- the set bits of a number of k bits
ones_bits : (k w : ℕ) → w < 2 ^ k → ones w ≡ passing (λ j. eqb (bit j w) 1) k
unfolding ones
ones_bits zero w h = let z : w ≡ 0 = omega arith in rw (z, passing_none (λ j. eqb (bit j 0) 1)) refl
ones_bits (suc k) w h =
    let g : w < 2 * 2 ^ k = rw (pow-succ' 2 k) at h in
    let i = ones_bits k (w / 2) (omega arith) in
    let a = passing_front (λ j. eqb (bit j w) 1) k in
    let b : passing (λ j. eqb (bit (suc j) w) 1) k ≡ passing (λ j. eqb (bit j (w / 2)) 1) k = passing_same _ _ k (λ j l. ap (λ (x : ℕ). eqb x 1) (bit_suc j w)) in
    let c : one (eqb (bit 0 w) 1) ≡ w % 2 =
    by_test (eqb (bit 0 w) 1) (λ e. let z = eqb-true (bit 0 w) 1 e in let y = bit_zero w in rw e (omega arith))
    (λ e. let z = eqb-false (bit 0 w) 1 e in let y = bit_zero w in let s = bit_small 0 w in rw e (omega arith)) in
    let s = ones_step w in
    omega arith

-- a track's map, as 01 counts it, is of so many bits as the track has sectors
map_short : (n m : ℕ) → Per n → m < 65536 → m / spare n < 2 ^ n
unfolding spare
map_short n m (inl e) h = rw e (omega arith)
map_short n m (inr e) h = rw e (omega arith)

-- bit s of a track's map is sector s's
free_bit : (n : ℕ) (d : List ℕ) → Per n → (t s : ℕ) → free n d (place t s) ≡ eqb (bit s (map_of n d t)) 1
unfolding free bit
free_bit n d per t s = ap (λ (w : ℕ). eqb (w % 2) 1) (sym (map_bit n (map_word n d t) s per))

module _ (n : ℕ) (d : List ℕ) (per : Per n) (bytes : Bytes d) where
  -- a track
  free_in_lem : (t : ℕ) → free_in n d t ≡ passing (λ s. free n d (place t s)) n
  free_in_lem t =
      let h0 = bytes (start n vtoc + (56 + 4 * t)) in
      let h1 = bytes (start n vtoc + (57 + 4 * t)) in
      let m : ℕ = map_word n d t in
      ones_bits n (m / spare n) (map_short n m per (omega arith)) ∙ passing_same _ _ n (λ s l. sym (free_bit n d per t s))

  -- the tracks below t
  free_below_lem : (t : ℕ) → free_below n d t ≡ passing (λ k. free n d (place_of n k)) (n * t)
  unfolding free_below
  free_below_lem zero = let e : n * 0 ≡ 0 = omega arith in rw (e, passing_none (λ k. free n d (place_of n k))) refl
  free_below_lem (suc t) =
      let e : n * suc t ≡ n * t + n = mul-suc n t ∙ omega arith in
      let i = free_below_lem t in
      let a = passing_add (λ k. free n d (place_of n k)) (n * t) n in
      let b : passing (λ s. free n d (place_of n (n * t + s))) n ≡ passing (λ s. free n d (place t s)) n = passing_same _ _ n (λ s l. ap (free n d) (at_place n t s l)) in
      let f = free_in_lem t in
      rw e (omega arith)

pub map_agrees : (d : List ℕ) → MapAgrees d
map_agrees d =
    record {
      bits = free_bit (per_of d) d (per_known d);
      counts = λ b. let n : ℕ = per_of d in let e : 35 * n ≡ n * 35 = omega arith in rw e (sym (free_below_lem n d (per_known d) b 35));
    }
