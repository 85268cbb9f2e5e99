-- Decoding what was encoded gives the sector back. Assumes nothing.
use Rattle.std.specs.Prelude.{Ok}
use mathlib.Core.Path.{◌≡◌, refl, sym, ◌∙◌}
use mathlib.Core.Bool.{Bool}
use mathlib.Core.List.{List, [], ◌∷◌, ◌++◌}
use Prim.Native.Nat.{ℕ, zero, suc, ◌+◌, ◌-◌, ◌*◌, ◌/◌, ◌%◌, ◌<◌}
use native.Mathlib.Omega.{arith}
use borrow.Author.Tests.{lt-ltb, le-ltb, eq-eqb, ne_eqb}
use lib.Bits.{xor_lt}
use lib.Dec.{ltb, eqb, eqb→eq}
use lib.ListN.{length, get_or, get_or-eq_default}
use Rattle.lists.specs.Fill.{tab, before_of, Bytes}
use Rattle.lists.proofs.Laws.{get_or_tab, is_tab, tab_suc}
use Rattle.lists.proofs.Split.{by_lt, cond_both}
use Rattle.lists.proofs.Table.{test_at}
use Rattle.lists.proofs.Bits.{xor_cancel_r}
use Rattle.nibble.specs.Nibble.{writes, write_of, place_in, read_of, low, value_of, nibble_of, encode, val_at, values_of, byte_from, step_of, decode, decoded}
use Rattle.nibble.proofs.Runs.{run_step}

-- ---- the tables
right : ℕ → ℕ → Bool
right k x = eqb (read_of x) k

pub read_write : (v : ℕ) → v < 64 → read_of (write_of v) ≡ v
unfolding writes write_of place_in read_of right
read_write v h = eqb→eq (read_of (write_of v)) v (test_at right writes tt v h)

-- what is at no place of a list
pub place_none : (b i : ℕ) (xs : List ℕ) → ((k : ℕ) → k < length xs → b ≡ get_or xs k 0 → ⊥) → place_in b i xs ≡ 0
unfolding place_in
place_none b i [] h = refl
place_none b i (x ∷ xs) h = rw (ne_eqb b x (h zero (omega arith))) (place_none b (suc i) xs (λ k l. h (suc k) (omega arith)))

-- a byte outside the write table reads as 0
pub read_other : (b : ℕ) → ((v : ℕ) → v < 64 → b ≡ write_of v → ⊥) → read_of b ≡ 0
unfolding writes write_of read_of
read_other b h = place_none b 0 writes h

-- ---- the two bits, and where they stand in a value
low_low : (x : ℕ) → x / 4 * 4 + low (low x) ≡ x
low_low x =
    let p : low x % 2 ≡ x / 2 % 2 = omega arith in
    let q : low x / 2 ≡ x % 2 = omega arith in
    let r : x / 2 / 2 ≡ x / 4 = omega arith in
    rw (p, q) (omega arith)

pub low_4 : (a b : ℕ) → low (a + b * 4) ≡ low a
low_4 a b = omega arith

pub low_0 : (a b c : ℕ) → low (a + b * 4 + c * 16) ≡ low a
low_0 a b c = omega arith

low_1 : (x b c : ℕ) → low ((low x + b * 4 + c * 16) / 4) ≡ low b
low_1 x b c = let e : (low x + b * 4 + c * 16) / 4 ≡ b + c * 4 = omega arith in rw e (low_4 b c)

low_2 : (x y c : ℕ) → low ((low x + low y * 4 + c * 16) / 16) ≡ low c
low_2 x y c = let e : (low x + low y * 4 + c * 16) / 16 ≡ c = omega arith in rw e refl

-- ---- the values
pub value_high : (d : List ℕ) (i : ℕ) → value_of d (i + 86) ≡ get_or d i 0 / 4
unfolding value_of
value_high d i =
    let e : i + 86 - 86 ≡ i = omega arith in
    rw (le-ltb (i + 86) 86 (omega arith), e) refl

pub value_low : (d : List ℕ) (j : ℕ) → j < 86
    → value_of d j ≡ low (get_or d j 0) + low (get_or d (j + 86) 0) * 4 + low (get_or d (j + 172) 0) * 16
unfolding value_of
value_low d j h = rw (lt-ltb j 86 h) refl

pub value_lt : (d : List ℕ) → Bytes d → (j : ℕ) → value_of d j < 64
unfolding value_of
value_lt d b j = cond_both (λ (x : ℕ). x < 64) (ltb j 86) (omega arith) (omega (arith, b (j - 86)))

before_lt : (f : ℕ → ℕ) → ((k : ℕ) → f k < 64) → (k : ℕ) → before_of f k < 64
unfolding before_of
before_lt f h zero = omega arith
before_lt f h (suc k) = h k

-- ---- the values of what was encoded
module _ (d : List ℕ) (b : Bytes d) where
  turn : (k : ℕ) → k < 343 → before_of (val_at (encode d)) k ≡ before_of (value_of d) k → val_at (encode d) k ≡ value_of d k
  unfolding encode nibble_of step_of
  turn k h e =
      run_step read_of (encode d) k
      ∙ rw (e, get_or_tab (nibble_of d) 343 k 0 h, read_write _ (xor_lt 6 _ _ (value_lt d b k) (before_lt (value_of d) (value_lt d b) k)))
      (xor_cancel_r (before_of (value_of d) k) (value_of d k))

  pub values : (k : ℕ) → k < 343 → val_at (encode d) k ≡ value_of d k
  unfolding before_of
  values zero h = turn zero h refl
  values (suc k) h = turn (suc k) h (values k (omega arith))

  -- the bytes: byte i has its low bits in place p of value j
  got : (k : ℕ) → k < 343 → get_or (values_of (encode d)) k 0 ≡ value_of d k
  unfolding values_of
  got k h = get_or_tab (val_at (encode d)) 343 k 0 h ∙ values k h

  pub byte : (i : ℕ) → i < 256 → get_or d i 0 ≡ byte_from (values_of (encode d)) i
  unfolding byte_from
  byte i h =
      let m : value_of d (i + 86) % 64 ≡ value_of d (i + 86) = omega (arith, value_lt d b (i + 86)) in
      rw (got (i + 86) (omega arith), m, value_high d i)
      (by_lt i 86
      (λ l. rw (lt-ltb i 86 l, got i (omega arith), value_low d i l, low_0, low_low) refl)
      (λ g. rw (le-ltb i 86 g) (by_lt i 172
      (λ l.
      let e : i - 86 + 86 ≡ i = omega arith in
      rw (lt-ltb i 172 l, got (i - 86) (omega arith), value_low d (i - 86) (omega arith), low_1, e, low_low) refl)
      (λ g.
      let e : i - 172 + 172 ≡ i = omega arith in
      rw (le-ltb i 172 g, got (i - 172) (omega arith), value_low d (i - 172) (omega arith), low_2, e, low_low) refl))))

  pub round_trip : length d ≡ 256 → decode (encode d) ≡ d
  unfolding decode
  round_trip l = sym (is_tab (byte_from (values_of (encode d))) 256 d l byte)

  last_zero : length d ≡ 256 → value_of d 342 ≡ 0
  last_zero l = value_high d 256 ∙ rw (get_or-eq_default d 0 {n = 256} (omega arith)) refl

  -- the sum is right
  pub sum : length d ≡ 256 → val_at (encode d) 342 ≡ 0
  sum l = values 342 (omega arith) ∙ last_zero l

  -- the document's words: 342 nibbles, and value 341 as the sum
  pub encode_is : length d ≡ 256 → encode d ≡ tab (nibble_of d) 342 ++ (write_of (value_of d 341) ∷ [])
  unfolding encode nibble_of step_of before_of
  encode_is l = tab_suc (nibble_of d) 342 ∙ rw (last_zero l) refl

  -- of the two functions' contracts: what the encoder hands over, the decoder accepts, and gives the sector back
  pub accepted : length d ≡ 256 → decoded (encode d) ≡ Ok d
  unfolding decoded
  accepted l = rw (eq-eqb _ _ (sum l), round_trip l) refl
