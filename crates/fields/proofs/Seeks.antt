-- `marks_in_16`, `find_slow`, `find_fast` and `find_mark` over plain variables. Assumes nothing.
use mathlib.Core.Path.{◌≡◌, refl, sym, ◌∙◌}
use mathlib.Core.List.{List}
use Prim.Native.Nat.{ℕ, zero, suc, ◌+◌, ◌-◌, ◌≤◌, ◌<◌}
use native.Mathlib.Nat.{add-zero}
use native.Mathlib.Omega.{arith}
use borrow.Author.Rules.{rules}
use borrow.Author.Tests.{eq-eqb, ne_eqb}
use lib.Bits.{bit_or}
use lib.ListN.{length, get_or, drop, drop_of_length-le}
use lib.Seq.{drop-cons}
use Rattle.lists.proofs.Split.{by_lt}
use Rattle.lists.proofs.Bits.{or_bit, or_none}
use Rattle.fields.specs.Search.{is_mark, skip, Clear}

-- ---- the list from k on
skip_mark : (s : List ℕ) (k : ℕ) → k < length s → get_or s k 0 ≡ 213 → skip (drop k s) ≡ 0
unfolding skip
skip_mark s k h e = rw (drop-cons s k 0, eq-eqb _ _ e) refl

skip_one : (s : List ℕ) (k : ℕ) → k < length s → (get_or s k 0 ≡ 213 → ⊥) → skip (drop k s) ≡ suc (skip (drop (suc k) s))
unfolding skip
skip_one s k h e = rw (drop-cons s k 0, ne_eqb _ _ e) refl

skip_many : (s : List ℕ) (n k : ℕ) → k + n ≤ length s → ((j : ℕ) → j < n → get_or s (k + j) 0 ≡ 213 → ⊥) → k + skip (drop k s) ≡ k + n + skip (drop (k + n) s)
skip_many s zero k h c = rw (add-zero k) refl
skip_many s (suc n) k h c =
    let a : get_or s k 0 ≡ 213 → ⊥ = rw (add-zero k) at (c zero (omega arith)) in
    let e : suc k + n ≡ k + suc n = omega arith in
    let i : suc k + skip (drop (suc k) s) ≡ suc k + n + skip (drop (suc k + n) s) =
    skip_many s n (suc k) (omega arith) (λ j l. let q : suc k + j ≡ k + suc j = omega arith in rw q (c (suc j) (omega arith))) in
    let b = skip_one s k (omega arith) a in
    let g : k + skip (drop k s) ≡ suc k + n + skip (drop (suc k + n) s) = omega (arith, b, i) in
    rw e at g

-- ---- marks_in_16: hit is 1 from the first mark on
pub record Hits (s : List ℕ) (i hit j : ℕ) : Type 0 where
  pub count : j ≤ 16
  pub bit : hit ≤ 1
  pub none : hit ≡ 0 → (m : ℕ) → m < j → get_or s (i + m) 0 ≡ 213 → ⊥

pub hits_start : (s : List ℕ) (i : ℕ) → Hits s i 0 0
hits_start s i = record { count = omega arith; bit = omega arith; none = λ e m h. absurd (omega arith) }

-- a mark counts
mark_is : (b : ℕ) → b ≡ 213 → is_mark b ≡ 1
mark_is b h = rw (eq-eqb _ _ h) refl

pub hits_turn : (s : List ℕ) (i hit j r : ℕ) → Hits s i hit j → j < 16 → r ≡ is_mark (get_or s (i + j) 0) → r ≤ 1 → Hits s i (bit_or hit r) (j + 1)
hits_turn s i hit j r a h q l =
    record {
      count = omega arith;
      bit = or_bit hit r a.bit l;
      none = λ e m g b. by_lt m j (λ p. a.none (or_none hit r a.bit l e).0 m p b)
          (λ p. let u : m ≡ j = omega arith in let c : get_or s (i + j) 0 ≡ 213 = rw u at b in let w : r ≡ 1 = q ∙ mark_is _ c in
          let z : r ≡ 0 = (or_none hit r a.bit l e).1 in absurd (omega (arith, w, z)));
    }

pub hits_done : (s : List ℕ) (i hit j : ℕ) → Hits s i hit j → 16 ≤ j → Clear s i hit 16
hits_done s i hit j a h = record { clear = λ e m g b. a.none e m (omega arith) b }

pub ruleset hits = (hits_start, hits_turn, hits_done, rules)

-- ---- find and find_slow: the first mark is no nearer than k
pub record From (s : List ℕ) (i k : ℕ) : Type 0 where
  pub within : k ≤ length s
  pub same : i + skip (drop i s) ≡ k + skip (drop k s)

pub from_start : (s : List ℕ) (i : ℕ) → i ≤ length s → From s i i
from_start s i h = record { within = h; same = refl }

pub from_turn : (s : List ℕ) (i k : ℕ) → From s i k → k < length s → (get_or s k 0 ≡ 213 → ⊥) → From s i (k + 1)
from_turn s i k f h e =
    let a = skip_one s k h e in
    let b : suc k ≡ k + 1 = omega arith in
    record { within = omega arith; same = f.same ∙ rw (← b) (omega (arith, a)) }

pub from_far : (s : List ℕ) (i k r : ℕ) → From s i k → Clear s k r 16 → r ≡ 0 → 16 ≤ length s - k → From s i (k + 16)
from_far s i k r f c z h = record { within = omega (arith, f.within); same = f.same ∙ skip_many s 16 k (omega (arith, f.within)) (c.clear z) }

pub from_mark : (s : List ℕ) (i k : ℕ) → From s i k → k < length s → get_or s k 0 ≡ 213 → k ≡ i + skip (drop i s)
from_mark s i k f h e = let a = skip_mark s k h e in omega (arith, f.same, a)

pub from_end : (s : List ℕ) (i k : ℕ) → From s i k → length s ≤ k → k ≡ i + skip (drop i s)
unfolding skip
from_end s i k f h =
    let a : skip (drop k s) ≡ 0 = rw (drop_of_length-le s {i = k} h) refl in
    omega (arith, f.same, a)

pub from_call : (s : List ℕ) (i k r : ℕ) → From s i k → r ≡ k + skip (drop k s) → r ≡ i + skip (drop i s)
from_call s i k r f e = e ∙ sym f.same

-- a start past the end
pub from_past : (s : List ℕ) (i : ℕ) → length s < i → i ≡ i + skip (drop i s)
unfolding skip
from_past s i h =
    let a : skip (drop i s) ≡ 0 = rw (drop_of_length-le s {i = i} (omega arith)) refl in
    omega (arith, a)

pub ruleset seeks = (from_past, from_start, from_turn, from_far, from_mark, from_end, from_call, rules)
