-- A block that is compared with 256 bytes of an archive. Assumes nothing.
use mathlib.Core.Path.{◌≡◌, refl, sym, ap, ◌∙◌}
use mathlib.Core.Bool.{Bool, true, false, ◌&&◌}
use mathlib.Core.List.{List}
use Prim.Native.Nat.{ℕ, ◌+◌, ◌<◌, ◌≤◌}
use native.Mathlib.Numerals.{add-one}
use native.Mathlib.Omega.{arith}
use lib.ListN.{length, get_or, take, drop}
use lib.Seq.{take-take, take_all}
use lib.Dec.{eqb}
use borrow.Author.Rules.{rules}
use Rattle.lists.specs.Same.{same}
use Rattle.lists.proofs.Equal.{same_suc, same_length}

-- k bytes were compared, and all of them are equal or not
pub record Compared (x y : List ℕ) (k : ℕ) (t : Bool) : Type 0 where
  pub count : k ≤ 256
  pub is : same (take k x) (take k y) ≡ t

pub compared_none : (x y : List ℕ) → Compared x y 0 true
unfolding same
compared_none x y = record { count = omega arith; is = refl }

module _ (x y : List ℕ) (p : length x ≡ 256) (q : length y ≡ 256) (k : ℕ) (t : Bool) (h : Compared x y k t) where
  pub compared_more : k < 256 → (u : Bool) → u ≡ eqb (get_or x k 0) (get_or y k 0) → Compared x y (k + 1) (t && u)
  compared_more l u e = record { count = omega arith; is = rw (add-one k, same_suc x y k (omega (arith, p, l)) (omega (arith, q, l)), h.is, e) refl }

  pub compared_all : 256 ≤ k → t ≡ same x y
  compared_all l = sym h.is ∙ rw (take_all k x (omega (arith, p, l)), take_all k y (omega (arith, q, l))) refl

pub ruleset compares = (compared_none, compared_more, compared_all, rules)

module _ (x a s : List ℕ) (at : ℕ) (e : s ≡ take 256 (drop at a)) where
  pub stands_whole : (y : List ℕ) (r : Bool) → y ≡ take 256 s → r ≡ same x y → r ≡ same x (take 256 (drop at a))
  stands_whole y r q h = h ∙ ap (same x) (q ∙ ap (take 256) e ∙ take-take 256 256 (drop at a) (omega arith))

  pub stands_short : length x ≡ 256 → length s < 256 → false ≡ same x (take 256 (drop at a))
  stands_short q h = same_length x (take 256 (drop at a)) (λ z. omega (arith, z, q, h, ap (length {A = ℕ}) e))
