-- Names that a save or a delete takes. Assumes nothing.
use mathlib.Core.Path.{◌≡◌, refl, sym, ap, ◌∙◌}
use mathlib.Core.Bool.{Bool, true, false, not, ◌||◌}
use mathlib.Core.List.{List, [], ◌∷◌, ◌++◌}
use Prim.Native.Nat.{ℕ, suc, ◌+◌, ◌-◌, ◌<◌, ◌≤◌}
use native.Mathlib.Numerals.{add-one}
use native.Mathlib.Omega.{arith}
use lib.ListN.{length, get_or, take, drop, drop_of_length-le}
use lib.Seq.{take-suc, take_all, drop-cons, length-take-le}
use lib.Dec.{eqb}
use borrow.Author.Tests.{eq-eqb, ne_eqb, eqb-true, eqb-false, not-true, not-false}
use borrow.Author.Rules.{rules}
use Rattle.lists.specs.Same.{same}
use Rattle.lists.specs.Select.{among}
use Rattle.lists.proofs.Split.{by_lt, by_test}
use Rattle.lists.proofs.Equal.{same_refl, same_length}
use Rattle.catalog.specs.Catalog.{trimmed}
use Rattle.catalog.proofs.Names.{trimmed_short}
use Rattle.catalog.proofs.Shown.{trim_space, trim_stop}
use Rattle.records.specs.Records.{writable}
use Rattle.records.proofs.Entries.{writable_parts}
use Rattle.amend.specs.Lines.{savable}

-- ---- a byte 0
-- the first k bytes have none
pub record Zeros (s : List ℕ) (k : ℕ) : Type 0 where
  pub count : k ≤ length s
  pub is : among 0 s ≡ among 0 (drop k s)

module _ (s : List ℕ) where
  pub zeros_none : Zeros s 0
  zeros_none = record { count = omega arith; is = refl }

  module _ (k : ℕ) (c : Zeros s k) where
    step : k < length s → among 0 s ≡ (eqb 0 (get_or s k 0) || among 0 (drop (k + 1) s))
    unfolding among
    step h = c.is ∙ rw (drop-cons s k 0 h, add-one k) refl

    pub zeros_here : k < length s → get_or s k 0 ≡ 0 → true ≡ among 0 s
    zeros_here h z = rw (step h, eq-eqb 0 (get_or s k 0) (sym z)) refl

    pub zeros_more : k < length s → (get_or s k 0 ≡ 0 → ⊥) → Zeros s (k + 1)
    zeros_more h z = record { count = omega arith; is = step h ∙ rw (ne_eqb 0 (get_or s k 0) (λ q. z (sym q))) refl }

    pub zeros_done : length s ≤ k → false ≡ among 0 s
    unfolding among
    zeros_done h = rw (c.is, drop_of_length-le s {i = k} h) refl

pub ruleset zeros = (zeros_none, zeros_here, zeros_more, zeros_done, rules)

-- ---- the whole name
module _ (s : List ℕ) (w : Bool) (e : w ≡ writable s) where
  pub not_writable : w ≡ false → false ≡ savable s
  unfolding savable
  not_writable z = rw (← e, z) refl

  -- it has a last byte
  pub has_last : w ≡ true → 1 ≤ length s
  has_last z = by_lt 0 (length s) (λ l. l) (λ l. absurd ((writable_parts s (sym e ∙ z)).0.0 (omega arith)))

  pub with_zero : (b : Bool) → w ≡ true → b ≡ among 0 s → b ≡ true → false ≡ savable s
  unfolding savable
  with_zero b z f y = rw (← e, z, ← f, y) refl

module _ (s : List ℕ) (h : 1 ≤ length s) where
  -- its bytes but the last, and that
  ends : s ≡ take (length s - 1) s ++ (get_or s (length s - 1) 0 ∷ [])
  ends =
      let q : length s ≡ suc (length s - 1) = omega arith in
      sym (take_all (length s) s (omega arith)) ∙ ap (λ (k : ℕ). take k s) q ∙ take-suc s (length s - 1) 0 (omega arith)

  kept : (get_or s (length s - 1) 0 ≡ 32 → ⊥) → same (trimmed s) s ≡ true
  kept z =
      let l : List ℕ = take (length s - 1) s in
      let b : ℕ = get_or s (length s - 1) 0 in
      let t : trimmed s ≡ s = ap trimmed ends ∙ trim_stop l b z ∙ sym ends in
      ap (λ (x : List ℕ). same x s) t ∙ same_refl s

  cut : get_or s (length s - 1) 0 ≡ 32 → same (trimmed s) s ≡ false
  cut z =
      let l : List ℕ = take (length s - 1) s in
      let t : trimmed s ≡ trimmed l = ap trimmed ends ∙ ap (λ (b : ℕ). trimmed (l ++ (b ∷ []))) z ∙ trim_space l in
      let k : length (trimmed l) ≤ length l = trimmed_short l in
      let m : length l ≡ length s - 1 = length-take-le (length s - 1) s (omega arith) in
      let q : length (trimmed s) ≡ length (trimmed l) = ap length t in
      sym (same_length (trimmed s) s (λ y. omega arith))

module _ (s : List ℕ) (w b : Bool) (c : ℕ) (e : w ≡ writable s) (f : b ≡ among 0 s) (g : c ≡ get_or s (length s - 1) 0) (z : w ≡ true) (y : b ≡ false) where
  pub with_space : c ≡ 32 → false ≡ savable s
  unfolding savable
  with_space q = rw (← e, z, ← f, y, cut s (has_last s w e z) (sym g ∙ q)) refl

  pub without : (c ≡ 32 → ⊥) → true ≡ savable s
  unfolding savable
  without q = rw (← e, z, ← f, y, kept s (has_last s w e z) (λ x. q (g ∙ x))) refl

  -- by its last byte
  pub last_is : not (eqb c 32) ≡ savable s
  last_is = by_test (eqb c 32) (λ q. rw q (with_space (eqb-true c 32 q))) (λ q. rw q (without (eqb-false c 32 q)))

pub ruleset savables = (not_writable, has_last, with_zero, last_is, not-true, not-false, rules)
