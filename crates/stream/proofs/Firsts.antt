-- The first field of a kind, and the sums of the fields that count, when one field more is met. Assumes nothing.
use mathlib.Core.Path.{◌≡◌, refl, sym, ap, ◌∙◌}
use mathlib.Core.Bool.{Bool, true, false, cond, not, ◌&&◌, ◌||◌}
use mathlib.Core.List.{List, [], ◌∷◌, ◌++◌}
use Prim.Native.Nat.{ℕ}
use borrow.Author.Tests.{ne_eqb}
use lib.Dec.{eqb}
use lib.ListN.{take, drop}
use Rattle.lists.specs.Select.{all, any}
use Rattle.lists.proofs.Split.{by_test, clash, and_assoc, and_true}
use Rattle.std.specs.Prelude.{Ok, Err}
use Rattle.outcome.specs.declared.Refusal.TheVariants.{Absent}
use Rattle.outcome.specs.Outcome.{Outcome}
use Rattle.fields.specs.declared.Edition.{Edition}
use Rattle.fields.specs.declared.FieldPair.{FieldPair}
use Rattle.fields.specs.Editions.{nibbles_of, dos_sector, data_of}
use Rattle.fields.specs.Fields.{Field}
use Rattle.fields.specs.Scan.{field_of}
use Rattle.stream.specs.Stream.{same_key, firsts, sum_ok, sums_ok, bytes_at, of_key}
use Rattle.stream.specs.Steps.{sector_at, first_place}

-- ---- tests
pub or_true : (a : Bool) → (a || true) ≡ true
or_true true = refl
or_true false = refl

pub or_false : (a : Bool) → (a || false) ≡ a
or_false true = refl
or_false false = refl

-- neither of two
pub or_none : (a b : Bool) → (a || b) ≡ false → (a ≡ false) × (b ≡ false)
or_none true b e = absurd (clash (sym e))
or_none false b e = (refl, e)

-- some element of a list that holds f passes, where f does
pub any_met : (test : Field → Bool) (xs ys : List Field) (f : Field) → test f ≡ true → any test (xs ++ (f ∷ ys)) ≡ true
unfolding any
any_met test [] ys f e = rw e refl
any_met test (x ∷ xs) ys f e = rw (any_met test xs ys f e) (or_true (test x))

-- none of one more
pub any_none : (test : Field → Bool) (xs : List Field) (f : Field) → any test xs ≡ false → test f ≡ false → any test (xs ++ (f ∷ [])) ≡ false
unfolding any
any_none test [] f e q = rw q refl
any_none test (x ∷ xs) f e q = let b = or_none (test x) (any test xs) e in rw (b.0, any_none test xs f b.1 q) refl

-- two tests that agree on the elements of a list
pub any_agree : (t u w : Field → Bool) → ((g : Field) → w g ≡ false → t g ≡ u g) → (xs : List Field) → any w xs ≡ false → any t xs ≡ any u xs
unfolding any
any_agree t u w h [] e = refl
any_agree t u w h (x ∷ xs) e =
    let b = or_none (w x) (any w xs) e in
    rw (h x b.0, any_agree t u w h xs b.1) refl

-- ---- the first field that passes a test
unfoldable pub first_in : (ed : Edition) → (Field → Bool) → List Field → Outcome (List ℕ)
first_in ed test [] = Err Absent
first_in ed test (f ∷ fs) = cond (test f) (Ok (data_of ed f.nibbles)) (first_in ed test fs)

pub of_key_is : (ed : Edition) (v t s : ℕ) (fs : List Field) → of_key ed v t s fs ≡ first_in ed (λ f. eqb f.volume v && (eqb f.track t && eqb f.sector s)) fs
unfolding of_key first_in
of_key_is ed v t s [] = refl
of_key_is ed v t s (f ∷ fs) = ap (cond (eqb f.volume v && (eqb f.track t && eqb f.sector s)) (Ok (data_of ed f.nibbles))) (of_key_is ed v t s fs)

pub bytes_at_is : (ed : Edition) (t s : ℕ) (fs : List Field) → bytes_at ed t s fs ≡ first_in ed (λ f. eqb f.track t && eqb (dos_sector ed f.sector) s) fs
unfolding bytes_at first_in
bytes_at_is ed t s [] = refl
bytes_at_is ed t s (f ∷ fs) = ap (cond (eqb f.track t && eqb (dos_sector ed f.sector) s) (Ok (data_of ed f.nibbles))) (bytes_at_is ed t s fs)

-- what is refused, then the other
or_else : Outcome (List ℕ) → Outcome (List ℕ) → Outcome (List ℕ)
or_else (Err r) o = o
or_else (Ok b) o = Ok b

-- ---- the bytes at a place
pub sector_none : (ed : Edition) (s : List ℕ) (at : ℕ) → eqb at 0 ≡ true → sector_at ed s at ≡ Err Absent
unfolding sector_at
sector_none ed s at t = rw t refl

pub sector_some : (ed : Edition) (s : List ℕ) (at : ℕ) → eqb at 0 ≡ false → sector_at ed s at ≡ Ok (data_of ed (take (nibbles_of ed) (drop at s)))
unfolding sector_at
sector_some ed s at t = rw t refl

module _ (ed : Edition) (test : Field → Bool) where
  -- one field more
  first_more : (xs : List Field) (f : Field) → first_in ed test (xs ++ (f ∷ [])) ≡ or_else (first_in ed test xs) (first_in ed test (f ∷ []))
  unfolding first_in or_else
  first_more [] f = refl
  first_more (x ∷ xs) f = by_test (test x) (λ e. rw e refl) (λ e. rw e (first_more xs f))

  -- one field alone
  first_one : (s : List ℕ) (p : FieldPair) (b : Bool) → b ≡ test (field_of ed s p) → (p.nibbles ≡ 0 → ⊥)
      → sector_at ed s (cond b p.nibbles 0) ≡ first_in ed test (field_of ed s p ∷ [])
  unfolding first_in
  first_one s p true e n = sector_some ed s p.nibbles (ne_eqb p.nibbles 0 n) ∙ rw (← e) refl
  first_one s p false e n = sector_none ed s 0 refl ∙ rw (← e) refl

  -- the place of the first one, when the pair p is met
  pub first_turn : (s : List ℕ) (xs : List Field) (at : ℕ) (p : FieldPair) (b : Bool) → b ≡ test (field_of ed s p) → (p.nibbles ≡ 0 → ⊥)
      → sector_at ed s at ≡ first_in ed test xs → sector_at ed s (first_place at b p.nibbles) ≡ first_in ed test (xs ++ (field_of ed s p ∷ []))
  unfolding or_else
  first_turn s xs at p b e n i =
      let one : Outcome (List ℕ) = first_in ed test (field_of ed s p ∷ []) in
      by_test (eqb at 0)
      (λ t.
      let z : first_in ed test xs ≡ Err Absent = sym i ∙ sector_none ed s at t in
      let w : first_place at b p.nibbles ≡ cond b p.nibbles 0 = rw t refl in
      ap (sector_at ed s) w ∙ first_one s p b e n ∙ sym (first_more xs (field_of ed s p) ∙ ap (λ o. or_else o one) z))
      (λ t.
      let z : first_in ed test xs ≡ Ok (data_of ed (take (nibbles_of ed) (drop at s))) = sym i ∙ sector_some ed s at t in
      let w : first_place at b p.nibbles ≡ at = rw t refl in
      ap (sector_at ed s) w ∙ sector_some ed s at t ∙ sym (first_more xs (field_of ed s p) ∙ ap (λ o. or_else o one) z))

-- ---- the sums of the fields that count
or_swap : (a b c d : Bool) → (a || ((b || c) || d)) ≡ ((b || a) || (c || d))
or_swap true true c d = refl
or_swap true false c d = refl
or_swap false true c d = refl
or_swap false false c d = refl

sums_more : (ed : Edition) (f : Field) (xs seen : List Field)
    → sums_ok ed (firsts seen (xs ++ (f ∷ []))) ≡ (sums_ok ed (firsts seen xs) && (any (same_key f) xs || (any (same_key f) seen || sum_ok ed f.nibbles)))
unfolding firsts all any
sums_more ed f [] seen = by_test (any (same_key f) seen) (λ e. rw e refl) (λ e. rw e (and_true (sum_ok ed f.nibbles)))
sums_more ed f (x ∷ xs) seen =
    let i = sums_more ed f xs (x ∷ seen) in
    let w = or_swap (any (same_key f) xs) (same_key f x) (any (same_key f) seen) (sum_ok ed f.nibbles) in
    let q = i ∙ ap (λ b. sums_ok ed (firsts (x ∷ seen) xs) && b) w in
    by_test (any (same_key x) seen) (λ e. rw e q)
    (λ e. rw e (ap (λ b. sum_ok ed x.nibbles && b) q ∙ and_assoc (sum_ok ed x.nibbles) (sums_ok ed (firsts (x ∷ seen) xs)) _))

-- from the start
pub sums_turn : (ed : Edition) (f : Field) (xs : List Field) → sums_ok ed (firsts [] (xs ++ (f ∷ []))) ≡ (sums_ok ed (firsts [] xs) && (any (same_key f) xs || sum_ok ed f.nibbles))
unfolding any
sums_turn ed f xs = sums_more ed f xs []

-- ---- whether there is a first
is_given : Outcome (List ℕ) → Bool
is_given (Err r) = false
is_given (Ok d) = true

first_any : (ed : Edition) (test : Field → Bool) (xs : List Field) → is_given (first_in ed test xs) ≡ any test xs
unfolding first_in any is_given
first_any ed test [] = refl
first_any ed test (x ∷ xs) = by_test (test x) (λ e. rw e refl) (λ e. rw e (first_any ed test xs))

-- a place says so
pub any_place : (ed : Edition) (test : Field → Bool) (s : List ℕ) (at : ℕ) (xs : List Field) → sector_at ed s at ≡ first_in ed test xs → any test xs ≡ not (eqb at 0)
unfolding is_given
any_place ed test s at xs e =
    sym (first_any ed test xs) ∙ ap is_given (sym e)
    ∙ by_test (eqb at 0) (λ t. rw (sector_none ed s at t, t) refl) (λ t. rw (sector_some ed s at t, t) refl)
