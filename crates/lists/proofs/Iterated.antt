-- What `iter().all` answers, in the words of specs/Select. Assumes nothing.
use mathlib.Core.Path.{◌≡◌, refl, sym}
use mathlib.Core.Bool.{Bool, true, false}
use mathlib.Core.Logic.{◌↔◌}
use mathlib.Core.List.{List, [], ◌∷◌}
use Rattle.std.specs.Prelude.{All}
use Rattle.std.proofs.lemmas.List.Elements.{All-nil, All-cons, All-head, All-tail}
use Rattle.lists.specs.Select.{all}
use Rattle.lists.proofs.Split.{both_true}

-- two tests that pass together
agree : (a b : Bool) → ((a ≡ true) ↔ (b ≡ true)) → a ≡ b
agree true b i = sym (i.0 refl)
agree false true i = i.1 refl
agree false false i = refl

-- a test that says P
module _ {A : Type 0} (P : A → Type 0) (test : A → Bool) (says : (x : A) → (test x ≡ true) ↔ P x) where
  passed_all : (xs : List A) → all test xs ≡ true → All P xs
  unfolding all
  passed_all [] e = All-nil P
  passed_all (x ∷ xs) e = let b = both_true (test x) (all test xs) e in All-cons P x xs ((says x).0 b.0) (passed_all xs b.1)

  all_passed : (xs : List A) → All P xs → all test xs ≡ true
  unfolding all
  all_passed [] h = refl
  all_passed (x ∷ xs) h = rw ((says x).1 (All-head P x xs h), all_passed xs (All-tail P x xs h)) refl

  pub all_is : (xs : List A) (r : Bool) → (r ≡ true) ↔ All P xs → r ≡ all test xs
  all_is xs r h = agree r (all test xs) ((λ e. all_passed xs (h.0 e)), λ e. h.1 (passed_all xs e))
