-- A run in the midst of the loop that stores it: the first of what is handed over, and the rest as it was. Stated over the element. Assumes nothing.
use mathlib.Core.Path.{◌≡◌, refl, sym, ◌∙◌}
use mathlib.Core.Bool.{Bool, true, false}
use mathlib.Core.List.{List, [], ◌++◌, append_assoc}
use Prim.Native.Nat.{ℕ, suc, ◌+◌, ◌<◌, ◌≤◌}
use native.Mathlib.Numerals.{add-one}
use native.Mathlib.Omega.{arith}
use lib.Dec.{leb}
use lib.ListN.{length, get_or, set, take, drop, length-take}
use lib.Seq.{drop-cons, set_at, take-suc, take-length}
use borrow.Author.Tests.{leb-true}
use Rattle.std.specs.Prelude.{Ok, Err}
use Rattle.outcome.specs.declared.Refusal.TheVariants.{TrayShort}
use Rattle.outcome.specs.Outcome.{Outcome, ◌>>◌, require, answer_of, left_by}
use Rattle.outcome.proofs.Outcome.{refused_given}
use Rattle.pairs.specs.Run.{fitting}

module _ {A : Type 0} where
  -- what an outcome hands over: nothing under a refusal
  abbrev pub hands_over : Outcome (List A) → List A
  hands_over (Err r) = []
  hands_over (Ok w) = w

  -- i of ws are stored
  unfoldable pub stored : ℕ → List A → List A → List A
  stored i ws ys = take i ws ++ drop i ys

  pub stored_none : (ws ys : List A) → ys ≡ stored 0 ws ys
  unfolding stored
  stored_none ws ys = refl

  module _ (i : ℕ) (ws ys : List A) (m : length ws ≤ length ys) where
    pub stored_more : (z r : A) → i < length ws → r ≡ get_or ws i z → set (stored i ws ys) i r ≡ stored (i + 1) ws ys
    unfolding stored
    stored_more z r h e =
        rw (add-one, take-suc ws i z h, append_assoc, drop-cons ys i z (omega arith), e)
        (set_at (take i ws) (get_or ys i z) (drop (suc i) ys) (get_or ws i z) i (length-take i ws ∙ omega arith))

  -- the count that is answered is that of what is handed over, ..
  pub count_is : (n : ℕ) (o : Outcome (List A)) → Ok n ≡ answer_of o → n ≡ length (hands_over o)
  count_is n (Err r) e = absurd (refused_given (sym e))
  count_is n (Ok w) e = cc

  -- .. which fits, ..
  pub count_fits : (n : ℕ) (o : Outcome (List A)) → length (hands_over (fitting n o)) ≤ n
  count_fits n (Err r) = omega arith
  count_fits n (Ok w) = go (leb (length w) n) refl
    where
      go : (t : Bool) → leb (length w) n ≡ t → length (hands_over (require t TrayShort >> Ok w)) ≤ n
      go true e = leb-true _ _ e
      go false e = omega arith

  -- .. and when all of it is stored, the run is as promised
  pub stored_all : (i n : ℕ) (o : Outcome (List A)) (ys : List A) → Ok n ≡ answer_of o → i ≡ n → stored i (hands_over o) ys ≡ left_by o ys
  unfolding stored
  stored_all i n (Err r) ys e h = absurd (refused_given (sym e))
  stored_all i n (Ok w) ys e h = let z : i ≡ length w = cc in rw (z, take-length) refl
