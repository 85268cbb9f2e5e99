-- The forecast, length by length. Assumes nothing.
use mathlib.Core.Path.{◌≡◌, refl, ap, ◌∙◌}
use mathlib.Core.List.{List, [], ◌∷◌}
use Prim.Native.Nat.{ℕ, suc, ◌-◌}
use lib.ListN.{length}
use Rattle.std.specs.Prelude.{Ok, Err}
use Rattle.outcome.specs.declared.Refusal.{Refusal}
use Rattle.outcome.specs.Outcome.{Outcome}
use Rattle.forecast.specs.Forecast.{Forecast, goes_on, ends_in21, tried, ahead}

module _ (n left : ℕ) (d : List ℕ) (k : ℕ) (ks : List ℕ) where
  -- the first save ends in 21, ..
  pub ahead_refused : (r : Refusal) → tried n left k d ≡ Err r → ahead n left d (k ∷ ks) ≡ ends_in21 (ahead n left d ks)
  unfolding ahead
  ahead_refused r h = rw (h, ahead) refl

  -- .. or it goes on
  pub ahead_given : (e : List ℕ) → tried n left k d ≡ Ok e → ahead n left d (k ∷ ks) ≡ goes_on k (ahead n (left - 1) e ks)
  unfolding ahead
  ahead_given e h = rw (h, ahead) refl

-- one mark for each length
pub marks_many : (n left : ℕ) (d ks : List ℕ) → length (ahead n left d ks).marks ≡ length ks
unfolding ahead
marks_many n left d [] = refl
marks_many n left d (k ∷ ks) = go (λ m e. marks_many n m e ks) (tried n left k d) refl
  where
    go : ((m : ℕ) (e : List ℕ) → length (ahead n m e ks).marks ≡ length ks) → (o : Outcome (List ℕ)) → tried n left k d ≡ o
        → length (ahead n left d (k ∷ ks)).marks ≡ suc (length ks)
    go i (Err r) h = ap (λ (f : Forecast). length f.marks) (ahead_refused n left d k ks r h) ∙ ap suc (i left d)
    go i (Ok e) h = ap (λ (f : Forecast). length f.marks) (ahead_given n left d k ks e h) ∙ ap suc (i (left - 1) e)
