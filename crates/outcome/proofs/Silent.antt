-- Whether an outcome is refused, and how; the value is not looked at. Assumes nothing.
use mathlib.Core.Path.{◌≡◌, refl, sym, ap, ◌∙◌}
use mathlib.Core.Bool.{Bool, true, false}
use mathlib.Core.List.{List, [], ◌∷◌}
use Rattle.std.specs.Prelude.{Ok, Err}
use Rattle.outcome.specs.declared.Refusal.{Refusal}
use Rattle.outcome.specs.Outcome.{Outcome, ◌>>=◌, ◌>>◌, require, each}
use Rattle.outcome.proofs.Outcome.{refused_given}

-- the refusal alone
abbrev pub silent : {A : Type 0} → Outcome A → Outcome (Unit {0})
silent o = o >> Ok tt

-- where two are refused alike, what comes next is too
then_alike : {A B C : Type 0} (a : Outcome A) (b : Outcome B) (w : Outcome C) → silent a ≡ silent b → a >> w ≡ b >> w
then_alike (Err r) (Err q) w e = let z : r ≡ q = cc in ap Err z
then_alike (Err r) (Ok b) w e = absurd (refused_given e)
then_alike (Ok a) (Err q) w e = absurd (refused_given (sym e))
then_alike (Ok a) (Ok b) w e = refl

-- a run, one element at a time
silent_cons : {A B : Type 0} (a : Outcome A) (b : Outcome (List A)) (w : Outcome B) → (a >>= λ y. b >>= λ ys. Ok (y ∷ ys)) >> w ≡ a >> (b >> w)
silent_cons (Err r) b w = refl
silent_cons (Ok y) (Err r) w = refl
silent_cons (Ok y) (Ok ys) w = refl

-- two runs whose steps are refused alike
pub each_silent : {A B C : Type 0} (f : A → Outcome B) (g : A → Outcome C) → ((x : A) → silent (f x) ≡ silent (g x)) → (xs : List A)
    → silent (each f xs) ≡ silent (each g xs)
unfolding each
each_silent f g h [] = refl
each_silent f g h (x ∷ xs) =
    silent_cons (f x) (each f xs) (Ok tt) ∙ then_alike (f x) (g x) (each f xs >> Ok tt) (h x)
    ∙ rw (each_silent f g h xs) (sym (silent_cons (g x) (each g xs) (Ok tt)))

pub silent_map : {A B : Type 0} (o : Outcome A) (f : A → B) → silent (o >>= λ x. Ok (f x)) ≡ silent o
silent_map (Err r) f = refl
silent_map (Ok x) f = refl

pub silent_bind : {A B C : Type 0} (o : Outcome A) (f : A → Outcome B) (g : A → Outcome C) → ((x : A) → silent (f x) ≡ silent (g x))
    → silent (o >>= f) ≡ silent (o >>= g)
silent_bind (Err r) f g h = refl
silent_bind (Ok x) f g h = h x

pub silent_test : {A B : Type 0} (t : Bool) (r : Refusal) (x : A) (y : B) → silent (require t r >> Ok x) ≡ silent (require t r >> Ok y)
silent_test true r x y = refl
silent_test false r x y = refl

-- what is silent is refused alike
pub silent_refused : {A B : Type 0} (o : Outcome A) (w : Outcome B) (r : Refusal) → silent o ≡ silent w → o ≡ Err r → w ≡ Err r
silent_refused o (Err q) r e h =
    let z : Err r ≡ Err q = sym (ap silent h) ∙ e in
    let y : q ≡ r = cc in
    ap Err y
silent_refused o (Ok b) r e h = absurd (refused_given (sym (ap silent h) ∙ e))
