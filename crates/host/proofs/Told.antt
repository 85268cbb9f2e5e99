-- What the library promises, as a host sees it. Assumes nothing.
use mathlib.Core.Path.{◌≡◌, refl, sym, ap, ◌∙◌}
use mathlib.Core.Bool.{true}
use mathlib.Core.List.{List}
use Prim.Native.Nat.{ℕ}
use native.Mathlib.Omega.{arith}
use borrow.Author.Tests.{ne_eqb}
use Rattle.std.specs.Prelude.{Ok, Err}
use Rattle.std.specs.Result.{result_unwrap_or}
use Rattle.outcome.specs.Outcome.{Outcome, ◌>>◌, number, handed, answer_of, Hands}
use Rattle.outcome.proofs.Outcome.{code_pos}
use Rattle.amend.specs.Amending.{bare}
use Rattle.saving.specs.Saving.{Amended}
use Rattle.host.specs.Exports.{length_by, Exports, Fields, Puts, Amends, Told, yes}

-- what is handed over is exported so
answered : {A : Type 0} (p : Outcome (List A)) (h : Outcome ℕ) (n m r : ℕ) → h ≡ answer_of p → Told h n m r → (r ≡ number p) × (m ≡ length_by p n)
answered (Err q) h n m r e t = (t.result ∙ ap number e, t.length ∙ ap (λ (y : Outcome ℕ). result_unwrap_or y n) e)
answered (Ok w) h n m r e t = (t.result ∙ ap number e, t.length ∙ ap (λ (y : Outcome ℕ). result_unwrap_or y n) e)

pub exports : {A : Type 0} (o : Outcome (List A)) (b a : List A) (h : Outcome ℕ) (n m r : ℕ) → Hands o b a h → Told h n m r → Exports o b a n m r
exports o b a h n m r u t =
    let g = answered (handed o b) h n m r u.answer t in
    record { result = g.0; left = u.left; length = g.1 }

number_then : {A : Type 0} (p : Outcome A) → number (◌>>◌ {B = Unit {0}} p (Ok tt)) ≡ number p
number_then (Err q) = refl
number_then (Ok w) = refl

pub puts_told : (o : Outcome (List ℕ)) (b a : List ℕ) (h : Outcome (Unit {0})) (r : ℕ) → Puts o b a h → r ≡ number h → Fields o b a r
puts_told o b a h r u e = record { result = e ∙ ap number u.answer ∙ number_then (handed o b); left = u.left }

-- .. and a disk that was changed
pub amends_told : (o : Outcome (List ℕ)) (b a : List ℕ) (h : Outcome (Unit {0})) (r : ℕ) → Amended o b a h → r ≡ number h → Amends o b a r
amends_told o b a h r u e = record { result = e ∙ ap number u.is ∙ number_then o; disk = u.disk }

-- what an exported call promises of a disk says what the library's call promises: so the claims of calls in a row are of exported calls too
pub amends_says : (o : Outcome (List ℕ)) (b a : List ℕ) (r : ℕ) → Amends o b a r → (h : Outcome (Unit {0})) × Amended o b a h × (r ≡ number h)
amends_says o b a r u = (bare o, record { is = refl; disk = u.disk }, u.result ∙ sym (number_bare o))
  where
    number_bare : {A : Type 0} (p : Outcome A) → number (bare p) ≡ number p
    number_bare (Err q) = refl
    number_bare (Ok w) = refl

-- .. and the number 0 says that it was not refused
pub number_zero : (h : Outcome (Unit {0})) → number h ≡ 0 → h ≡ Ok tt
number_zero (Err q) e = absurd (omega (arith, code_pos q))
number_zero (Ok tt) e = refl

pub yes_is : (b : ℕ) → (b ≡ 0 → ⊥) → yes b ≡ true
yes_is b h = rw (ne_eqb _ _ h) refl
