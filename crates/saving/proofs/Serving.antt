-- Calls by the two sides, as they are made. Assumes nothing.
use mathlib.Core.Path.{◌≡◌, refl, sym, ap, subst, ◌∙◌}
use mathlib.Core.List.{List}
use Prim.Native.Nat.{ℕ}
use Rattle.outcome.specs.Outcome.{Outcome}
use Rattle.outcome.proofs.Silent.{silent}
use Rattle.disk.specs.declared.Place.{Place}
use Rattle.amend.specs.Amending.{amend, kept}
use Rattle.sides.specs.Sides.{Call, answer, run_for}
use Rattle.sides.specs.Claims.{DifferIn}
use Rattle.sides.proofs.Sides.{sides}
use Rattle.saving.specs.Saving.{Amended}
use Rattle.saving.specs.Serving.{SideCalls, Twice, Serving}
use Rattle.saving.specs.Serving as Says

-- calls in a row are the run of the definitions
runs_are : (d e : List ℕ) (cs : List Call) → SideCalls d cs e → e ≡ run_for 16 d cs
unfolding run_for
runs_are d e cs Says.none = refl
runs_are d f cs (Says.more {e = e} {c = c} {cs = cs'} r a b) = runs_are e f cs' b ∙ ap (λ (x : List ℕ). run_for 16 x cs') a.disk

-- what two disks became
differ : (ps : List Place) (c : Call) (d d' : List ℕ) (r : Outcome (Unit {0})) (e e' : List ℕ) (q : Outcome (Unit {0})) → Twice c d d' r e e' q
    → DifferIn 16 ps (kept d (answer 16 d c)) (kept e (answer 16 e c)) → DifferIn 16 ps d' e'
differ ps c d d' r e e' q t h =
    subst (λ (x : List ℕ). DifferIn 16 ps d' x) (sym t.two.disk) (subst (λ (x : List ℕ). DifferIn 16 ps x (kept e (answer 16 e c))) (sym t.one.disk) h)

pub serving : Serving
serving =
    record {
      runs = runs_are;
      stays = λ d e cs k c b. rw (runs_are d e cs k) (sides.stays d c cs b);
      otherwise = λ d e c r a h k.
          let z : answer 16 d c ≡ amend 16 d c.op = sides.otherwise d c (λ x. h (a.is ∙ ap silent x)) (λ x. k (a.is ∙ ap silent x)) in
          subst (λ (o : Outcome (List ℕ)). Amended o d e r) z a;
      keeps = λ d e cs k b s bs qs. rw (runs_are d e cs k) (sides.keeps d b s cs bs qs);
      limits = λ d e cs k b s limit w bs qs. rw (runs_are d e cs k) (sides.limits d b s limit w cs bs qs);
      alike = λ c d d' r e e' q t x y o h k.
          t.two.is ∙ sides.alike d e x y c o (λ z. h (t.one.is ∙ ap silent z)) (λ z. k (t.two.is ∙ ap silent z)) ∙ sym t.one.is;
      always = λ c d d' r e e' q t x b ps o f.
          let g = sides.always d e x c b ps o f in
          (t.two.is ∙ g.answers ∙ sym t.one.is, differ ps c d d' r e e' q t g.leaves);
    }
