-- What a save and a delete test first. Assumes nothing.
use mathlib.Core.Path.{◌≡◌, refl, sym, ap, ◌∙◌}
use mathlib.Core.Bool.{Bool, true, false}
use mathlib.Core.List.{List}
use Prim.Native.Nat.{ℕ}
use lib.ListN.{length}
use borrow.Author.Tests.{ne_eqb, not-true, not-false}
use borrow.Author.Rules.{rules}
use Rattle.std.specs.Prelude.{Ok, Err}
use Rattle.outcome.specs.declared.Refusal.{Refusal}
use Rattle.outcome.specs.declared.Refusal.TheVariants.{OffSize, NotClean}
use Rattle.outcome.specs.Outcome.{Outcome, ◌>>=◌, ◌>>◌, require}
use native.Mathlib.Omega.{arith}
use Rattle.outcome.proofs.Outcome.{refused_given}
use Rattle.outcome.proofs.Silent.{silent}
use Rattle.disk.specs.declared.Place.{Place}
use Rattle.disk.specs.Disk.{per_of, sized}
use Rattle.disk.specs.Vtoc.{readable}
use Rattle.catalog.specs.Catalog.{pages, catalog}
use Rattle.files.specs.Contents.{Contents, contents}
use Rattle.holders.specs.declared.HolderCounts.{HolderCounts}
use Rattle.holders.specs.Holders.{holders, clean, holding, numbers_of}
use Rattle.holders.proofs.Refusals.{holders_silent}
use Rattle.amend.specs.Lines.{tidy}

module _ (n : ℕ) (d : List ℕ) where
  abbrev report : Outcome (List Place) → Outcome HolderCounts
  report o = o >>= λ hs. Ok (numbers_of n d hs)

  abbrev tidied : Outcome Contents → Outcome (List Place) → Outcome Contents
  tidied c o = c >>= λ c. o >>= λ hs. require (clean n d hs) NotClean >> Ok c

  refuses : (c : Outcome Contents) (o : Outcome (List Place)) → silent o ≡ silent c → (r : Refusal) → Err r ≡ report o → Err r ≡ silent (tidied c o)
  refuses (Err q) (Err r) e x h = let y : x ≡ r = cc in ap Err y ∙ e
  refuses (Ok c) (Err r) e x h = absurd (refused_given e)
  refuses c (Ok hs) e x h = absurd (refused_given h)

  -- the report was given
  tests : (c : Outcome Contents) (o : Outcome (List Place)) → silent o ≡ silent c → (h : HolderCounts) → Ok h ≡ report o → silent (require h.clean NotClean) ≡ silent (tidied c o)
  tests (Ok c) (Ok hs) e h q = let z : h ≡ numbers_of n d hs = cc in go h.clean (clean n d hs) (ap (λ (x : HolderCounts). x.clean) z)
    where
      go : (a b : Bool) → a ≡ b → silent (require a NotClean) ≡ silent (require b NotClean >> Ok c)
      go a true z = rw z refl
      go a false z = rw z refl
  tests (Err r) (Ok hs) e h q = absurd (refused_given (sym e))
  tests c (Err r) e h q = absurd (refused_given (sym q))

-- ---- a disk of 16 sectors a track
-- of another size: 1
pub tidy_size : (d : List ℕ) → (length d ≡ 143360 → ⊥) → Err OffSize ≡ silent (tidy 16 d)
unfolding tidy contents catalog pages readable sized
tidy_size d h = rw (ne_eqb _ _ h) refl

pub per_is : (d : List ℕ) → length d ≡ 143360 → per_of d ≡ 16
unfolding per_of
per_is d l = rw (ne_eqb (length d) 116480 (λ q. omega arith)) refl

module _ (d : List ℕ) (l : length d ≡ 143360) where
  as_16 : holding (per_of d) d ≡ holding 16 d
  as_16 = ap (λ (n : ℕ). holding n d) (per_is d l)

  pub tidy_refused : (v : Outcome (Unit {0})) (e : Refusal) → v ≡ Err e → Err e ≡ holding (per_of d) d → v ≡ silent (tidy 16 d)
  unfolding tidy holding
  tidy_refused v e z h = z ∙ refuses 16 d (contents 16 d) (holders 16 d) (holders_silent 16 d) e (h ∙ as_16)

  module _ (h : HolderCounts) (e : Ok h ≡ holding (per_of d) d) where
    tidy_tests : silent (require h.clean NotClean) ≡ silent (tidy 16 d)
    unfolding tidy holding
    tidy_tests = tests 16 d (contents 16 d) (holders 16 d) (holders_silent 16 d) h (e ∙ as_16)

    pub tidy_unclean : h.clean ≡ false → Err NotClean ≡ silent (tidy 16 d)
    tidy_unclean z = rw z at tidy_tests

    pub tidy_clean : h.clean ≡ true → Ok tt ≡ silent (tidy 16 d)
    tidy_clean z = rw z at tidy_tests

pub ruleset tidies = (tidy_size, tidy_refused, tidy_unclean, tidy_clean, not-true, not-false, rules)
