-- The side that a byte names, and the calls that are made for it. Assumes nothing.
use mathlib.Core.Path.{◌≡◌, refl, subst}
use mathlib.Core.List.{List}
use Prim.Native.Nat.{ℕ}
use borrow.Author.Tests.{eq-eqb, ne_eqb}
use borrow.Author.Rules.{rules}
use Rattle.sides.specs.declared.Side.{Side}
use Rattle.sides.specs.declared.Side.TheVariants.{Survey, Ours}
use Rattle.sides.specs.Sides.{saved_for, deleted_for}
use Rattle.host.specs.Exports.{Amends}
use Rattle.host.specs.Sides.{side_of}

pub side_ours : (b : ℕ) → b ≡ 0 → Ours ≡ side_of b
side_ours b h = rw (eq-eqb _ _ h) refl

pub side_survey : (b : ℕ) → (b ≡ 0 → ⊥) → Survey ≡ side_of b
side_survey b h = rw (ne_eqb _ _ h) refl

pub ruleset naming = (side_ours, side_survey, rules)

-- what is promised for the side is promised for the byte
module _ (d e : List ℕ) (s : Side) (b : ℕ) (h : s ≡ side_of b) (limit : ℕ) (name : List ℕ) (r : ℕ) where
  pub save_asked : (address : ℕ) (bytes : List ℕ) → Amends (saved_for 16 d s limit name address bytes) d e r
      → Amends (saved_for 16 d (side_of b) limit name address bytes) d e r
  save_asked address bytes u = subst (λ (x : Side). Amends (saved_for 16 d x limit name address bytes) d e r) h u

  pub delete_asked : Amends (deleted_for 16 d s limit name) d e r → Amends (deleted_for 16 d (side_of b) limit name) d e r
  delete_asked u = subst (λ (x : Side). Amends (deleted_for 16 d x limit name) d e r) h u

pub ruleset asking = (save_asked, delete_asked, rules)
