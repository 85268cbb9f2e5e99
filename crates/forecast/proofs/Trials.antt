-- A save tried in a copy of the VTOC. Assumes nothing.
use Rattle.std.specs.Prelude.{Ok}
use mathlib.Core.Path.{◌≡◌, refl, sym, ap, ◌∙◌}
use mathlib.Core.Bool.{Bool, true, false}
use mathlib.Core.List.{List}
use Prim.Native.Nat.{ℕ, ◌+◌, ◌*◌, ◌<◌, ◌≤◌, ◌^◌}
use native.Mathlib.Omega.{arith}
use lib.ListN.{length, replicate, length-replicate}
use borrow.Author.Tests.{le-leb, lt-ltb, not-true, not-false}
use borrow.Author.Rules.{rules}
use Rattle.lists.specs.Fill.{put, placed}
use Rattle.lists.proofs.Split.{clash}
use Rattle.lists.proofs.Put.{placed_put, put_whole}
use Rattle.disk.specs.Disk.{start}
use Rattle.disk.specs.Vtoc.{vtoc}
use Rattle.amend.specs.Save.{data_for, lists_for}
use Rattle.allot.specs.Table.{Allotted}
use Rattle.allot.proofs.Allots.{table_long, places_fit, allotted_none, allotted_all}
use Rattle.forecast.specs.Forecast.{tried}
use Rattle.forecast.specs.Steps.{SoughtFor, Barred, Tried}

-- ---- sectors sought
-- how many fits in a word
pub many_fit : (k s l : ℕ) → s ≡ data_for k → l ≡ lists_for s → k ≤ 32768 → l + s < 2 ^ 64
many_fit k s l e f h = omega arith

-- in T₁, the copy of T; T₂ was made of it
module _ (k s l : ℕ) (T T₁ T₂ P₂ : List ℕ) (b : Bool) (a : Allotted (l + s) T₁ (replicate 262 0) T₂ P₂ b) (c : T₁ ≡ placed 0 T (replicate 256 0))
    (e : s ≡ data_for k) (f : l ≡ lists_for s) (long : length T ≡ 256) (short : k ≤ 32768) where
  copy_of : T₁ ≡ T
  copy_of =
      let r : length {A = ℕ} (replicate 256 0) ≡ 256 = length-replicate {A = ℕ} 256 0 in
      put_whole (placed_put c (omega arith)) (long ∙ sym r)

  copy_long : length T₂ ≡ 256
  copy_long = table_long (l + s) T₁ (replicate 262 0) T₂ P₂ b a ∙ ap length copy_of ∙ long

  many : l + s ≡ lists_for (data_for k) + data_for k
  many = (λ i. (f ∙ ap lists_for e) i + e i)

  fit : 2 * (l + s) ≤ 262
  fit = rw many (places_fit k short)

  pub sought_none : b ≡ false → SoughtFor k T T false
  sought_none z =
      record {
        long = long;
        none = λ y. (refl, λ d h. allotted_none d h.size k (l + s) 262 T₁ (replicate 262 0) T₂ P₂ b a many (copy_of ∙ h.table) refl fit z);
        all = λ y. absurd (clash y);
      }

  pub sought_all : (T₃ : List ℕ) → T₃ ≡ placed 0 T₂ T → b ≡ true → SoughtFor k T T₃ true
  sought_all T₃ g z =
      let q : T₃ ≡ T₂ = put_whole (placed_put g (let n = copy_long in omega arith)) (copy_long ∙ sym long) in
      record {
        long = ap length q ∙ copy_long;
        none = λ y. absurd (clash (sym y));
        all = λ y d h.
            let u = allotted_all d h.size k (l + s) 262 T₁ (replicate 262 0) T₂ P₂ b a many (copy_of ∙ h.table) refl fit z in
            (u.0, u.1 ∙ ap (λ (t : List ℕ). Ok (u.0, put (start 16 vtoc) t d)) (sym q));
      }

-- ---- a save
module _ (left k : ℕ) (T : List ℕ) (long : length T ≡ 256) where
  sought_tried : (T' : List ℕ) (r : Bool) → SoughtFor k T T' r → k ≤ 32768 → (left ≡ 0 → ⊥) → Tried left k T T' r
  unfolding tried
  sought_tried T' r s h z =
      let p : 0 < left = omega arith in
      record {
        long = s.long;
        ends = λ y. ((s.none y).0, λ d t. rw (le-leb k 32768 h, lt-ltb 0 left p, (s.none y).1 d t) refl);
        goes = λ y. (p, h, λ d t. rw (le-leb k 32768 h, lt-ltb 0 left p, (s.all y d t).1) refl);
      }

  module _ (least : ℕ) (b : Barred T left least) where
    pub tried_long : least ≤ k → Tried left k T T false
    tried_long h = record { long = long; ends = λ y. (refl, λ d t. b.is k h d t); goes = λ y. absurd (clash y) }

    pub tried_short : k < least → k ≤ 32768
    tried_short h = let m = b.most in omega arith

    pub tried_full : k < least → left ≡ 0 → Tried left k T T false
    unfolding tried
    tried_full h z = record { long = long; ends = λ y. (refl, λ d t. rw (le-leb k 32768 (tried_short h), z) refl); goes = λ y. absurd (clash y) }

    pub tried_sought : (T' : List ℕ) (r : Bool) → SoughtFor k T T' r → k < least → (left ≡ 0 → ⊥) → Tried left k T T' r
    tried_sought T' r s h z = sought_tried T' r s (tried_short h) z

pub ruleset soughts = (many_fit, sought_none, sought_all, not-true, not-false, rules)

pub ruleset trials = (tried_long, tried_short, tried_full, tried_sought, rules)
