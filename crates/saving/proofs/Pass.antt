-- A second pass along the pages of a disk, these having been read. Assumes nothing.
use Rattle.std.specs.Prelude.{Ok}
use mathlib.Core.Path.{◌≡◌, refl, sym, ap, ◌∙◌}
use mathlib.Core.Bool.{true, false}
use mathlib.Core.List.{List, foldl}
use Prim.Native.Nat.{ℕ, ◌+◌, ◌*◌, ◌<◌, ◌≤◌}
use native.Mathlib.Omega.{arith}
use Rattle.disk.specs.declared.Place.{Place}
use Rattle.disk.specs.Disk.{link_of}
use Rattle.disk.proofs.Steps.{made, rest, rest_start, rest_within, rest_last, rest_on}
use Rattle.catalog.specs.Catalog.{sound_page, last_page, next_page, first_page, pages}
use Rattle.catalog.proofs.Order.{pages_given}
use Rattle.saving.specs.Steps.{Paged}

module _ {S : Type 0} (g : S → Place → S) (d : List ℕ) where
  -- after k turns, at the page p, s was made: the loop comes to what g makes of all pages from s₀ on
  pub record Passing (s₀ : S) (most k : ℕ) (s : S) (p : Place) : Type 0 where
    pub budget : most ≡ 35 * 16 + 1
    pub count : k ≤ most
    pub places : List Place
    pub walked : pages 16 d ≡ Ok places
    pub is : rest g 16 (sound_page 16 d) (next_page 16 d) (35 * 16 + 1) k s p ≡ Ok (foldl g s₀ places)

  pub pass_none : (most : ℕ) (p : Place) (s : S) → most ≡ 35 * 16 + 1 → Paged d → p ≡ first_page 16 d → Passing s most 0 s p
  pass_none most p s e t f =
      record {
        budget = e;
        count = omega arith;
        places = t.places;
        walked = t.is;
        is =
            ap (rest g 16 (sound_page 16 d) (next_page 16 d) (35 * 16 + 1) 0 s) f
            ∙ rest_start g 16 (sound_page 16 d) (next_page 16 d) (35 * 16 + 1) s (first_page 16 d)
            ∙ ap (made g s) (pages_given 16 d t.places t.is).1;
      }

  module _ (s₀ : S) (most k : ℕ) (s : S) (p : Place) (w : Passing s₀ most k s p) where
    pub pass_over : most ≤ k → ⊥
    pass_over h =
        let l = rest_within g 16 (sound_page 16 d) (next_page 16 d) (35 * 16 + 1) k s p (foldl g s₀ w.places) w.is in
        omega (arith, w.budget)

    pub pass_last : last_page 16 d p ≡ true → (ps : List Place) → pages 16 d ≡ Ok ps → g s p ≡ foldl g s₀ ps
    unfolding next_page
    pass_last z ps q =
        let y : Ok w.places ≡ Ok ps = sym w.walked ∙ q in
        let x : w.places ≡ ps = cc in
        sym (rest_last g 16 (sound_page 16 d) (next_page 16 d) (35 * 16 + 1) k s p (foldl g s₀ w.places) w.is (rw z refl)) ∙ ap (foldl g s₀) x

    pub pass_more : last_page 16 d p ≡ false → (q : Place) → q ≡ link_of 16 d p → k < most → Passing s₀ most (k + 1) (g s p) q
    unfolding next_page
    pass_more z q f h =
        record {
          budget = w.budget;
          count = omega arith;
          places = w.places;
          walked = w.walked;
          is = rest_on g 16 (sound_page 16 d) (next_page 16 d) (35 * 16 + 1) k s p (foldl g s₀ w.places) w.is q (rw (z, f) refl);
        }
