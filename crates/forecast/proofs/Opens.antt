-- The lines of a disk that are not in use, counted. Assumes nothing.
use mathlib.Core.Path.{◌≡◌, refl, sym, ap, subst, ◌∙◌}
use mathlib.Core.Bool.{Bool, true, false, cond}
use mathlib.Core.List.{List, [], ◌∷◌, ◌++◌, map, flat_map, foldl, map-append}
use Prim.Native.Nat.{ℕ, suc, ◌+◌, ◌*◌, ◌<◌, ◌≤◌, ◌^◌}
use native.Mathlib.Nat.{zero-add}
use native.Mathlib.Numerals.{add-one}
use native.Mathlib.Omega.{arith}
use lib.ListN.{length, length-append}
use borrow.Author.Tests.{not-true, not-false}
use borrow.Author.Rules.{rules}
use Rattle.lists.specs.Fill.{tab, below}
use Rattle.lists.specs.Select.{filter}
use Rattle.lists.proofs.Split.{by_test}
use Rattle.lists.proofs.Laws.{tab_suc}
use Rattle.lists.proofs.Select.{filter_append}
use Rattle.disk.specs.declared.Place.{Place}
use Rattle.disk.specs.Disk.{start, link_of}
use Rattle.catalog.specs.Catalog.{last_page, first_page}
use Rattle.amend.specs.Lines.{starts}
use Rattle.saving.specs.Steps.{idle, Paged}
use Rattle.saving.proofs.Pass.{Passing, pass_none, pass_over, pass_last, pass_more}
use Rattle.forecast.specs.Steps.{open_on, PageCounted, Counted}

module _ (d : List ℕ) where
  -- ---- a page
  abbrev line_on : Place → ℕ → ℕ
  line_on p i = start 16 p + (11 + 35 * i)

  open_one : (x : ℕ) → length (filter (idle d) (x ∷ [])) ≡ cond (idle d x) 1 0
  unfolding filter
  open_one x = by_test (idle d x) (λ e. rw e refl) (λ e. rw e refl)

  open_append : (xs ys : List ℕ) → length (filter (idle d) (xs ++ ys)) ≡ length (filter (idle d) xs) + length (filter (idle d) ys)
  open_append xs ys = ap length (filter_append (idle d) xs ys) ∙ length-append (filter (idle d) xs) (filter (idle d) ys)

  open_more : (p : Place) (i : ℕ) → open_on d p (suc i) ≡ open_on d p i + cond (idle d (line_on p i)) 1 0
  unfolding open_on
  open_more p i =
      ap (λ (l : List ℕ). length (filter (idle d) l)) (ap (map (line_on p)) (tab_suc (λ k. k) i) ∙ map-append (line_on p) (below i) (i ∷ []))
      ∙ open_append (map (line_on p) (below i)) (line_on p i ∷ [])
      ∙ ap (λ (n : ℕ). length (filter (idle d) (map (line_on p) (below i))) + n) (open_one (line_on p i))

  -- the first i lines of a page
  pub record Counting (p : Place) (i r : ℕ) : Type 0 where
    pub count : i ≤ 7
    pub is : r ≡ open_on d p i
    pub few : r ≤ i

  pub counting_none : (p : Place) → Counting p 0 0
  unfolding open_on tab filter
  counting_none p = record { count = omega arith; is = refl; few = omega arith }

  module _ (p : Place) (i r : ℕ) (c : Counting p i r) where
    pub counting_more : (x v : ℕ) → v ≡ cond (idle d x) 1 0 → x ≡ start 16 p + (11 + 35 * i) → v ≤ 1 → i < 7 → Counting p (i + 1) (r + v)
    counting_more x v e f l h =
        record {
          count = omega arith;
          is =
              (λ j. c.is j + e j) ∙ ap (λ (y : ℕ). open_on d p i + cond (idle d y) 1 0) f ∙ sym (open_more p i)
              ∙ ap (open_on d p) (sym (add-one i));
          few = let w = c.few in omega arith;
        }

    pub counting_fits : (v : ℕ) → v ≤ 1 → r + v < 2 ^ 64
    counting_fits v l = let w = c.few in let u = c.count in omega arith

    pub counting_done : 7 ≤ i → PageCounted d p r
    counting_done h =
        let e : i ≡ 7 = omega (arith, c.count) in
        record { is = c.is ∙ ap (open_on d p) e; few = let w = c.few in omega arith }

  -- ---- the pages, one after the other
  abbrev add_open : ℕ → Place → ℕ
  add_open n p = n + open_on d p 7

  abbrev lines_on : Place → List ℕ
  lines_on p = map (line_on p) (below 7)

  pages_open : (n : ℕ) (ps : List Place) → foldl add_open n ps ≡ n + length (filter (idle d) (flat_map lines_on ps))
  unfolding flat_map filter open_on
  pages_open n [] = omega arith
  pages_open n (p ∷ ps) =
      let a = pages_open (add_open n p) ps in
      let b = open_append (lines_on p) (flat_map lines_on ps) in
      omega arith

  all_open : (ps : List Place) → foldl add_open 0 ps ≡ length (filter (idle d) (starts 16 ps))
  unfolding starts
  all_open ps = pages_open 0 ps ∙ zero-add (length (filter (idle d) (flat_map lines_on ps)))

  pub record Totalling (most k n : ℕ) (p : Place) : Type 0 where
    pub few : n ≤ 7 * k
    pub pass : Passing add_open d 0 most k n p

  pub totals_none : (most : ℕ) (p : Place) → most ≡ 35 * 16 + 1 → Paged d → p ≡ first_page 16 d → Totalling most 0 0 p
  totals_none most p e t f = record { few = omega arith; pass = pass_none add_open d most p 0 e t f }

  module _ (most k n : ℕ) (p : Place) (w : Totalling most k n p) where
    pub totals_over : most ≤ k → Counted d n
    totals_over h = absurd (pass_over add_open d 0 most k n p w.pass h)

    module _ (v : ℕ) (u : PageCounted d p v) where
      pub totals_fit : n + v < 2 ^ 64
      totals_fit = let a = w.few in let b = w.pass.count in let c = w.pass.budget in let e = u.few in omega arith

      module _ (b : Bool) (e : b ≡ last_page 16 d p) where
        pub totals_last : b ≡ true → Counted d (n + v)
        totals_last z =
            record { is = λ ps q. ap (λ (m : ℕ). n + m) u.is ∙ pass_last add_open d 0 most k n p w.pass (sym e ∙ z) ps q ∙ all_open ps }

        pub totals_more : b ≡ false → (q : Place) → q ≡ link_of 16 d p → k < most → Totalling most (k + 1) (n + v) q
        totals_more z q f h =
            record {
              few = let a = w.few in let c = u.few in omega arith;
              pass =
                  subst (λ (m : ℕ). Passing add_open d 0 most (k + 1) (n + m) q) (sym u.is)
                  (pass_more add_open d 0 most k n p w.pass (sym e ∙ z) q f h);
            }

pub ruleset page_opens = (counting_none, counting_more, counting_fits, counting_done, rules)

pub ruleset totals = (totals_none, totals_over, totals_fit, totals_last, totals_more, not-true, not-false, rules)
