-- The lines of a disk looked along: the last of a name, the first that is not in use. Assumes nothing.
use mathlib.Core.Path.{◌≡◌, refl, sym, ap, subst, ◌∙◌}
use mathlib.Core.Bool.{Bool, true, false, cond}
use mathlib.Core.List.{List, [], ◌∷◌, ◌++◌, map, flat_map, foldl, append_assoc, append-nil, map-append}
use mathlib.Core.Option.{Option, none, some}
use Rattle.std.specs.Prelude as rust
use Rattle.std.specs.Prelude.{Some, None}
use Rattle.std.specs.Option.{option_or}
use Prim.Native.Nat.{ℕ, zero, suc, ◌+◌, ◌*◌, ◌<◌, ◌≤◌}
use native.Mathlib.Numerals.{add-one}
use native.Mathlib.Omega.{arith}
use lib.ListN.{get_or}
use borrow.Author.Tests.{not-true, not-false}
use borrow.Author.Rules.{rules}
use Rattle.lists.specs.Fill.{tab, below}
use Rattle.lists.specs.Same.{same}
use Rattle.lists.proofs.Split.{by_test}
use Rattle.lists.proofs.Laws.{tab_suc}
use Rattle.disk.specs.declared.Place.{Place}
use Rattle.disk.specs.Disk.{start, link_of}
use Rattle.catalog.specs.Catalog.{valid_file, shown, entry_from, last_page, first_page}
use Rattle.amend.specs.Lines.{first_of, last_of, in_use, starts}
use Rattle.saving.specs.declared.Sight.{Sight}
use Rattle.saving.specs.Steps.{sight, bears, idle, sight_of, see_line, see_lines, see_page, LineSeen, PageSeen, Seen, Paged}
use Rattle.saving.proofs.Pass.{Passing, pass_none, pass_over, pass_last, pass_more}

-- ---- one more behind
module _ {A : Type 0} (test : A → Bool) where
  last_snoc : (xs : List A) (x : A) → last_of test (xs ++ (x ∷ [])) ≡ cond (test x) (some x) (last_of test xs)
  unfolding last_of
  last_snoc [] x = refl
  last_snoc (y ∷ xs) x = by_test (test x) (λ e. rw (last_snoc xs x, e) refl) (λ e. rw (last_snoc xs x, e) refl)

  first_snoc : (xs : List A) (x : A) → first_of test (xs ++ (x ∷ [])) ≡ elim (first_of test xs) [ some y ↦ some y | none ↦ cond (test x) (some x) none ]
  unfolding first_of
  first_snoc [] x = refl
  first_snoc (y ∷ xs) x = by_test (test y) (λ e. rw e refl) (λ e. rw (e, first_snoc xs x) refl)

module _ (d name : List ℕ) where
  see_both : (a b : Option ℕ) (x : ℕ)
      → sight (cond (bears d name x) (some x) a) (elim b [ some y ↦ some y | none ↦ cond (idle d x) (some x) none ]) ≡ see_line d name (sight a b) x
  unfolding see_line
  see_both a none x =
      by_test (bears d name x) (λ e. by_test (idle d x) (λ f. rw (e, f) refl) (λ f. rw (e, f) refl)) (λ e. by_test (idle d x) (λ f. rw (e, f) refl) (λ f. rw (e, f) refl))
  see_both a (some y) x = by_test (bears d name x) (λ e. rw e refl) (λ e. rw e refl)

  see_more : (xs : List ℕ) (x : ℕ) → sight_of d name (xs ++ (x ∷ [])) ≡ see_line d name (sight_of d name xs) x
  unfolding sight_of
  see_more xs x =
      rw (last_snoc (bears d name) xs x, first_snoc (idle d) xs x) (see_both (last_of (bears d name) xs) (first_of (idle d) xs) x)

  -- ---- a line
  or_none : (o : rust.Option ℕ) → o ≡ option_or o None
  or_none None = refl
  or_none (Some x) = refl

  module _ (s : Sight) (x b : ℕ) (v : Bool) (g : b ≡ get_or d x 0) (e : v ≡ valid_file b) where
    use_is : in_use d x ≡ v
    use_is = sym (e ∙ ap valid_file g)

    pub line_open : v ≡ false → (r : rust.Option ℕ) → r ≡ option_or s.room (Some x) → LineSeen d name s x (record { line = s.line; room = r })
    unfolding see_line
    line_open z r q = let u : in_use d x ≡ false = use_is ∙ z in record { is = rw (u, q) refl }

    module _ (w : Bool) (h : w ≡ same name (shown (entry_from d x).raw)) (z : v ≡ true) where
      pub line_named : w ≡ true → LineSeen d name s x (record { line = Some x; room = s.room })
      unfolding see_line
      line_named f =
          let u : in_use d x ≡ true = use_is ∙ z in
          record { is = rw (u, ← h, f) (λ i. record { line = Some x; room = or_none s.room i }) }

      pub line_other : w ≡ false → LineSeen d name s x s
      unfolding see_line
      line_other f =
          let u : in_use d x ≡ true = use_is ∙ z in
          record { is = rw (u, ← h, f) (λ i. record { line = s.line; room = or_none s.room i }) }

  -- ---- a page
  pub record Lining (p : Place) (s₀ : Sight) (i : ℕ) (s : Sight) : Type 0 where
    pub count : i ≤ 7
    pub is : s ≡ see_lines d name p i s₀

  module _ (p : Place) (s₀ : Sight) where
    pub lining_none : Lining p s₀ 0 s₀
    unfolding see_lines
    lining_none = record { count = omega arith; is = refl }

    module _ (i : ℕ) (s : Sight) (l : Lining p s₀ i s) where
      pub lining_more : (x : ℕ) (t : Sight) → LineSeen d name s x t → i < 7 → x ≡ start 16 p + (11 + 35 * i) → Lining p s₀ (i + 1) t
      unfolding see_lines
      lining_more x t u h e =
          record { count = omega arith; is = u.is ∙ (λ j. see_line d name (l.is j) (e j)) ∙ sym (ap (λ (k : ℕ). see_lines d name p k s₀) (add-one i)) }

      pub lining_done : 7 ≤ i → PageSeen d name s₀ p s
      unfolding see_page
      lining_done h = let e : i ≡ 7 = omega (arith, l.count) in record { is = l.is ∙ ap (λ (k : ℕ). see_lines d name p k s₀) e }

  -- ---- the lines of pages, one after the other
  abbrev line_on : Place → ℕ → ℕ
  line_on p i = start 16 p + (11 + 35 * i)

  abbrev lines_on : Place → List ℕ
  lines_on p = map (line_on p) (below 7)

  lines_are : (p : Place) (i : ℕ) (xs : List ℕ) → see_lines d name p i (sight_of d name xs) ≡ sight_of d name (xs ++ map (line_on p) (below i))
  unfolding see_lines tab
  lines_are p zero xs = ap (sight_of d name) (sym (append-nil xs))
  lines_are p (suc i) xs =
      ap (λ (s : Sight). see_line d name s (line_on p i)) (lines_are p i xs) ∙ sym (see_more (xs ++ map (line_on p) (below i)) (line_on p i))
      ∙ ap (sight_of d name)
      (append_assoc xs (map (line_on p) (below i)) (line_on p i ∷ [])
      ∙ ap (λ (l : List ℕ). xs ++ l) (sym (ap (map (line_on p)) (tab_suc (λ k. k) i) ∙ map-append (line_on p) (below i) (i ∷ []))))

  pages_are : (xs : List ℕ) (ps : List Place) → foldl (see_page d name) (sight_of d name xs) ps ≡ sight_of d name (xs ++ flat_map lines_on ps)
  unfolding flat_map see_page
  pages_are xs [] = ap (sight_of d name) (sym (append-nil xs))
  pages_are xs (p ∷ ps) =
      ap (λ (s : Sight). foldl (see_page d name) s ps) (lines_are p 7 xs) ∙ pages_are (xs ++ lines_on p) ps
      ∙ ap (sight_of d name) (append_assoc xs (lines_on p) (flat_map lines_on ps))

  none_is : sight_of d name [] ≡ record { line = None; room = None }
  unfolding sight_of last_of first_of
  none_is = refl

  all_are : (s : Sight) → s ≡ record { line = None; room = None } → (ps : List Place)
      → foldl (see_page d name) s ps ≡ sight_of d name (starts 16 ps)
  unfolding starts
  all_are s e ps = ap (λ (t : Sight). foldl (see_page d name) t ps) (e ∙ sym none_is) ∙ pages_are [] ps

  -- ---- the pages
  pub record Looking (most k : ℕ) (s : Sight) (p : Place) : Type 0 where
    pub from : Sight
    pub blank : from ≡ record { line = None; room = None }
    pub pass : Passing (see_page d name) d from most k s p

  pub looking_none : (most : ℕ) (p : Place) (s : Sight) → most ≡ 35 * 16 + 1 → Paged d → p ≡ first_page 16 d
      → s ≡ record { line = None; room = None } → Looking most 0 s p
  looking_none most p s e t f z = record { from = s; blank = z; pass = pass_none (see_page d name) d most p s e t f }

  module _ (most k : ℕ) (s : Sight) (p : Place) (w : Looking most k s p) where
    pub looking_over : most ≤ k → Seen d name s
    looking_over h = absurd (pass_over (see_page d name) d w.from most k s p w.pass h)

    module _ (t : Sight) (u : PageSeen d name s p t) (b : Bool) (e : b ≡ last_page 16 d p) where
      pub looking_last : b ≡ true → Seen d name t
      looking_last z =
          record { is = λ ps q. u.is ∙ pass_last (see_page d name) d w.from most k s p w.pass (sym e ∙ z) ps q ∙ all_are w.from w.blank ps }

      pub looking_more : b ≡ false → (q : Place) → q ≡ link_of 16 d p → k < most → Looking most (k + 1) t q
      looking_more z q f h =
          record {
            from = w.from;
            blank = w.blank;
            pass =
                subst (λ (v : Sight). Passing (see_page d name) d w.from most (k + 1) v q) (sym u.is)
                (pass_more (see_page d name) d w.from most k s p w.pass (sym e ∙ z) q f h);
          }

pub ruleset seeing = (line_open, line_named, line_other, not-true, not-false, rules)

pub ruleset linings = (lining_none, lining_more, lining_done, rules)

pub ruleset lookings = (looking_none, looking_over, looking_last, looking_more, not-true, not-false, rules)
