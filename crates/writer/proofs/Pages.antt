-- The pass over the entries of a page, and over the pages. Assumes nothing.
use mathlib.Core.Path.{◌≡◌, refl, sym, ap, ◌∙◌}
use mathlib.Core.Bool.{Bool, true, false}
use mathlib.Core.List.{List, [], ◌∷◌, ◌++◌, foldl, flat_map, append-nil}
use mathlib.Core.Option.{Option, none, some}
use Prim.Native.Nat.{ℕ, ◌+◌, ◌*◌, ◌<◌, ◌≤◌}
use native.Mathlib.Omega.{arith}
use lib.ListN.{length, get_or}
use borrow.Author.Tests.{not-true, not-false}
use borrow.Author.Rules.{rules}
use Rattle.lists.specs.Select.{filter}
use Rattle.lists.proofs.Split.{by_test}
use Rattle.lists.proofs.Select.{onward, onward_next, onward_end}
use Rattle.std.specs.Prelude.{Ok}
use Rattle.outcome.specs.Outcome.{Outcome, each}
use Rattle.outcome.proofs.Outcome.{gives, each_cons, each_append}
use Rattle.disk.specs.declared.Place.{Place}
use Rattle.disk.specs.Disk.{start, link_of}
use Rattle.disk.specs.Chain.{walk}
use Rattle.disk.proofs.Steps.{made, rest, joins, joined_is, rest_start, rest_within, rest_last, rest_on, rest_front}
use Rattle.catalog.specs.Catalog.{Entry, valid_file, live, entry_from, entry_at, entries_of, sound_page, last_page, next_page}
use Rattle.files.specs.Contents.{File, file_of}
use Rattle.writer.specs.declared.Mark.{Mark}
use Rattle.writer.specs.Passes.{Pass, pass_of, with_entry, with_live, with_page, walk_made, Made, MadeAll, Has, Due, Filed, Walked}

module _ (w : Bool) (a : List ℕ) (n : ℕ) (d : List ℕ) (total : ℕ) where
  -- ---- one entry
  module _ (x : ℕ) (m : Mark) (o : List ℕ) (q : ℕ) (v : Bool) (e : q ≡ get_or d x 0) (g : v ≡ valid_file q) where
    lives : live (entry_from d x) ≡ v
    lives = sym (ap valid_file e) ∙ sym g

    pub entry_dead : v ≡ false → Made (with_live w a n d total (pass_of m o) (entry_from d x)) 261 m o o m
    entry_dead z = record { is = rw (lives, z) refl; long = refl; bound = omega arith }

    pub entry_has : Due n d (entry_from d x) → v ≡ true → Has n d (entry_from d x)
    entry_has u z = u.has (lives ∙ z)

    pub entry_live : v ≡ true → (r : Mark) (o' : List ℕ) → Made (with_entry w a n d total (pass_of m o) (entry_from d x)) 261 m o o' r
        → Made (with_live w a n d total (pass_of m o) (entry_from d x)) 261 m o o' r
    entry_live z r o' u = rw (lives, z) u

  -- ---- the entries of a page
  module _ (p : Place) (m : Mark) (o₀ : List ℕ) where
    abbrev ahead : ℕ → List Entry
    ahead i = filter live (onward (entry_at n d p) 7 i)

    -- i entries were looked at
    pub record Paging (i : ℕ) (t : Mark) (o : List ℕ) : Type 0 where
      pub count : i ≤ 7
      pub filed : Filed n d (ahead i)
      pub long : length o ≡ length o₀
      pub bound : t.block ≤ m.block + 261 * i
      pub is : with_page w a n d total (pass_of m o₀) p ≡ foldl (with_entry w a n d total) (pass_of t o) (ahead i)

    pub paging_none : Filed n d (entries_of n d p) → Paging 0 m o₀
    unfolding entries_of with_page
    paging_none f = record { count = omega arith; filed = f; long = refl; bound = omega arith; is = refl }

    -- what is ahead begins with entry i, where that is in use
    ahead_live : (i : ℕ) → i < 7 → live (entry_at n d p i) ≡ true → ahead i ≡ entry_at n d p i ∷ ahead (i + 1)
    unfolding filter
    ahead_live i h l = ap (filter live) (onward_next (entry_at n d p) 7 i h) ∙ rw l refl

    ahead_dead : (i : ℕ) → i < 7 → live (entry_at n d p i) ≡ false → ahead i ≡ ahead (i + 1)
    unfolding filter
    ahead_dead i h l = ap (filter live) (onward_next (entry_at n d p) 7 i h) ∙ rw l refl

    module _ (i : ℕ) (t : Mark) (o : List ℕ) (c : Paging i t o) where
      split : i < 7 → live (entry_at n d p i) ≡ true
          → (f : File) × (fs : List File) × (file_of n d (entry_at n d p i) ≡ Ok f) × (each (file_of n d) (ahead (i + 1)) ≡ Ok fs) × (c.filed.files ≡ f ∷ fs)
      split h l = each_cons (file_of n d) (entry_at n d p i) (ahead (i + 1)) c.filed.files (sym (ap (each (file_of n d)) (ahead_live i h l)) ∙ c.filed.is)

      pub paging_due : (x : ℕ) → i < 7 → x ≡ start n p + (11 + 35 * i) → Due n d (entry_from d x)
      paging_due x h q = rw q (record { has = λ l. let s = split h l in record { sized = c.filed.sized; file = s.0; is = s.2 } })

      pub paging_block : m.block ≤ 17900000 → i < 7 → t.block ≤ 18000000
      paging_block l h = omega (arith, c.bound)

      pub paging_long : (r : Mark) (o' : List ℕ) (s : Pass) → Made s 261 t o o' r → length o' ≡ length o₀
      paging_long r o' s u = u.long ∙ c.long

      pub paging_more : (x : ℕ) (r : Mark) (o' : List ℕ) → i < 7 → x ≡ start n p + (11 + 35 * i)
          → Made (with_live w a n d total (pass_of t o) (entry_from d x)) 261 t o o' r → Paging (i + 1) r o'
      paging_more x r o' h q u =
          let v : pass_of r o' ≡ with_live w a n d total (pass_of t o) (entry_at n d p i) = u.is ∙ rw q refl in
          let b : r.block ≤ m.block + 261 * (i + 1) = omega (arith, u.bound, c.bound) in
          by_test (live (entry_at n d p i))
          (λ l.
          let s = split h l in
          let v₁ : pass_of r o' ≡ with_entry w a n d total (pass_of t o) (entry_at n d p i) = rw l at v in
          record {
            count = omega arith;
            filed = record { sized = c.filed.sized; files = s.1; is = s.3 };
            long = u.long ∙ c.long;
            bound = b;
            is =
                c.is ∙ ap (foldl (with_entry w a n d total) (pass_of t o)) (ahead_live i h l)
                ∙ ap (λ (y : Pass). foldl (with_entry w a n d total) y (ahead (i + 1))) (sym v₁);
          })
          (λ l.
          let v₁ : pass_of r o' ≡ pass_of t o = rw l at v in
          record {
            count = omega arith;
            filed = record { sized = c.filed.sized; files = c.filed.files; is = sym (ap (each (file_of n d)) (ahead_dead i h l)) ∙ c.filed.is };
            long = u.long ∙ c.long;
            bound = b;
            is =
                c.is ∙ ap (foldl (with_entry w a n d total) (pass_of t o)) (ahead_dead i h l)
                ∙ ap (λ (y : Pass). foldl (with_entry w a n d total) y (ahead (i + 1))) (sym v₁);
          })

      pub paging_done : 7 ≤ i → Made (with_page w a n d total (pass_of m o₀) p) 1827 m o₀ o t
      unfolding filter
      paging_done h =
          record {
            is = sym (c.is ∙ ap (λ (es : List Entry). foldl (with_entry w a n d total) (pass_of t o) (filter live es)) (onward_end (entry_at n d p) 7 i h));
            long = c.long;
            bound = omega (arith, c.bound, c.count);
          }

  -- ---- the pages
  abbrev join_entries : List Entry → Place → List Entry
  join_entries = joins (entries_of n d)

  made_entries : (o : Outcome (List Place)) (ps : List Place) → o ≡ Ok ps → made join_entries [] o ≡ Ok (flat_map (entries_of n d) ps)
  made_entries o ps e = rw e (ap Ok (joined_is (entries_of n d) [] ps))

  -- the next page's entries are among all
  among : (N k : ℕ) (s : List Entry) (p : Place) (t : List Entry) → rest join_entries n (sound_page n d) (next_page n d) N k s p ≡ Ok t
      → (u : List Entry) × (t ≡ (s ++ entries_of n d p) ++ u)
  among N k s p t e = go (next_page n d p) refl
    where
      go : (o : Option Place) → next_page n d p ≡ o → (u : List Entry) × (t ≡ (s ++ entries_of n d p) ++ u)
      go none l = ([], rest_last join_entries n (sound_page n d) (next_page n d) N k s p t e l ∙ sym (append-nil (s ++ entries_of n d p)))
      go (some q) l =
          rest_front (entries_of n d) n (sound_page n d) (next_page n d) N (k + 1) (s ++ entries_of n d p) q t
          (rest_on join_entries n (sound_page n d) (next_page n d) N k s p t e q l)

  filed_part : (s e u : List Entry) → Filed n d ((s ++ e) ++ u) → Filed n d e
  filed_part s e u f =
      let x = gives (each (file_of n d) (s ++ e)) _ f.files (sym (each_append (file_of n d) (s ++ e) u) ∙ f.is) in
      let y = gives (each (file_of n d) s) _ x.0 (sym (each_append (file_of n d) s e) ∙ x.1) in
      let z = gives (each (file_of n d) e) _ x.0 y.2 in
      record { sized = f.sized; files = z.0; is = z.1 }

  module _ (first : Place) (m : Mark) (o₀ : List ℕ) where
    -- k pages are done, and p is the next
    pub record Walking (most k : ℕ) (p : Place) (t : Mark) (o : List ℕ) : Type 0 where
      pub budget : most ≡ 35 * n + 1
      pub count : k ≤ most
      pub done : List Entry
      pub whole : List Entry
      pub filed : Filed n d whole
      pub entries : rest join_entries n (sound_page n d) (next_page n d) (35 * n + 1) k done p ≡ Ok whole
      pub final : Pass
      pub comes : walk_made w a n d total (pass_of m o₀) first ≡ Ok final
      pub is : rest (with_page w a n d total) n (sound_page n d) (next_page n d) (35 * n + 1) k (pass_of t o) p ≡ Ok final
      pub long : length o ≡ length o₀
      pub bound : t.block ≤ 1 + 1827 * k

    pub walking_none : (most : ℕ) → most ≡ 35 * n + 1 → Walked n d first → m.block ≤ 1 → Walking most 0 first m o₀
    unfolding walk_made
    walking_none most e u l =
        record {
          budget = e;
          count = omega arith;
          done = [];
          whole = flat_map (entries_of n d) u.ps;
          filed = u.filed;
          entries = rest_start join_entries n (sound_page n d) (next_page n d) (35 * n + 1) [] first ∙ made_entries (walk n (sound_page n d) (next_page n d) (35 * n + 1) [] first) u.ps u.is;
          final = foldl (with_page w a n d total) (pass_of m o₀) u.ps;
          comes = rw u.is refl;
          is = rest_start (with_page w a n d total) n (sound_page n d) (next_page n d) (35 * n + 1) (pass_of m o₀) first ∙ rw u.is refl;
          long = refl;
          bound = omega arith;
        }

    module _ (most k : ℕ) (p : Place) (t : Mark) (o : List ℕ) (c : Walking most k p t o) where
      pub walking_filed : Filed n d (entries_of n d p)
      walking_filed =
          let g = among (35 * n + 1) k c.done p c.whole c.entries in
          filed_part c.done (entries_of n d p) g.0 (rw g.1 at c.filed)

      pub walking_block : n < 256 → k < most → t.block ≤ 17900000
      walking_block s h = omega (arith, c.bound, c.budget)

      -- the budget is never used up
      pub walking_full : most ≤ k → MadeAll (walk_made w a n d total (pass_of m o₀) first) t o
      walking_full h =
          let l = rest_within (with_page w a n d total) n (sound_page n d) (next_page n d) (35 * n + 1) k (pass_of t o) p c.final c.is in
          absurd (omega (arith, c.budget))

      pub walking_long : (r : Mark) (o' : List ℕ) (s : Pass) → Made s 1827 t o o' r → length o' ≡ length o₀
      walking_long r o' s u = u.long ∙ c.long

      module _ (r : Mark) (o' : List ℕ) (u : Made (with_page w a n d total (pass_of t o) p) 1827 t o o' r) (l : Bool) (e : l ≡ last_page n d p) where
        pub walking_last : l ≡ true → MadeAll (walk_made w a n d total (pass_of m o₀) first) r o'
        unfolding next_page
        walking_last z =
            let q : c.final ≡ with_page w a n d total (pass_of t o) p =
            rest_last (with_page w a n d total) n (sound_page n d) (next_page n d) (35 * n + 1) k (pass_of t o) p c.final c.is (rw (← e, z) refl) in
            record { is = c.comes ∙ ap Ok (q ∙ sym u.is) }

        pub walking_more : l ≡ false → k < most → (b : Place) → b ≡ link_of n d p → Walking most (k + 1) b r o'
        unfolding next_page
        walking_more z h b y =
            record {
              budget = c.budget;
              count = omega arith;
              done = c.done ++ entries_of n d p;
              whole = c.whole;
              filed = c.filed;
              entries = rest_on join_entries n (sound_page n d) (next_page n d) (35 * n + 1) k c.done p c.whole c.entries b (rw (← e, z, y) refl);
              final = c.final;
              comes = c.comes;
              is =
                  ap (λ (i : Pass). rest (with_page w a n d total) n (sound_page n d) (next_page n d) (35 * n + 1) (k + 1) i b) u.is
                  ∙ rest_on (with_page w a n d total) n (sound_page n d) (next_page n d) (35 * n + 1) k (pass_of t o) p c.final c.is b (rw (← e, z, y) refl);
              long = u.long ∙ c.long;
              bound = omega (arith, c.bound, u.bound);
            }

pub ruleset livings = (entry_dead, entry_has, entry_live, not-true, not-false, rules)

pub ruleset pagings = (paging_none, paging_due, paging_block, paging_long, paging_more, paging_done, rules)

pub ruleset walkings = (walking_none, walking_filed, walking_block, walking_full, walking_long, walking_last, walking_more, rules)
