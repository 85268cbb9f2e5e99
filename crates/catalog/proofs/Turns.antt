-- The turns of the loops over a name's bytes, a page's entries and the catalog's pages, and what each return gives. Assumes nothing.
use mathlib.Core.Path.{◌≡◌, refl, sym, ap, ◌∙◌}
use mathlib.Core.Bool.{Bool, true, false, cond, not, ◌&&◌, ◌||◌}
use mathlib.Core.List.{List, [], ◌∷◌, ◌++◌, foldl, flat_map}
use Prim.Native.Nat.{ℕ, suc, ◌+◌, ◌*◌, ◌-◌, ◌<◌, ◌≤◌}
use native.Mathlib.Nat.{zero-add}
use native.Mathlib.Numerals.{add-one}
use native.Mathlib.Omega.{arith}
use lib.ListN.{length, get_or, take, drop, length-append}
use lib.Seq.{take_all, take-suc, take-take}
use lib.Dec.{eqb}
use borrow.Author.Tests.{lt-ltb, le-ltb, eq-eqb, ne_eqb, not-true, not-false}
use borrow.Author.Rules.{rules}
use Rattle.lists.specs.Select.{all, filter, among}
use Rattle.lists.proofs.Among.{among_snoc}
use Rattle.lists.proofs.Split.{by_test}
use Rattle.lists.proofs.Select.{onward, onward_next, onward_end}
use Rattle.std.specs.Prelude.{Ok, Err}
use Rattle.outcome.specs.declared.Refusal.{Refusal}
use Rattle.outcome.specs.declared.Refusal.TheVariants.{OffDisc, Ring, BadLetter}
use Rattle.outcome.specs.Outcome.{Outcome, ◌>>=◌}
use Rattle.disk.specs.declared.Place.{Place}
use Rattle.disk.specs.Vtoc.{readable}
use Rattle.disk.specs.Disk.{per_of, link_of, byte_of, start, on_disk}
use Rattle.disk.specs.Chain.{walk}
use Rattle.disk.proofs.Steps.{made, rest, rest_start, rest_full, rest_off, rest_bad, rest_end, rest_more}
use Rattle.catalog.specs.Catalog.{Entry, known_type, kind_of, letter, valid_file, live, entry_from, entry_at, entries_of, plain_names, last_page, next_page, sound_page, first_page, pages}
use Rattle.catalog.specs.Pages.{plain_entry, counts, counts_of, walked, pages_counted}
use Rattle.catalog.specs.declared.Pages.{Pages}

-- ---- a link
module _ (n : ℕ) (d : List ℕ) (p : Place) (t s : ℕ) (e : t ≡ byte_of n d p 1) where
  pub last_first : t ≡ 0 → true ≡ last_page n d p
  unfolding last_page
  last_first z = rw (eq-eqb _ _ (sym e ∙ z)) refl

  pub last_second : (t ≡ 0 → ⊥) → s ≡ byte_of n d p 2 → eqb s 0 ≡ last_page n d p
  unfolding last_page
  last_second h q = rw (ne_eqb _ _ (λ z. h (e ∙ z)), q) refl

pub ruleset links = (last_first, last_second, rules)

-- ---- a name's bytes
-- one byte more
pub among_next : (s : List ℕ) (k : ℕ) (b : Bool) → b ≡ among 128 (take k s) → k < length s → (b || eqb (get_or s k 0) 128) ≡ among 128 (take (k + 1) s)
among_next s k b e h = sym (rw (add-one k, take-suc s k 0 h, among_snoc 128 (get_or s k 0) (take k s), ← e) refl)

pub among_whole : (s : List ℕ) (k : ℕ) (b : Bool) → b ≡ among 128 (take k s) → length s ≤ k → b ≡ among 128 s
among_whole s k b e h = e ∙ ap (among 128) (take_all k s h)

-- the bytes are those of the disk
pub letters_of_lem : (d s : List ℕ) (i : ℕ) (b : Bool) → s ≡ take 30 (drop i d) → b ≡ among 128 s → b ≡ among 128 (take 30 (drop i d))
letters_of_lem d s i b e h = h ∙ ap (among 128) e

-- .. and of the 30 that there are
pub letters_of_all : (d s name : List ℕ) (i : ℕ) (b : Bool) → s ≡ take 30 (drop i d) → name ≡ take 30 s → b ≡ among 128 name → b ≡ among 128 (take 30 (drop i d))
letters_of_all d s name i b e q h = h ∙ ap (among 128) (q ∙ ap (take 30) e ∙ take-take 30 30 (drop i d) (omega arith))

pub ruleset letters = (among_next, among_whole, letters_of_lem, rules)

-- ---- an entry
pub valid_unused : (t : ℕ) → t ≡ 0 → false ≡ valid_file t
unfolding valid_file
valid_unused t z = rw (eq-eqb _ _ z) refl

pub valid_deleted : (t : ℕ) → (t ≡ 0 → ⊥) → t ≡ 255 → false ≡ valid_file t
unfolding valid_file
valid_deleted t h z = rw (ne_eqb _ _ h, eq-eqb _ _ z) refl

pub valid_live : (t : ℕ) → (t ≡ 0 → ⊥) → (t ≡ 255 → ⊥) → true ≡ valid_file t
unfolding valid_file
valid_live t h g = rw (ne_eqb _ _ h, ne_eqb _ _ g) refl

-- a type
module _ (c : ℕ) (b : Bool) (e : b ≡ known_type c) where
  pub kind_known : b ≡ true → c ≡ kind_of c
  unfolding kind_of
  kind_known h = rw (← e, h) refl

  pub kind_other : b ≡ false → 41 ≡ kind_of c
  unfolding kind_of
  kind_other h = rw (← e, h) refl

-- a letter
pub letter_high : (b : ℕ) → 128 < b → b - 128 ≡ letter b
letter_high b h = rw (lt-ltb 128 b h) refl

pub letter_low : (b : ℕ) → b ≤ 128 → b ≡ letter b
letter_low b h = rw (le-ltb 128 b h) refl

-- an entry from x on, as code reads it: t is its track, and b whether it is live
module _ (d : List ℕ) (x t : ℕ) (b : Bool) (e : t ≡ get_or d x 0) (v : b ≡ valid_file t) where
  pub plain_live : b ≡ true → (w : Bool) → w ≡ among 128 (take 30 (drop (x + 3) d)) → not w ≡ plain_entry (entry_from d x)
  unfolding plain_entry
  plain_live z w q = rw (← e, ← v, z, q) refl

  pub plain_dead : b ≡ false → true ≡ plain_entry (entry_from d x)
  unfolding plain_entry
  plain_dead z = rw (← e, ← v, z) refl

  pub live_one : b ≡ true → ◌≡◌ {A = ℕ} 1 (cond (live (entry_from d x)) 1 0)
  live_one z = rw (← e, ← v, z) refl

  pub live_none : b ≡ false → ◌≡◌ {A = ℕ} 0 (cond (live (entry_from d x)) 1 0)
  live_none z = rw (← e, ← v, z) refl

pub ruleset entries = (valid_unused, valid_deleted, valid_live, plain_live, plain_dead, live_one, live_none, letter_high, letter_low, kind_known, kind_other, rules)

-- ---- a page's entries
module _ (n : ℕ) (d : List ℕ) (p : Place) where
  -- one entry more
  plain_step : (e : Entry) (es : List Entry) → plain_names (filter live (e ∷ es)) ≡ (plain_entry e && plain_names (filter live es))
  unfolding filter all plain_entry
  plain_step e es = by_test (live e) (λ h. rw h refl) (λ h. rw h refl)

  pub record Plain (i : ℕ) : Type 0 where
    pub count : i ≤ 7
    pub is : plain_names (entries_of n d p) ≡ plain_names (filter live (onward (entry_at n d p) 7 i))

  pub plain_none : Plain 0
  unfolding entries_of
  plain_none = record { count = omega arith; is = refl }

  module _ (i : ℕ) (c : Plain i) where
    plain_turn : i < 7
        → plain_names (entries_of n d p) ≡ (plain_entry (entry_at n d p i) && plain_names (filter live (onward (entry_at n d p) 7 (i + 1))))
    plain_turn h = c.is ∙ rw (onward_next (entry_at n d p) 7 i h) (plain_step (entry_at n d p i) (onward (entry_at n d p) 7 (i + 1)))

    pub plain_bad : (x : ℕ) (b : Bool) → i < 7 → x ≡ start n p + (11 + 35 * i) → b ≡ plain_entry (entry_from d x) → b ≡ false
        → false ≡ plain_names (entries_of n d p)
    plain_bad x b h q e z = rw (plain_turn h, ← q, ← e, z) refl

    pub plain_more : (x : ℕ) (b : Bool) → i < 7 → x ≡ start n p + (11 + 35 * i) → b ≡ plain_entry (entry_from d x) → b ≡ true → Plain (i + 1)
    plain_more x b h q e z = record { count = omega arith; is = plain_turn h ∙ rw (← q, ← e, z) refl }

    pub plain_done : 7 ≤ i → true ≡ plain_names (entries_of n d p)
    unfolding filter all
    plain_done h = rw (c.is, onward_end (entry_at n d p) 7 i h) refl

pub ruleset plains = (plain_none, plain_bad, plain_more, plain_done, not-true, not-false, rules)

-- ---- how many of a page's entries are live
module _ (n : ℕ) (d : List ℕ) (p : Place) where
  -- i entries were looked at, and m of them are live
  pub record Living (m i : ℕ) : Type 0 where
    pub count : i ≤ 7
    pub small : m ≤ i
    pub is : length (entries_of n d p) ≡ m + length (filter live (onward (entry_at n d p) 7 i))

  pub living_none : Living 0 0
  unfolding entries_of
  living_none = record { count = omega arith; small = omega arith; is = omega arith }

  -- one entry more
  living_step : (e : Entry) (es : List Entry) → length (filter live (e ∷ es)) ≡ cond (live e) 1 0 + length (filter live es)
  unfolding filter
  living_step e es = by_test (live e) (λ h. rw h (omega arith)) (λ h. rw h (omega arith))

  pub living_more : (m i x r : ℕ) → Living m i → i < 7 → x ≡ start n p + (11 + 35 * i) → r ≡ cond (live (entry_from d x)) 1 0 → r ≤ 1 → Living (m + r) (i + 1)
  living_more m i x r c h q e l =
      let k = onward_next (entry_at n d p) 7 i h in
      let u : length (filter live (onward (entry_at n d p) 7 i)) ≡ r + length (filter live (onward (entry_at n d p) 7 (i + 1))) =
      rw (k, living_step (entry_at n d p i) (onward (entry_at n d p) 7 (i + 1)), e, q) refl
      in
      record { count = omega arith; small = omega (arith, c.small); is = omega (arith, c.is, u) }

  pub living_done : (m i : ℕ) → Living m i → 7 ≤ i → m ≡ length (entries_of n d p)
  unfolding filter
  living_done m i c h =
      let u : length (filter live (onward (entry_at n d p) 7 i)) ≡ 0 = rw (onward_end (entry_at n d p) 7 i h) refl in
      omega (arith, c.is, u)

  pub living_few : (m i : ℕ) → Living m i → m ≤ 7
  living_few m i c = omega (arith, c.small, c.count)

pub ruleset livings = (living_none, living_more, living_done, living_few, rules)

-- ---- the pages
module _ (n : ℕ) (d : List ℕ) where
  -- one page more
  abbrev pub more : Pages → Place → Pages
  more c p = counts (c.count + 1) (c.entries + length (entries_of n d p))

  -- all pages of a list
  more_all : (k m : ℕ) (ps : List Place) → foldl more (counts k m) ps ≡ counts (k + length ps) (m + length (flat_map (entries_of n d) ps))
  unfolding flat_map
  more_all k m [] = let a : k ≡ k + 0 = omega arith in let b : m ≡ m + 0 = omega arith in λ i. counts (a i) (b i)
  more_all k m (p ∷ ps) =
      let es : List Entry = entries_of n d p in
      let a : k + 1 + length ps ≡ k + suc (length ps) = omega arith in
      let b : m + length es + length (flat_map (entries_of n d) ps) ≡ m + length (es ++ flat_map (entries_of n d) ps) = rw length-append (omega arith) in
      more_all (k + 1) (m + length es) ps ∙ λ i. counts (a i) (b i)

  made_counts : (o : Outcome (List Place)) → made more (counts 0 0) o ≡ (o >>= λ ps. Ok (counts_of n d ps))
  made_counts (Err r) = refl
  made_counts (Ok ps) = ap Ok (more_all 0 0 ps ∙ λ i. counts (zero-add (length ps) i) (zero-add (length (flat_map (entries_of n d) ps)) i))

  module _ (first : Place) where
    -- k pages with m entries were read, and p is the next
    pub record Walking (most k m : ℕ) (p : Place) : Type 0 where
      pub budget : most ≡ 35 * n + 1
      pub count : k ≤ most
      pub small : m ≤ 7 * k
      pub is : rest more n (sound_page n d) (next_page n d) (35 * n + 1) k (counts k m) p ≡ walked n d first

    pub walk_none : (most : ℕ) → most ≡ 35 * n + 1 → Walking most 0 0 first
    unfolding walked
    walk_none most e =
        record {
          budget = e;
          count = omega arith;
          small = omega arith;
          is = rest_start more n (sound_page n d) (next_page n d) (35 * n + 1) (counts 0 0) first ∙ made_counts (walk n (sound_page n d) (next_page n d) (35 * n + 1) [] first);
        }

    module _ (most k m : ℕ) (p : Place) (c : Walking most k m p) where
      pub walk_ring : most ≤ k → Err Ring ≡ walked n d first
      walk_ring h = sym (rw (← c.is, rest_full more n (sound_page n d) (next_page n d) (35 * n + 1) k (counts k m) p (omega (arith, c.budget))) refl)

      module _ (h : k < most) (on : Bool) (o : on ≡ on_disk n p) where
        inside : k < 35 * n + 1
        inside = omega (arith, c.budget)

        pub walk_off : on ≡ false → Err OffDisc ≡ walked n d first
        walk_off z = sym (rw (← c.is, rest_off more n (sound_page n d) (next_page n d) (35 * n + 1) k (counts k m) p inside (sym o ∙ z)) refl)

        module _ (y : on ≡ true) (b : Bool) (s : b ≡ plain_names (entries_of n d p)) where
          pub walk_bad : b ≡ false → Err BadLetter ≡ walked n d first
          unfolding sound_page
          walk_bad z =
              sym (rw (← c.is, rest_bad more n (sound_page n d) (next_page n d) (35 * n + 1) k (counts k m) p inside BadLetter (sym o ∙ y) (rw (← s, z) refl)) refl)

    module _ (most k m : ℕ) (p : Place) (c : Walking most k m p) (h : k < most) (on : Bool) (o : on ≡ on_disk n p) (y : on ≡ true)
        (b : Bool) (s : b ≡ plain_names (entries_of n d p)) (z : b ≡ true) (r : ℕ) (q : r ≡ length (entries_of n d p)) (few : r ≤ 7) (l : Bool) (e : l ≡ last_page n d p) where
      sound : sound_page n d p ≡ Ok tt
      unfolding sound_page
      sound = rw (← s, z) refl

      pub walk_last : l ≡ true → Ok (counts (k + 1) (m + r)) ≡ walked n d first
      unfolding next_page
      walk_last t =
          rw (← c.is, rest_end more n (sound_page n d) (next_page n d) (35 * n + 1) k (counts k m) p (omega (arith, c.budget)) (sym o ∙ y, sound) (rw (← e, t) refl), q) refl

      pub walk_more : l ≡ false → (a : Place) → a ≡ link_of n d p → Walking most (k + 1) (m + r) a
      unfolding next_page
      walk_more t a w =
          record {
            budget = c.budget;
            count = omega arith;
            small = omega (arith, c.small);
            is =
                rw q
                (sym (rest_more more n (sound_page n d) (next_page n d) (35 * n + 1) k (counts k m) p (omega (arith, c.budget)) a (sym o ∙ y, sound, rw (← e, t, w) refl))
                ∙ c.is);
          }

pub ruleset walks = (walk_none, walk_ring, walk_off, walk_bad, walk_last, walk_more, not-true, not-false, rules)

-- ---- the catalog
module _ (n : ℕ) (d : List ℕ) where
  pub pages_refused : (r : Refusal) → Err r ≡ readable n d → Err r ≡ pages_counted n d
  unfolding pages_counted pages
  pages_refused r e = rw (← e) refl

  pub pages_walked : Ok tt ≡ readable n d → (p : Place) (v : Outcome Pages) → p ≡ first_page n d → v ≡ walked n d p → v ≡ pages_counted n d
  unfolding pages_counted pages walked
  pages_walked z p v a w = w ∙ rw (a, ← z) refl

-- by the disk's own size
pub pages_at : (d : List ℕ) (v : Outcome Pages) (n : ℕ) → n ≡ per_of d → v ≡ pages_counted n d → v ≡ pages_counted (per_of d) d
pages_at d v n e q = rw e at q

pub ruleset catalogs = (pages_refused, pages_walked, pages_at, rules)
