-- The totals of a pass over the catalog: one entry more, one page more, and the pages. Assumes nothing.
use mathlib.Core.Path.{◌≡◌, refl, sym, ap, ◌∙◌}
use mathlib.Core.Bool.{Bool, true, false, cond}
use mathlib.Core.List.{List, ◌∷◌}
use Prim.Native.Nat.{ℕ, ◌+◌, ◌*◌, ◌/◌, ◌^◌, ◌<◌, ◌≤◌}
use native.Mathlib.Omega.{arith}
use lib.ListN.{length, get_or, take, drop}
use lib.Seq.{take_at}
use borrow.Author.Tests.{eq-eqb, ne_eqb, le-leb, lt-leb, not-true, not-false}
use borrow.Author.Rules.{rules}
use Rattle.std.specs.Prelude.{Ok, Err, Option, Some}
use Rattle.outcome.specs.declared.Refusal.{Refusal}
use Rattle.outcome.specs.Outcome.{Outcome, ◌>>=◌, steps}
use Rattle.lists.specs.Same.{same}
use Rattle.lists.specs.Fill.{padded}
use Rattle.lists.specs.Select.{filter}
use Rattle.lists.proofs.Split.{by_test}
use Rattle.lists.proofs.Select.{onward, onward_next, onward_end}
use Rattle.catalog.specs.declared.FileEntry.{FileEntry}
use Rattle.catalog.specs.Catalog.{Entry, shown, valid_file, live, entry_from, entry_at, entries_of}
use Rattle.catalog.specs.Listing.{name_of, file_entry}
use Rattle.disk.specs.declared.Place.{Place}
use Rattle.disk.specs.Disk.{start, byte_of}
use Rattle.files.specs.declared.Thread.{Thread}
use Rattle.files.specs.declared.Choice.{Choice}
use Rattle.files.specs.declared.Totals.{Totals}
use Rattle.files.specs.Threads.{followed, size_of}
use Rattle.files.specs.Contents.{list_walk, lists}
use Rattle.files.specs.Totals.{choice, with_link, Within, with_page, Paged, Turned, with_lists, with_entry, Joined, Added}

-- ---- a file's size
module _ (n : ℕ) (d : List ℕ) (kind : ℕ) (t : Thread) where
  pub size_none : (kind ≡ 4 → ⊥) → 0 ≡ size_of n d kind t
  unfolding size_of
  size_none h = rw (ne_eqb _ _ h) refl

  module _ (h : kind ≡ 4) (a b : ℕ) (p : a ≡ byte_of n d t.head 2) (q : b ≡ byte_of n d t.head 3) where
    pub size_stated : 4 + (a + 256 * b) ≤ 256 * t.pairs → a + 256 * b ≡ size_of n d kind t
    unfolding size_of
    size_stated l = rw (eq-eqb _ _ h, ← p, ← q, le-leb _ _ l) refl

    pub size_all : 256 * t.pairs < 4 + (a + 256 * b) → 256 * t.pairs ≡ size_of n d kind t
    unfolding size_of
    size_all l = rw (eq-eqb _ _ h, ← p, ← q, lt-leb _ _ l) refl

pub ruleset sizes = (size_none, size_stated, size_all, rules)

pub same_is : (b : Bool) (x l y : List ℕ) (n : ℕ) → y ≡ take n (drop 0 l) → b ≡ same x y → b ≡ same x (take n l)
same_is b x l y n e q = rw e at q

-- ---- the choice
-- the shown name is the front of its letters
pub front_name : (raw : List ℕ) → take (name_of raw).length (name_of raw).letters ≡ shown raw
unfolding padded
front_name raw = take_at (shown raw) _ (length (shown raw)) refl

pub has_name_is : (d : List ℕ) (x : ℕ) (w : List ℕ) (f : FileEntry) (r : Bool) → f ≡ file_entry (entry_from d x)
    → r ≡ same w (take f.name.length f.name.letters) → r ≡ same w (shown (entry_from d x).raw)
has_name_is d x w f r a q =
    q ∙ ap (λ (i : FileEntry). same w (take i.name.length i.name.letters)) a ∙ ap (same w) (front_name (entry_from d x).raw)

pub ruleset names = (has_name_is, rules)

-- ---- one entry more
module _ (n : ℕ) (d : List ℕ) (t : Totals) (c : Within 100000 t) (l : Place) (kind : ℕ) (pick : Bool) (h : Thread) where
  pub join_more : (s : ℕ) (o : Option Choice) → s ≡ size_of n d kind h → s ≤ 65538 → o ≡ cond pick (Some (choice l kind h)) t.choice → h.lists < 65536
      → Joined n d t l kind pick h (record { entries = t.entries + 1; links = t.links + h.lists; blocks = t.blocks + (1 + (s + 253) / 254); choice = o })
  join_more s o i q p r =
      record {
        is = λ j. record { entries = t.entries + 1; links = t.links + h.lists; blocks = t.blocks + (1 + (i j + 253) / 254); choice = p j };
        grows = λ m g. record { entries = omega (arith, g.entries); links = omega (arith, g.links); blocks = omega (arith, g.blocks) };
      }

  pub join_entries_lem : t.entries + 1 < 2 ^ 32
  join_entries_lem = omega (arith, c.entries)

  pub join_links : h.lists < 65536 → t.links + h.lists < 2 ^ 64
  join_links l = omega (arith, c.links)

  pub join_blocks : (s : ℕ) → s ≤ 65538 → t.blocks + (1 + (s + 253) / 254) < 2 ^ 64
  join_blocks s l = omega (arith, c.blocks)

module _ (n : ℕ) (d : List ℕ) (g : ℕ → Entry → Bool) (t : Totals) (y q : ℕ) (v : Bool) (e : q ≡ get_or d y 0) (u : v ≡ valid_file q) where
  lives : live (entry_from d y) ≡ v
  lives = sym (ap valid_file e) ∙ sym u

  -- an entry that is not in use
  pub add_dead : v ≡ false → Added n d g t y (Ok t)
  add_dead x =
      record {
        is = rw (lives, x) refl;
        grows = λ m h. record { entries = omega (arith, h.entries); links = omega (arith, h.links); blocks = omega (arith, h.blocks) };
      }

  module _ (x : v ≡ true) (l : Place) (a : l ≡ (entry_from d y).list) where
    -- its lists refuse
    pub add_refused : (r : Outcome Totals) (z : Refusal) → r ≡ Err z → Err z ≡ followed n d (list_walk n d l) → Added n d g t y r
    unfolding with_entry
    add_refused r z b k =
        let w : followed n d (lists n d (entry_from d y)) ≡ Err z = sym (k ∙ ap (λ (i : Place). followed n d (list_walk n d i)) a) in
        rw b (record { is = rw (lives, x, w) refl; grows = λ m h. tt })

    -- one that is in use
    pub add_live : (kind : ℕ) (h : Thread) (pick : Bool) (r : Totals) → kind ≡ (entry_from d y).kind → Ok h ≡ followed n d (list_walk n d l)
        → pick ≡ g t.entries (entry_from d y) → Joined n d t l kind pick h r → Added n d g t y (Ok r)
    unfolding with_entry
    add_live kind h pick r b k p j =
        let w : followed n d (lists n d (entry_from d y)) ≡ Ok h = sym (k ∙ ap (λ (i : Place). followed n d (list_walk n d i)) a) in
        let z : r ≡ with_lists n d t (entry_from d y).list (entry_from d y).kind (g t.entries (entry_from d y)) h = j.is ∙ (λ i. with_lists n d t (a i) (b i) (p i) h) in
        record { is = rw (lives, x, w) (ap Ok z); grows = j.grows }

pub ruleset adds = (add_dead, add_live, not-true, not-false, rules)

-- ---- one page more
module _ (n : ℕ) (d : List ℕ) (g : ℕ → Entry → Bool) (t₀ : Totals) (p : Place) where
  -- the totals so far, with the entries that are left
  abbrev left : ℕ → Totals → Outcome Totals
  left i t = steps (with_entry n d g) t (filter live (onward (entry_at n d p) 7 i))

  -- i entries were looked at
  pub record Adding (i : ℕ) (t : Totals) : Type 0 where
    pub count : i ≤ 7
    pub is : with_page n d g t₀ p ≡ left i t
    pub grows : (m : ℕ) → Within m t₀ → Within (m + (1 + i)) t

  pub adding_none : Adding 0 (with_link t₀)
  unfolding entries_of with_page
  adding_none =
      record {
        count = omega arith;
        is = refl;
        grows = λ m h. record { entries = omega (arith, h.entries); links = omega (arith, h.links); blocks = omega (arith, h.blocks) };
      }

  -- one entry more
  one : (e : Entry) (es : List Entry) (t : Totals)
      → steps (with_entry n d g) t (filter live (e ∷ es)) ≡ (cond (live e) (with_entry n d g t e) (Ok t) >>= λ u. steps (with_entry n d g) u (filter live es))
  unfolding filter steps
  one e es t = by_test (live e) (λ h. rw h refl) (λ h. rw h refl)

  pub page_link : Within 90000 t₀ → t₀.links + 1 < 2 ^ 64
  page_link c = omega (arith, c.links)

  module _ (i : ℕ) (t : Totals) (a : Adding i t) where
    pub adding_within : Within 90000 t₀ → i < 7 → Within 100000 t
    adding_within c h =
        let g = a.grows 90000 c in
        record { entries = omega (arith, g.entries); links = omega (arith, g.links); blocks = omega (arith, g.blocks) }

    module _ (h : i < 7) (y : ℕ) (q : y ≡ start n p + (11 + 35 * i)) where
      next : (r : Outcome Totals) → Added n d g t y r → with_page n d g t₀ p ≡ (r >>= λ u. left (i + 1) u)
      next r u =
          let v : r ≡ cond (live (entry_at n d p i)) (with_entry n d g t (entry_at n d p i)) (Ok t) = u.is ∙ rw q refl in
          a.is
          ∙ ap (λ (es : List Entry). steps (with_entry n d g) t (filter live es)) (onward_next (entry_at n d p) 7 i h)
          ∙ one (entry_at n d p i) (onward (entry_at n d p) 7 (i + 1)) t
          ∙ ap (λ (o : Outcome Totals). o >>= λ u. left (i + 1) u) (sym v)

      pub adding_more : (r : Totals) → Added n d g t y (Ok r) → Adding (i + 1) r
      adding_more r u =
          record {
            count = omega arith;
            is = next (Ok r) u;
            grows = λ m k. let z = u.grows (m + (1 + i)) (a.grows m k) in
                record { entries = omega (arith, z.entries); links = omega (arith, z.links); blocks = omega (arith, z.blocks) };
          }

      -- an entry refuses
      pub adding_refused : (r : Outcome Totals) (e : Refusal) → r ≡ Err e → Added n d g t y (Err e) → Paged n d g t₀ p r
      adding_refused r e b u = rw b (record { is = sym (next (Err e) u); grows = λ m k. tt })

    pub adding_done : 7 ≤ i → Paged n d g t₀ p (Ok t)
    unfolding filter steps
    adding_done h =
        record {
          is = sym (a.is ∙ ap (λ (es : List Entry). steps (with_entry n d g) t (filter live es)) (onward_end (entry_at n d p) 7 i h));
          grows = λ m k. let z = a.grows m k in
              record { entries = omega (arith, z.entries, a.count); links = omega (arith, z.links, a.count); blocks = omega (arith, z.blocks, a.count) };
        }

pub ruleset addings = (adding_none, page_link, adding_within, adding_more, adding_done, rules)

-- the same, where no page before refused
module _ (n : ℕ) (d : List ℕ) (g : ℕ → Entry → Bool) (o : Outcome Totals) (p : Place) where
  pub next_paged : (t : Totals) (r : Outcome Totals) → o ≡ Ok t → Paged n d g t p r → Turned n d g o p r
  next_paged t r a u = rw a (record { is = u.is; grows = u.grows })
