-- The sectors of a side, counted line by line and page by page. Assumes nothing.
use mathlib.Core.Path.{◌≡◌, refl, sym, ap, ◌∙◌}
use mathlib.Core.Bool.{Bool, true, false, cond, not, ◌&&◌}
use mathlib.Core.List.{List, [], ◌∷◌, ◌++◌, map, flat_map, map-append}
use mathlib.Core.Option.{Option, none, some}
use Prim.Native.Nat.{ℕ, zero, suc, ◌+◌, ◌*◌, ◌-◌, ◌<◌, ◌≤◌, ◌^◌}
use native.Mathlib.Nat.{zero-add}
use native.Mathlib.Numerals.{add-one}
use native.Mathlib.Omega.{arith}
use lib.ListN.{length, get_or, drop, length-append}
use lib.Dec.{eqb}
use lib.Seq.{get_or-take, get_or-drop}
use borrow.Author.Tests.{eqb-true, not-true, not-false}
use borrow.Author.Rules.{rules}
use Rattle.lists.specs.Fill.{tab, below}
use Rattle.lists.specs.Select.{all}
use Rattle.lists.proofs.Split.{by_test, both_true}
use Rattle.lists.proofs.Laws.{tab_suc}
use Rattle.lists.proofs.Chunks.{flat_map_append}
use Rattle.std.specs.Prelude.{Ok, Err}
use Rattle.outcome.specs.declared.Refusal.{Refusal}
use Rattle.outcome.specs.declared.Refusal.TheVariants.{OffDisc}
use Rattle.outcome.specs.Outcome.{Outcome, ◌>>=◌, ◌>>◌, require, each}
use Rattle.outcome.proofs.Outcome.{gives, each_append, each_cons}
use Rattle.disk.specs.declared.Place.{Place}
use Rattle.disk.specs.Disk.{start, on_disk, link_of, sectors}
use Rattle.disk.proofs.Chain.{Chained, walk_chained, walk_short}
use Rattle.disk.proofs.Chain
use Rattle.catalog.specs.Catalog.{valid_file, live, is_nil, trimmed, letter, shown, entry_from, sound_page, last_page, next_page, first_page, pages}
use Rattle.catalog.proofs.Order.{pages_given}
use Rattle.files.specs.declared.Thread.{Thread}
use Rattle.files.specs.Contents.{pairs_of, list_walk}
use Rattle.files.specs.Threads.{followed}
use Rattle.holders.specs.Holders.{with_pairs, sectors_from, sectors_of}
use Rattle.amend.specs.Lines.{starts}
use Rattle.amend.proofs.Reading.{given_same}
use Rattle.sides.specs.declared.Side.{Side}
use Rattle.sides.specs.Sides.{begins_s, belongs, of_side, own_at, own_sectors, held_by}
use Rattle.sides.specs.Steps.{lettered, many, over_pages, line_count, lines_count, page_count, tally}

-- ---- whose a name is
begins_first : (name : List ℕ) → begins_s name ≡ eqb (get_or name 0 0) 0x53
begins_first [] = refl
begins_first (b ∷ bs) = refl

belongs_lettered : (s : Side) (name : List ℕ) → belongs s name ≡ lettered s (get_or name 0 0)
belongs_lettered Side.Survey name = begins_first name
belongs_lettered Side.Ours name = ap not (begins_first name)

pub letter_survey : (s : Side) (b : ℕ) → s ≡ Side.Survey → eqb b 0x53 ≡ lettered s b
letter_survey s b e = rw e refl

pub letter_ours : (s : Side) (b : ℕ) → s ≡ Side.Ours → not (eqb b 0x53) ≡ lettered s b
letter_ours s b e = rw e refl

pub name_is : (s : Side) (name : List ℕ) (b : ℕ) (r : Bool) → r ≡ lettered s b → b ≡ get_or name 0 0 → r ≡ belongs s name
name_is s name b r e f = e ∙ ap (lettered s) f ∙ sym (belongs_lettered s name)

-- the shown name begins with the first byte as it is shown, if that is S
begins_shown : (raw : List ℕ) → begins_s (shown raw) ≡ eqb (letter (get_or raw 0 0)) 0x53
unfolding shown trimmed
begins_shown [] = refl
begins_shown (x ∷ xs) = go (letter x) (trimmed (map letter xs))
  where
    go : (b : ℕ) (r : List ℕ) → begins_s (cond (eqb b 32 && is_nil r) [] (b ∷ r)) ≡ eqb b 0x53
    go b r =
        by_test (eqb b 32 && is_nil r)
        (λ t. let e : b ≡ 32 = eqb-true b 32 (both_true (eqb b 32) _ t).0 in rw (t, e) refl)
        (λ t. rw t refl)

-- ---- a line
-- the sectors of a chain of lists; none where it is refused
abbrev thread_count : Outcome Thread → ℕ
thread_count (Err r) = 0
thread_count (Ok t) = t.lists + t.pairs

module _ (n : ℕ) (d : List ℕ) (s : Side) where
  first_raw : (x : ℕ) → get_or (entry_from d x).raw 0 0 ≡ get_or d (x + 3) 0
  first_raw x = get_or-take 30 (drop (x + 3) d) 0 0 (omega arith) ∙ get_or-drop (x + 3) d 0 0 ∙ ap (λ (i : ℕ). get_or d i 0) (omega arith)

  module _ (x b : ℕ) (v : Bool) (g : b ≡ get_or d x 0) (e : v ≡ valid_file b) where
    live_is : live (entry_from d x) ≡ v
    live_is = sym (e ∙ ap valid_file g)

    pub side_idle : v ≡ false → false ≡ of_side s (entry_from d x)
    side_idle z = rw (live_is ∙ z) refl

    pub side_live : (c l : ℕ) (r : Bool) → c ≡ get_or d (x + 3) 0 → l ≡ letter c → r ≡ lettered s l → v ≡ true → r ≡ of_side s (entry_from d x)
    side_live c l r h k w z =
        let q : begins_s (shown (entry_from d x).raw) ≡ eqb l 0x53 =
        begins_shown (entry_from d x).raw ∙ ap (λ (i : ℕ). eqb (letter i) 0x53) (first_raw x ∙ sym h) ∙ ap (λ (i : ℕ). eqb i 0x53) (sym k) in
        rw (live_is ∙ z) (w ∙ go s q)
      where
        go : (t : Side) → begins_s (shown (entry_from d x).raw) ≡ eqb l 0x53 → lettered t l ≡ belongs t (shown (entry_from d x).raw)
        go Side.Survey q = sym q
        go Side.Ours q = ap not (sym q)

  -- lists and pairs are all of an entry's sectors
  length_with : (ls : List Place) → length (flat_map (with_pairs n d) ls) ≡ length ls + length (flat_map (pairs_of n d) ls)
  unfolding flat_map
  length_with [] = refl
  length_with (l ∷ ls) =
      let i = length_with ls in
      let a = length-append (pairs_of n d l) (flat_map (with_pairs n d) ls) in
      let b = length-append (pairs_of n d l) (flat_map (pairs_of n d) ls) in
      omega arith

  -- a chain of lists that is followed, and one that is refused
  thread_many : (p : Place) (o : Outcome Thread) → o ≡ followed n d (list_walk n d p) → thread_count o ≡ many (sectors_from n d p)
  unfolding sectors_from
  thread_many p t e = go (list_walk n d p) e
    where
      go : (o : Outcome (List Place)) → t ≡ followed n d o
          → thread_count t ≡ many (o >>= λ ls. require (all (on_disk n) (flat_map (pairs_of n d) ls)) OffDisc >> Ok (flat_map (with_pairs n d) ls))
      go (Err r) q = ap thread_count q
      go (Ok ls) q =
          ap thread_count q
          ∙ by_test (all (on_disk n) (flat_map (pairs_of n d) ls)) (λ z. rw z (sym (length_with ls))) (λ z. rw z refl)

  pub line_other : (x : ℕ) (v : Bool) → v ≡ of_side s (entry_from d x) → v ≡ false → 0 ≡ line_count n d s x
  unfolding line_count own_at
  line_other x v e z = rw (← e, z) refl

  module _ (x : ℕ) (v : Bool) (p : Place) (g : p ≡ (entry_from d x).list) (e : v ≡ of_side s (entry_from d x)) (z : v ≡ true) where
    line_own : (o : Outcome Thread) → o ≡ followed n d (list_walk n d p) → thread_count o ≡ line_count n d s x
    unfolding line_count own_at sectors_of
    line_own o f = rw (← e, z) (thread_many p o f ∙ ap (λ (q : Place). many (sectors_from n d q)) g)

    pub line_followed : (t : Thread) → Ok t ≡ followed n d (list_walk n d p) → t.lists + t.pairs ≡ line_count n d s x
    line_followed t f = line_own (Ok t) f

    pub line_refused : (r : Refusal) → Err r ≡ followed n d (list_walk n d p) → 0 ≡ line_count n d s x
    line_refused r f = line_own (Err r) f

  -- ---- a page
  pub record Lining (p : Place) (i m : ℕ) : Type 0 where
    pub count : i ≤ 7
    pub is : m ≡ lines_count n d s p i
    pub few : m ≤ 4295032830 * i

  pub lining_none : (p : Place) → Lining p 0 0
  unfolding lines_count
  lining_none p = record { count = omega arith; is = refl; few = omega arith }

  module _ (p : Place) (i m : ℕ) (w : Lining p i m) where
    pub lining_more : (x c : ℕ) → c ≡ line_count n d s x → x ≡ start n p + (11 + 35 * i) → c ≤ 4295032830 → i < 7 → Lining p (i + 1) (m + c)
    unfolding lines_count
    lining_more x c e f l h =
        record {
          count = omega arith;
          is = (λ j. w.is j + (e ∙ ap (line_count n d s) f) j) ∙ sym (ap (lines_count n d s p) (add-one i));
          few = let a = w.few in omega arith;
        }

    pub lining_fits : (c : ℕ) → c ≤ 4295032830 → m + c < 2 ^ 64
    lining_fits c l = let a = w.few in let b = w.count in omega arith

    pub lining_done : 7 ≤ i → m ≡ page_count n d s p
    unfolding page_count
    lining_done h = let e : i ≡ 7 = omega (arith, w.count) in w.is ∙ ap (lines_count n d s p) e

    pub lining_small : 7 ≤ i → m ≤ 30065229810
    lining_small h = let a = w.few in let b = w.count in omega arith

  -- ---- the pages
  abbrev onward : ℕ → Place → ℕ
  onward = over_pages n d (page_count n d s)

  onward_step : (most k : ℕ) (p : Place) → k < most
      → onward (most - k) p ≡ page_count n d s p + cond (last_page n d p) 0 (onward (most - (k + 1)) (link_of n d p))
  unfolding over_pages
  onward_step most k p h = ap (λ (j : ℕ). onward j p) (let e : most - k ≡ suc (most - (k + 1)) = omega arith in e)

  pub record Paging (most k m : ℕ) (p : Place) : Type 0 where
    pub budget : most ≡ sectors n + 1
    pub count : k ≤ most
    pub is : m + onward (most - k) p ≡ tally n d s
    pub few : m ≤ 30065229810 * k

  pub paging_none : (most : ℕ) (p : Place) → most ≡ sectors n + 1 → p ≡ first_page n d → Paging most 0 0 p
  unfolding tally
  paging_none most p e f =
      record {
        budget = e;
        count = omega arith;
        is = let z : most - 0 ≡ most = omega arith in zero-add (onward (most - 0) p) ∙ (λ i. onward ((z ∙ e) i) (f i));
        few = omega arith;
      }

  module _ (most k m : ℕ) (p : Place) (w : Paging most k m p) where
    pub paging_over : most ≤ k → m ≡ tally n d s
    unfolding over_pages
    paging_over h =
        let e : most - k ≡ 0 = omega arith in
        let z : onward (most - k) p ≡ 0 = ap (λ (j : ℕ). onward j p) e in
        let q = w.is in
        omega arith

    pub paging_small : n < 256 → m ≤ 268362241284060
    paging_small h = let a = w.few in let b = w.count in let c = w.budget in omega arith

    module _ (c : ℕ) (u : c ≡ page_count n d s p) (l : c ≤ 30065229810) (h : k < most) where
      pub paging_fits : n < 256 → m + c < 2 ^ 64
      paging_fits f = let a = w.few in let b = w.count in let e = w.budget in omega arith

      pub paging_few : n < 256 → m + c ≤ 268362241284060
      paging_few f = let a = w.few in let b = w.count in let e = w.budget in omega arith

      module _ (b : Bool) (e : b ≡ last_page n d p) where
        pub paging_last : b ≡ true → m + c ≡ tally n d s
        paging_last z =
            let t : onward (most - k) p ≡ page_count n d s p + 0 = onward_step most k p h ∙ rw (← e, z) refl in
            let q = w.is in
            omega arith

        pub paging_more : b ≡ false → (q : Place) → q ≡ link_of n d p → Paging most (k + 1) (m + c) q
        paging_more z q f =
            record {
              budget = w.budget;
              count = omega arith;
              is =
                  let t : onward (most - k) p ≡ page_count n d s p + onward (most - (k + 1)) q = onward_step most k p h ∙ rw (← e, z, f) refl in
                  let y = w.is in
                  omega arith;
              few = let a = w.few in omega arith;
            }

  -- ---- what is counted is what the side holds
  abbrev line_on : Place → ℕ → ℕ
  line_on p i = start n p + (11 + 35 * i)

  abbrev lines_on : Place → List ℕ
  lines_on p = map (line_on p) (below 7)

  line_many : (x : ℕ) (u : List Place) → own_at n d s x ≡ Ok u → line_count n d s x ≡ length u
  unfolding line_count
  line_many x u h = rw h refl

  -- two runs of lines
  two_runs : (xs ys : List ℕ) (ts : List (List Place)) → each (own_at n d s) (xs ++ ys) ≡ Ok ts
      → (a : List (List Place)) × (b : List (List Place)) × (each (own_at n d s) xs ≡ Ok a) × (each (own_at n d s) ys ≡ Ok b)
      × (length (flat_map (λ t. t) ts) ≡ length (flat_map (λ (t : List Place). t) a) + length (flat_map (λ (t : List Place). t) b))
  two_runs xs ys ts h =
      let g = gives (each (own_at n d s) xs) _ ts (sym (each_append (own_at n d s) xs ys) ∙ h) in
      let k = gives (each (own_at n d s) ys) _ ts g.2 in
      let e : g.0 ++ k.0 ≡ ts = given_same refl k.2 in (
        g.0,
        k.0,
        g.1,
        k.1,
        ap (λ (l : List (List Place)). length (flat_map (λ t. t) l)) (sym e)
            ∙ ap length (flat_map_append (λ (t : List Place). t) g.0 k.0)
            ∙ length-append (flat_map (λ t. t) g.0) (flat_map (λ t. t) k.0),
      )

  page_many : (p : Place) (i : ℕ) (ts : List (List Place)) → each (own_at n d s) (map (line_on p) (below i)) ≡ Ok ts
      → lines_count n d s p i ≡ length (flat_map (λ (t : List Place). t) ts)
  unfolding lines_count tab each flat_map
  page_many p zero ts h = let e : [] ≡ ts = given_same refl h in ap (λ (l : List (List Place)). length (flat_map (λ t. t) l)) e
  page_many p (suc i) ts h =
      let q : map (line_on p) (below (suc i)) ≡ map (line_on p) (below i) ++ (line_on p i ∷ []) = ap (map (line_on p)) (tab_suc (λ k. k) i) ∙ map-append (line_on p) (below i) (i ∷ []) in
      let g = two_runs (map (line_on p) (below i)) (line_on p i ∷ []) ts (ap (each (own_at n d s)) (sym q) ∙ h) in
      let c = each_cons (own_at n d s) (line_on p i) [] g.1 g.3 in
      let a = page_many p i g.0 g.2 in
      let b = line_many (line_on p i) c.0 c.2 in
      let z : [] ≡ c.1 = given_same refl c.3 in
      let v : length (flat_map (λ (t : List Place). t) g.1) ≡ length (c.0 ++ []) =
      ap (λ (l : List (List Place)). length (flat_map (λ t. t) l)) (c.4 ∙ ap (λ (l : List (List Place)). c.0 ∷ l) (sym z)) in
      let w = length-append c.0 [] in
      let y = g.4 in
      omega arith

  -- a page that ends the chain, and one that does not
  next_none : (p : Place) → next_page n d p ≡ none → last_page n d p ≡ true
  unfolding next_page
  next_none p h = by_test (last_page n d p) (λ t. t) (λ t. absurd (let z : ◌≡◌ {A = Option Place} (some (link_of n d p)) none = rw t at h in no_some z))
    where
      no_some : {q : Place} → ◌≡◌ {A = Option Place} (some q) none → ⊥
      no_some e = let z : ◌≡◌ {A = ℕ} 0 1 = cc in omega arith

  next_some : (p q : Place) → next_page n d p ≡ some q → (last_page n d p ≡ false) × (link_of n d p ≡ q)
  unfolding next_page
  next_some p q h =
      by_test (last_page n d p) (λ t. absurd (let z : ◌≡◌ {A = Option Place} none (some q) = rw t at h in no_none z))
      (λ t. (t, let z : ◌≡◌ {A = Option Place} (some (link_of n d p)) (some q) = rw t at h in cc))
    where
      no_none : ◌≡◌ {A = Option Place} none (some q) → ⊥
      no_none e = let z : ◌≡◌ {A = ℕ} 0 1 = cc in omega arith

  pages_many : {p : Place} {ps : List Place} → Chained n (sound_page n d) (next_page n d) p ps → (ts : List (List Place)) → each (own_at n d s) (starts n ps) ≡ Ok ts
      → (j : ℕ) → onward (length ps + j) p ≡ length (flat_map (λ (t : List Place). t) ts)
  unfolding over_pages page_count starts flat_map each
  pages_many {p} (Chain.end r l) ts h j =
      let g = two_runs (lines_on p) [] ts h in
      let a = page_many p 7 g.0 g.2 in
      let z : [] ≡ g.1 = given_same refl g.3 in
      let v : length (flat_map (λ (t : List Place). t) g.1) ≡ 0 = ap (λ (l : List (List Place)). length (flat_map (λ t. t) l)) (sym z) in
      let y = g.4 in
      let e : onward (suc (0 + j)) p ≡ lines_count n d s p 7 + 0 = rw (next_none p l) refl in
      ap (λ (k : ℕ). onward k p) (let w : 1 + j ≡ suc (0 + j) = omega arith in w) ∙ e ∙ omega arith
  pages_many {p} (Chain.more {q = q} {ps = ps} l c) ts h j =
      let g = two_runs (lines_on p) (starts n ps) ts h in
      let a = page_many p 7 g.0 g.2 in
      let b = pages_many c g.1 g.3 j in
      let x = next_some p q l.2 in
      let e : onward (suc (length ps + j)) p ≡ lines_count n d s p 7 + onward (length ps + j) q = rw (x.0, x.1) refl in
      let y = g.4 in
      ap (λ (k : ℕ). onward k p) (let w : suc (length ps) + j ≡ suc (length ps + j) = omega arith in w) ∙ e ∙ omega arith

  pub counted : (m : ℕ) → held_by n d s ≡ Ok m → tally n d s ≡ m
  unfolding held_by own_sectors tally pages
  counted m h =
      let f = gives (own_sectors n d s) _ m h in
      let g = gives (pages n d) _ f.0 f.1 in
      let k = gives (each (own_at n d s) (starts n g.0)) _ f.0 g.2 in
      let w = (pages_given n d g.0 g.1).1 in
      let c = walk_chained n (sound_page n d) (next_page n d) (sectors n + 1) [] (first_page n d) g.0 w in
      let l = walk_short n (sound_page n d) (next_page n d) (sectors n + 1) (first_page n d) g.0 w in
      let e : sectors n + 1 ≡ length g.0 + (sectors n + 1 - length g.0) = omega arith in
      let a : flat_map (λ t. t) k.0 ≡ f.0 = given_same refl k.2 in
      let b : length f.0 ≡ m = given_same refl f.2 in
      ap (λ (i : ℕ). onward i (first_page n d)) e ∙ pages_many c k.0 k.1 (sectors n + 1 - length g.0) ∙ ap length a ∙ b

pub ruleset letters = (letter_survey, letter_ours, name_is, rules)

pub ruleset lines = (side_idle, side_live, line_other, line_followed, line_refused, not-true, not-false, rules)

pub ruleset linings = (lining_none, lining_more, lining_fits, lining_done, lining_small, rules)

pub ruleset pagings = (paging_none, paging_over, paging_small, paging_fits, paging_few, paging_last, paging_more, not-true, not-false, rules)
