-- The catalog as it is written: an entry's 37 bytes, a page's entries, and the pages. Assumes nothing.
use mathlib.Core.Path.{◌≡◌, refl, sym, ap, ◌∙◌}
use mathlib.Core.Bool.{Bool, true, false}
use mathlib.Core.List.{List, [], ◌∷◌, ◌++◌, map, flat_map, append_assoc}
use Prim.Native.Nat.{ℕ, ◌+◌, ◌*◌, ◌-◌, ◌^◌, ◌<◌, ◌≤◌}
use native.Mathlib.Omega.{arith}
use lib.ListN.{length, get_or, take, drop, replicate, length-append, length-take, length-drop}
use lib.Seq.{take-length, length-take-le}
use borrow.Author.Rules.{rules}
use Rattle.lists.specs.Fill.{below, put, placed, cat}
use Rattle.lists.specs.Select.{filter}
use Rattle.lists.specs.Words.{le2}
use Rattle.lists.proofs.Laws.{length_tab, get_or_tab, length_padded}
use Rattle.lists.proofs.Put.{Put, put_none, put_more, put_front, put_whole, placed_put, placed_nil, put_rest}
use Rattle.lists.proofs.Cat.{Catting, cat_none, cat_turn, cat_fits, cat_done}
use Rattle.lists.proofs.Split.{by_test}
use Rattle.disk.specs.declared.Place.{Place}
use Rattle.disk.specs.Disk.{start, link_of}
use Rattle.disk.specs.Chain.{walk}
use Rattle.disk.proofs.Steps.{made, rest, joins, joined_is, rest_start, rest_within, rest_last, rest_on, rest_room}
use Rattle.std.specs.Prelude.{Ok, Err}
use Rattle.outcome.specs.Outcome.{Outcome, ◌>>=◌, left_by}
use borrow.Rule.Slice.PartMut.{put_mid, mid_of}
use Rattle.catalog.specs.declared.FileEntry.{FileEntry}
use Rattle.catalog.specs.Catalog.{Entry, shown, valid_file, live, entry_from, entry_at, entries_of, last_page, sound_page, next_page}
use Rattle.catalog.proofs.Names.{shown_short}
use Rattle.catalog.specs.Listing.{file_entry, bytes37, entry_bytes, live_bytes, page_bytes, Wrote, Fronts, Ready, walk_listed}

-- ---- 37 bytes
pub bytes_are : (e : FileEntry) (z a b o : List ℕ) → length e.name.letters ≡ 30 → z ≡ replicate 37 0
    → a ≡ placed 0 (e.list.track.0 ∷ e.list.sector.0 ∷ e.file_type ∷ e.locked ∷ e.name.length ∷ []) z
    → b ≡ placed 5 e.name.letters a → o ≡ placed 35 (le2 e.count) b → o ≡ bytes37 e
unfolding bytes37
bytes_are e z a b o h y p q r =
    let H : List ℕ = e.list.track.0 ∷ e.list.sector.0 ∷ e.file_type ∷ e.locked ∷ e.name.length ∷ [] in
    let L : List ℕ = e.name.letters in
    let w : List ℕ = le2 e.count in
    let lz : length z ≡ 37 = rw y refl in
    let p₁ : Put 0 H z a = placed_put p (omega arith) in
    let q₂ : Put 5 L a b = placed_put q (omega (arith, p₁.long)) in
    let p₂ : Put 0 (H ++ L) z b = put_more p₁ q₂ refl (omega arith) in
    let q₃ : Put 35 w b o = placed_put r (omega (arith, p₂.long)) in
    let l₂ : 35 ≡ 0 + length (H ++ L) = omega arith in
    let p₃ : Put 0 ((H ++ L) ++ w) z o = put_more p₂ q₃ l₂ (omega arith) in
    let l₃ : length ((H ++ L) ++ w) ≡ length z = rw length-append (omega arith) in
    put_whole p₃ l₃ ∙ append_assoc H L w

-- an entry of the disk has 37
pub length_entry : (e : Entry) → length (shown e.raw) ≤ 30 → length (entry_bytes e) ≡ 37
unfolding entry_bytes bytes37
length_entry e h = let l = length_padded 30 (shown e.raw) h in rw length-append (omega arith)

-- ---- an entry put in, t being its track and b whether it is in use
module _ (d : List ℕ) (x t : ℕ) (b : Bool) (e : t ≡ get_or d x 0) (v : b ≡ valid_file t) (w : ℕ) (o : List ℕ) where
  pub entry_none : b ≡ false → Wrote (live_bytes (entry_from d x)) w o o w
  unfolding live_bytes
  entry_none z =
      let q : live_bytes (entry_from d x) ≡ [] = rw (← e, ← v, z) refl in
      record { puts = rw q (placed_nil w o); next = rw q (omega arith) }

  pub entry_some : (f : FileEntry) (a o' : List ℕ) → b ≡ true → f ≡ file_entry (entry_from d x) → a ≡ bytes37 f → o' ≡ placed w a o
      → Wrote (live_bytes (entry_from d x)) w o o' (w + 37)
  unfolding live_bytes entry_bytes
  entry_some f a o' z h k p =
      let y : valid_file (get_or d x 0) ≡ true = sym (ap valid_file e) ∙ sym v ∙ z in
      let q : live_bytes (entry_from d x) ≡ a = rw (y, k, h) refl in
      let s = shown_short (take 30 (drop (x + 3) d)) in
      let l : length (entry_bytes (entry_from d x)) ≡ 37 = length_entry (entry_from d x) (omega (arith, length-take 30 (drop (x + 3) d))) in
      let m : length a ≡ 37 = rw (k, h) l in
      record { puts = rw q p; next = rw (q, m) refl }

pub ruleset entry_writing = (bytes_are, entry_none, entry_some, rules)

-- ---- a page's entries
module _ (n : ℕ) (d : List ℕ) (p : Place) where
  -- the bytes of entry i
  abbrev pub of_entry : ℕ → List ℕ
  of_entry i = live_bytes (entry_at n d p i)

  -- those of some entries
  some_bytes : (is : List ℕ) → flat_map entry_bytes (filter live (map (entry_at n d p) is)) ≡ cat of_entry is
  unfolding flat_map filter cat live_bytes
  some_bytes [] = refl
  some_bytes (i ∷ is) =
      by_test (live (entry_at n d p i)) (λ h. rw h (ap (λ (t : List ℕ). entry_bytes (entry_at n d p i) ++ t) (some_bytes is))) (λ h. rw h (some_bytes is))

  page_cat : page_bytes n d p ≡ cat of_entry (below 7)
  unfolding page_bytes entries_of
  page_cat = some_bytes (below 7)

  -- i entries are written, and w is the place for the next
  pub record Paging (i w : ℕ) (o₀ o : List ℕ) : Type 0 where
    pub cats : Catting of_entry (below 7) i w o₀ o
    pub room : length (cat of_entry (below 7)) ≤ length o₀

  pub paging_none : (o : List ℕ) → length (page_bytes n d p) ≤ length o → Paging 0 0 o o
  paging_none o h = record { cats = cat_none of_entry (below 7) o; room = rw page_cat at h }

  module _ (i w : ℕ) (o₀ o : List ℕ) (c : Paging i w o₀ o) where
    seven : length (below 7) ≡ 7
    seven = length_tab (λ k. k) 7

    pub paging_fits : i < 7 → w ≤ length o
    paging_fits h = let f = cat_fits of_entry (below 7) i w o₀ o c.cats (rw seven h) c.room in omega arith

    pub paging_more : (x r : ℕ) (o' : List ℕ) → i < 7 → x ≡ start n p + (11 + 35 * i) → Wrote (live_bytes (entry_from d x)) w o o' r → Paging (i + 1) r o₀ o'
    paging_more x r o' h q u =
        let g : get_or (below 7) i 0 ≡ i = get_or_tab (λ k. k) 7 i 0 h in
        let e : live_bytes (entry_from d x) ≡ of_entry (get_or (below 7) i 0) = rw (q, g) refl in
        let f = cat_fits of_entry (below 7) i w o₀ o c.cats (rw seven h) c.room in
        let a : o' ≡ put w (of_entry (get_or (below 7) i 0)) o = (placed_put (rw e at u.puts) f).is in
        record { cats = cat_turn of_entry (below 7) i w r o₀ o o' c.cats (rw seven h) c.room a (rw e at u.next); room = c.room }

    pub paging_done : 7 ≤ i → Fronts (page_bytes n d p) o₀ o w
    paging_done h =
        let k : length (below 7) ≤ i = rw seven h in
        let m : i ≡ length (below 7) = omega (arith, c.cats.count) in
        record {
          is = rw page_cat (cat_done of_entry (below 7) i w o₀ o c.cats k);
          count = c.cats.place ∙ rw (m, take-length (below 7), page_cat) refl;
        }

pub ruleset pagings = (paging_none, paging_fits, paging_more, paging_done, rules)

-- ---- the pages
module _ (n : ℕ) (d : List ℕ) where
  abbrev join_pages : List ℕ → Place → List ℕ
  join_pages = joins (page_bytes n d)

  -- all pages, joined
  made_listed : (o : Outcome (List Place)) → made join_pages [] o ≡ (o >>= λ ps. Ok (flat_map (page_bytes n d) ps))
  made_listed (Err r) = refl
  made_listed (Ok ps) = ap Ok (joined_is (page_bytes n d) [] ps)

  module _ (first : Place) where
    -- k pages are written, w is the place for the next, and p is that page
    pub record Listed (most k w : ℕ) (p : Place) (o₀ o : List ℕ) : Type 0 where
      pub budget : most ≡ 35 * n + 1
      pub count : k ≤ most
      pub done : List ℕ
      pub whole : List ℕ
      pub total : walk_listed n d first ≡ Ok whole
      pub fits : length whole ≤ length o₀
      pub is : rest join_pages n (sound_page n d) (next_page n d) (35 * n + 1) k done p ≡ Ok whole
      pub place : w ≡ length done
      pub puts : Put 0 done o₀ o

    pub list_none : (most : ℕ) (o : List ℕ) → most ≡ 35 * n + 1 → Ready (walk_listed n d first) o → Listed most 0 0 first o o
    unfolding walk_listed
    list_none most o e r =
        record {
          budget = e;
          count = omega arith;
          done = [];
          whole = r.whole;
          total = r.is;
          fits = r.fits;
          is =
              rest_start join_pages n (sound_page n d) (next_page n d) (35 * n + 1) [] first
              ∙ made_listed (walk n (sound_page n d) (next_page n d) (35 * n + 1) [] first) ∙ r.is;
          place = refl;
          puts = put_none 0 o;
        }

    module _ (most k w : ℕ) (p : Place) (o₀ o : List ℕ) (c : Listed most k w p o₀ o) where
      room : length c.done + length (page_bytes n d p) ≤ length c.whole
      room = rest_room (page_bytes n d) n (sound_page n d) (next_page n d) (35 * n + 1) k c.done p c.whole c.is

      -- the place is within the space, and what is left of it is enough
      pub list_within : w ≤ length o
      list_within = omega (arith, room, c.place, c.puts.long, c.fits)

      pub list_fits : length (page_bytes n d p) ≤ length (mid_of w (length o - w) o)
      list_fits =
          let m : length (mid_of w (length o - w) o) ≡ length o - w = length-take-le (length o - w) (drop w o) (rw length-drop (omega arith)) in
          omega (arith, room, c.place, c.puts.long, c.fits, m)

      -- the budget is never used up
      pub list_full : most ≤ k → o ≡ left_by (walk_listed n d first) o₀
      list_full h =
          let l = rest_within join_pages n (sound_page n d) (next_page n d) (35 * n + 1) k c.done p c.whole c.is in
          absurd (omega (arith, c.budget))

      pub list_sum : (r : ℕ) (y : List ℕ) → Fronts (page_bytes n d p) (mid_of w (length o - w) o) y r → length o₀ * 1 < 2 ^ 63 → w + r < 2 ^ 64
      list_sum r y u h = omega (arith, room, c.place, c.fits, u.count)

      module _ (r : ℕ) (y : List ℕ) (u : Fronts (page_bytes n d p) (mid_of w (length o - w) o) y r) (l : Bool) (e : l ≡ last_page n d p) where
        more : Put 0 (c.done ++ page_bytes n d p) o₀ (put_mid w (length o - w) o y)
        more = put_rest (page_bytes n d p) w c.puts c.place u.is (omega (arith, room, c.place, c.puts.long, c.fits))

        pub list_last : l ≡ true → put_mid w (length o - w) o y ≡ left_by (walk_listed n d first) o₀
        unfolding next_page
        list_last t =
            let q : c.whole ≡ c.done ++ page_bytes n d p =
            rest_last join_pages n (sound_page n d) (next_page n d) (35 * n + 1) k c.done p c.whole c.is (rw (← e, t) refl) in
            rw (c.total, q) (put_front more)

        pub list_more : l ≡ false → (a : Place) → a ≡ link_of n d p → k < most
            → Listed most (k + 1) (w + r) a o₀ (put_mid w (length o - w) o y)
        unfolding next_page
        list_more t a z h =
            record {
              budget = c.budget;
              count = omega arith;
              done = c.done ++ page_bytes n d p;
              whole = c.whole;
              total = c.total;
              fits = c.fits;
              is = rest_on join_pages n (sound_page n d) (next_page n d) (35 * n + 1) k c.done p c.whole c.is a (rw (← e, t, z) refl);
              place = rw length-append (omega (arith, c.place, u.count));
              puts = more;
            }

pub ruleset listings = (list_none, list_within, list_fits, list_full, list_last, list_sum, list_more, rules)
