-- What each return of the catalog call gives. Assumes nothing.
use mathlib.Core.Path.{◌≡◌, refl, sym, ap, ◌∙◌}
use mathlib.Core.List.{List, [], ◌∷◌, ◌++◌, map, flat_map}
use Prim.Native.Nat.{ℕ, ◌+◌, ◌*◌, ◌<◌, ◌≤◌}
use native.Mathlib.Omega.{arith}
use lib.ListN.{length, drop, length-take}
use borrow.Author.Tests.{lt-leb}
use borrow.Author.Rules.{rules}
use Rattle.lists.specs.Every.{Every, none, more}
use Rattle.lists.specs.Fill.{below}
use Rattle.lists.proofs.Chunks.{every_append, flat_map_append, length_chunks}
use Rattle.lists.proofs.Select.{filter_every}
use Rattle.std.specs.Prelude.{Ok, Err}
use Rattle.outcome.specs.declared.Refusal.{Refusal}
use Rattle.outcome.specs.declared.Refusal.TheVariants.{TrayShort}
use Rattle.outcome.specs.Outcome.{Outcome, ◌>>=◌, left_by}
use Rattle.outcome.proofs.Outcome.{refused_given, gives, hands_refused, hands_short, hands_over_lem, handed_fits}
use Rattle.disk.specs.declared.Place.{Place}
use Rattle.disk.specs.Disk.{per_of, start}
use Rattle.catalog.specs.declared.Pages.{Pages}
use Rattle.catalog.specs.declared.Listing.{Listing}
use Rattle.catalog.specs.Catalog.{Entry, live, entry_at, entries_of, first_page, pages, catalog}
use Rattle.catalog.specs.Pages.{counts_of, pages_counted}
use Rattle.catalog.specs.Listing.{entry_bytes, page_bytes, listed, walk_listed, Ready, Catalogued}
use Rattle.catalog.proofs.Names.{shown_short}
use Rattle.catalog.proofs.Order.{pages_given}
use Rattle.catalog.proofs.Writes.{length_entry}

-- ---- 37 bytes an entry
abbrev Has37 : Entry → Type 0
Has37 e = length (entry_bytes e) ≡ 37

module _ (n : ℕ) (d : List ℕ) where
  entry_37 : (p : Place) (i : ℕ) → Has37 (entry_at n d p i)
  entry_37 p i =
      let raw : List ℕ = (entry_at n d p i).raw in
      let s = shown_short raw in
      length_entry (entry_at n d p i) (omega (arith, length-take 30 (drop (start n p + (11 + 35 * i) + 3) d)))

  some_37 : (p : Place) (is : List ℕ) → Every Has37 (map (entry_at n d p) is)
  some_37 p [] = none
  some_37 p (i ∷ is) = more (entry_37 p i) (some_37 p is)

  pages_37 : (ps : List Place) → Every Has37 (flat_map (entries_of n d) ps)
  unfolding flat_map entries_of
  pages_37 [] = none
  pages_37 (p ∷ ps) = every_append (filter_every live (some_37 p (below 7))) (pages_37 ps)

  -- the entries' bytes are the pages'
  joined_pages : (ps : List Place) → flat_map entry_bytes (flat_map (entries_of n d) ps) ≡ flat_map (page_bytes n d) ps
  unfolding flat_map page_bytes
  joined_pages [] = refl
  joined_pages (p ∷ ps) =
      flat_map_append entry_bytes (entries_of n d p) (flat_map (entries_of n d) ps)
      ∙ ap (λ (t : List ℕ). flat_map entry_bytes (entries_of n d p) ++ t) (joined_pages ps)

  -- the pages are given: so is the catalog, 37 bytes an entry
  pub listed_given : (ps : List Place) → pages n d ≡ Ok ps → listed n d ≡ Ok (flat_map (page_bytes n d) ps)
  unfolding listed catalog
  listed_given ps e = rw e (ap Ok (joined_pages ps))

  pub length_listed : (ps : List Place) → length (flat_map (page_bytes n d) ps) ≡ 37 * length (flat_map (entries_of n d) ps)
  length_listed ps = rw (← joined_pages ps) (length_chunks entry_bytes 37 (pages_37 ps))

  pub listed_refused : (r : Refusal) → pages n d ≡ Err r → listed n d ≡ Err r
  unfolding listed catalog
  listed_refused r e = rw e refl

  pub walk_given : (ps : List Place) → pages n d ≡ Ok ps → walk_listed n d (first_page n d) ≡ Ok (flat_map (page_bytes n d) ps)
  unfolding walk_listed
  walk_given ps e = rw (pages_given n d ps e).1 refl

-- ---- the call: it refused ..
pub call_refused : (n : ℕ) (d o : List ℕ) (r : Outcome Listing) (e : Refusal) → r ≡ Err e → Err e ≡ pages_counted n d → Catalogued n d o o r
unfolding pages_counted
call_refused n d o r e q h = rw q (go (pages n d) refl h)
  where
    go : (w : Outcome (List Place)) → pages n d ≡ w → Err e ≡ (w >>= λ ps. Ok (counts_of n d ps)) → Catalogued n d o o (Err e)
    go (Err a) g k =
        let z : e ≡ a = cc in
        let l = listed_refused n d e (rw z g) in
        record { hands = hands_refused (listed n d) o e l (Err e) refl; pages = rw l refl }
    go (Ok ps) g k = absurd (refused_given k)

-- .. or did not: v is what was counted
pub counted_given : (n : ℕ) (d : List ℕ) (v : Pages) → Ok v ≡ pages_counted n d → (ps : List Place) × (pages n d ≡ Ok ps) × (v ≡ counts_of n d ps)
unfolding pages_counted
counted_given n d v e = let g = gives (pages n d) (λ ps. Ok (counts_of n d ps)) v (sym e) in let q = g.2 in (g.0, g.1, cc)

module _ (n : ℕ) (d : List ℕ) (v : Pages) (e : Ok v ≡ pages_counted n d) (o : List ℕ) where
  -- the bytes are as many as were counted
  size : length (flat_map (page_bytes n d) (counted_given n d v e).0) ≡ 37 * v.entries
  size = let t = counted_given n d v e in length_listed n d t.0 ∙ sym (ap (λ (x : Pages). 37 * x.entries) t.2)

  pub call_short : length o < 37 * v.entries → Catalogued n d o o (Err TrayShort)
  call_short l =
      let t = counted_given n d v e in
      let w : List ℕ = flat_map (page_bytes n d) t.0 in
      let g : listed n d ≡ Ok w = listed_given n d t.0 t.1 in
      let m : length o < length w = rw size l in
      record { hands = hands_short (listed n d) o w g m (Err TrayShort) refl; pages = rw (g, lt-leb _ _ m) refl }

  pub call_ready : (p : Place) → p ≡ first_page n d → 37 * v.entries ≤ length o → Ready (walk_listed n d p) o
  call_ready p a l =
      let t = counted_given n d v e in
      rw a (record { whole = flat_map (page_bytes n d) t.0; is = walk_given n d t.0 t.1; fits = rw size l })

  pub call_done : (p : Place) (o' : List ℕ) → p ≡ first_page n d → 37 * v.entries ≤ length o → o' ≡ left_by (walk_listed n d p) o
      → Catalogued n d o o' (Ok (record { length = 37 * v.entries; pages = v.count }))
  call_done p o' a l u =
      let t = counted_given n d v e in
      let w : List ℕ = flat_map (page_bytes n d) t.0 in
      let g : listed n d ≡ Ok w = listed_given n d t.0 t.1 in
      let m : length w ≤ length o = rw size l in
      let x : o' ≡ w ++ drop (length w) o = u ∙ rw (a, walk_given n d t.0 t.1) refl in
      record {
        hands = hands_over_lem (listed n d) o o' w g m x (Ok (37 * v.entries)) (rw size refl);
        pages = ap (λ (y : Pages). Ok y.count) t.2 ∙ sym (rw (handed_fits (listed n d) o g m, t.1) refl);
      }

-- by the disk's own size
pub call_at : (d o o' : List ℕ) (r : Outcome Listing) (n : ℕ) → n ≡ per_of d → Catalogued n d o o' r → Catalogued (per_of d) d o o' r
call_at d o o' r n e q = rw e at q

pub ruleset calls = (call_at, call_refused, call_short, call_ready, call_done, rules)
