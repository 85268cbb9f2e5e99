-- The flat order: size, table, the catalog's pages, then entry by entry the lists and the pairs. Assumes nothing.
use mathlib.Core.Path.{◌≡◌, refl, sym, ap, ◌∙◌}
use mathlib.Core.Bool.{true, false}
use mathlib.Core.Logic.{◌⊎◌, inl, inr, ⊎_elim}
use mathlib.Core.List.{List, flat_map}
use Prim.Native.Nat.{ℕ, ◌*◌, ◌≤◌}
use native.Mathlib.Omega.{arith}
use lib.ListN.{length}
use Rattle.lists.specs.Select.{all}
use Rattle.lists.proofs.Select.{onward, length_onward, take_while_short}
use Rattle.lists.proofs.Chunks.{length_flat_map}
use Rattle.disk.specs.declared.Place.{Place}
use Rattle.disk.specs.Vtoc.{vtoc, tabled, readable}
use Rattle.disk.specs.Disk.{sectors, on_disk, byte_of, bytes_of}
use Rattle.std.specs.Prelude.{Ok, Err}
use Rattle.outcome.specs.declared.Refusal.{Refusal}
use Rattle.outcome.specs.declared.Refusal.TheVariants.{OffSize, NoTable, OffDisc, Ring, CutLink}
use Rattle.outcome.specs.Outcome.{each, require}
use Rattle.outcome.proofs.Outcome.{gives, refuses, then_gives, then_refuses, map_refuses, required, not_required, First, each_first, first_each, refused_given}
use Rattle.disk.proofs.Chain.{walk_short, RingFrom, ring_is_there}
use Rattle.disk.proofs.Places.{readable_refused, off_size, no_table}
use Rattle.catalog.specs.Catalog.{Entry, catalog}
use Rattle.catalog.proofs.Order.{page_walk, pages_refused, catalog_refused, table_refuses, page_refuses}
use Rattle.files.specs.Contents.{File, Contents, bytes_in, max_pairs, whole_link, sound_list, next_list, list_walk, lists, is_pair, pair_at, pairs_of, file_of, contents}

module _ (n : ℕ) (d : List ℕ) where
  -- ---- one file's lists

  -- a ring of lists that is answered is there
  pub lists_ring : (e : Entry) → lists n d e ≡ Err Ring → RingFrom n (sound_list n d) (next_list n d) e.list
  unfolding list_walk sound_list
  lists_ring e h =
      ring_is_there n _ _ _
      (λ p k.
      let w = (not_required (whole_link n d p) CutLink Ring k).1 in
      let z : ◌≡◌ {A = ℕ} 0 1 = cc in
      omega arith)
      h

  -- no more lists than sectors
  pub lists_short : (e : Entry) (ls : List Place) → lists n d e ≡ Ok ls → length ls ≤ sectors n
  unfolding list_walk
  lists_short e ls h = walk_short n _ _ _ _ ls h

  -- a list has at most max_pairs
  pub pairs_few : (p : Place) → length (pairs_of n d p) ≤ max_pairs
  unfolding pairs_of
  pairs_few p = let l = take_while_short is_pair (onward (pair_at n d p) max_pairs 0) in omega (arith, length_onward (pair_at n d p) max_pairs)

  -- .. in all lists of an entry
  pub pairs_short : (e : Entry) (ls : List Place) → lists n d e ≡ Ok ls → length (flat_map (pairs_of n d) ls) ≤ max_pairs * sectors n
  pairs_short e ls h =
      let l = length_flat_map (pairs_of n d) max_pairs pairs_few ls in
      let m = lists_short e ls h in
      omega arith

  -- ---- one file

  -- the file of an entry with these pairs
  abbrev pub file_with : Entry → List Place → File
  file_with e ps =
      record {
        kind = e.kind;
        locked = e.locked;
        raw = e.raw;
        count = e.count;
        bytes = bytes_in e.kind (flat_map (bytes_of n d) ps);
      }

  -- its lists, its pairs on the disk, and the file of them
  pub file_given : (e : Entry) (f : File) → file_of n d e ≡ Ok f
      → (ls : List Place) × (lists n d e ≡ Ok ls) × (all (on_disk n) (flat_map (pairs_of n d) ls) ≡ true) × (f ≡ file_with e (flat_map (pairs_of n d) ls))
  unfolding file_of
  file_given e f h =
      let g = gives (lists n d e) _ f h in
      let t = then_gives (require (all (on_disk n) (flat_map (pairs_of n d) g.0)) OffDisc) _ f g.2 in
      let y = t.1 in
      (g.0, g.1, required _ _ t.0, cc)

  -- its lists, then its pairs
  pub file_refused : (e : Entry) (r : Refusal) → file_of n d e ≡ Err r
      → (lists n d e ≡ Err r)
      ⊎ ((ls : List Place) × (lists n d e ≡ Ok ls) × (all (on_disk n) (flat_map (pairs_of n d) ls) ≡ false) × (r ≡ OffDisc))
  unfolding file_of
  file_refused e r h =
      ⊎_elim inl
      (λ g.
      let ps : List Place = flat_map (pairs_of n d) g.0 in
      ⊎_elim (λ k. let w = not_required (all (on_disk n) ps) OffDisc r k in inr (g.0, g.1, w.0, sym w.1))
      (λ k. absurd (refused_given (sym k.1)))
      (then_refuses (require (all (on_disk n) ps) OffDisc) (Ok (file_with e ps)) r g.2))
      (refuses (lists n d e) _ r h)

  -- and back, as code finds it: the lists
  pub lists_refuse : (e : Entry) (r : Refusal) → lists n d e ≡ Err r → file_of n d e ≡ Err r
  unfolding file_of
  lists_refuse e r h = rw h refl

  -- .. then the pairs
  pub pairs_refuse : (e : Entry) (ls : List Place) → lists n d e ≡ Ok ls → all (on_disk n) (flat_map (pairs_of n d) ls) ≡ false
      → file_of n d e ≡ Err OffDisc
  unfolding file_of
  pairs_refuse e ls h a = rw (h, a) refl

  -- .. then the file is given
  pub file_gives : (e : Entry) (ls : List Place) → lists n d e ≡ Ok ls → all (on_disk n) (flat_map (pairs_of n d) ls) ≡ true
      → file_of n d e ≡ Ok (file_with e (flat_map (pairs_of n d) ls))
  unfolding file_of
  file_gives e ls h a = rw (h, a) refl

  -- ---- all that the disk holds

  -- the entries, their files, and the volume
  pub contents_given : (c : Contents) → contents n d ≡ Ok c
      → (es : List Entry) × (catalog n d ≡ Ok es) × (each (file_of n d) es ≡ Ok c.files) × (c.volume ≡ byte_of n d vtoc 6)
  unfolding contents
  contents_given c h =
      let g = gives (catalog n d) _ c h in
      let w = gives (each (file_of n d) g.0) _ c g.2 in
      let y = w.2 in
      let z : c ≡ record { volume = byte_of n d vtoc 6; files = w.0 } = cc in
      (g.0, g.1, w.1 ∙ ap (λ (x : Contents). Ok x.files) (sym z), ap (λ (x : Contents). x.volume) z)

  -- why a disk is refused, in the flat order
  pub data Why : Refusal → Type 0 where
    size : (length d ≡ 256 * sectors n → ⊥) → Why OffSize
    table : length d ≡ 256 * sectors n → tabled n d ≡ false → Why NoTable
    page : {r : Refusal} → readable n d ≡ Ok tt → page_walk n d ≡ Err r → Why r
    entry : {r : Refusal} (es : List Entry) → catalog n d ≡ Ok es → First (file_of n d) es r → Why r

  -- a disk that is refused is refused for one of these
  pub contents_why : (r : Refusal) → contents n d ≡ Err r → Why r
  unfolding contents
  contents_why r h =
      ⊎_elim
      (λ k.
      ⊎_elim (λ t. ⊎_elim (λ s. rw s.1 (size s.0)) (λ s. rw s.2 (table s.0 s.1)) (readable_refused n d r t))
      (λ t. page t.0 t.1)
      (pages_refused n d r (catalog_refused n d r k)))
      (λ g. entry g.0 g.1 (each_first (file_of n d) g.0 r (map_refuses _ (each (file_of n d) g.0) g.2)))
      (refuses (catalog n d) _ r h)

  -- what the catalog refuses, the disk's contents do
  pub catalog_refuses : (r : Refusal) → catalog n d ≡ Err r → contents n d ≡ Err r
  unfolding contents
  catalog_refuses r h = rw h refl

  -- .. and each of these refuses it
  pub why_contents : (r : Refusal) → Why r → contents n d ≡ Err r
  unfolding contents
  why_contents r (size h) = catalog_refuses _ (table_refuses n d _ (off_size n d h))
  why_contents r (table h t) = catalog_refuses _ (table_refuses n d _ (no_table n d h t))
  why_contents r (page h w) = catalog_refuses _ (page_refuses n d r h w)
  why_contents r (entry es h w) = rw (h, first_each (file_of n d) es r w) refl

  -- nothing refuses it
  pub contents_give : (es : List Entry) (fs : List File) → catalog n d ≡ Ok es → each (file_of n d) es ≡ Ok fs
      → contents n d ≡ Ok (record { volume = byte_of n d vtoc 6; files = fs })
  unfolding contents
  contents_give es fs h w = rw (h, w) refl
