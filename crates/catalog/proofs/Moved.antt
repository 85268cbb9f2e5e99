-- The catalog begins where bytes 1 and 2 of the VTOC say, on any track of the disk (document 02, Req 08). Assumes nothing.
use mathlib.Core.Path.{◌≡◌, refl, sym, ◌∙◌}
use mathlib.Core.Bool.{false}
use mathlib.Core.List.{List, []}
use mathlib.Core.Option.{none}
use Prim.Native.Nat.{ℕ, suc, ◌+◌, ◌*◌, ◌≤◌}
use native.Mathlib.Omega.{arith}
use borrow.Author.Tests.{eq-eqb}
use Rattle.lists.proofs.Split.{by_test}
use Rattle.std.specs.Prelude.{Ok, Err}
use Rattle.outcome.specs.declared.Refusal.TheVariants.{OffDisc}
use Rattle.disk.specs.declared.Place.{Place}
use Rattle.disk.specs.Disk.{place, on_disk, byte_of}
use Rattle.disk.specs.Vtoc.{vtoc, readable}
use Rattle.disk.proofs.Chain.{Chained, walk_chained, chained_walk, budget, bare_off}
use Rattle.disk.proofs.Sectors.{off_disk_is}
use Rattle.disk.proofs.Places.{on_sector}
use Rattle.catalog.specs.Catalog.{sound_page, last_page, next_page, first_page, pages}
use Rattle.catalog.proofs.Order.{pages_given}

module _ (n : ℕ) (d : List ℕ) where
  -- the pages from the place in bytes 1 and 2 of the VTOC on, each sound, link by link to the end
  abbrev pub PagesFrom : List Place → Type 0
  PagesFrom = Chained n (sound_page n d) (next_page n d) (place (byte_of n d vtoc 1) (byte_of n d vtoc 2))

  module _ (table : readable n d ≡ Ok tt) where
    -- a first page off the disk is 3, whatever else the disk holds
    pub begins_off : on_disk n (first_page n d) ≡ false → pages n d ≡ Err OffDisc
    unfolding pages
    begins_off off =
        let e : 35 * n + 1 ≡ suc (35 * n) = omega arith in
        rw (table, e) (budget n _ _ _ _ ∙ bare_off n _ _ _ _ off)

    -- so is a track of 35 and more in byte 1 ..
    pub track_off : 35 ≤ byte_of n d vtoc 1 → pages n d ≡ Err OffDisc
    track_off h = begins_off (sym (off_disk_is n (first_page n d) h))

    -- .. and a sector that a track has not in byte 2
    pub sector_off : n ≤ byte_of n d vtoc 2 → pages n d ≡ Err OffDisc
    sector_off h =
        begins_off (by_test (on_disk n (first_page n d)) (λ on. absurd (omega (arith, on_sector n (first_page n d) on))) (λ off. off))

    -- pages that begin there are the catalog's, on whatever track of the disk, 0 too
    pub pages_from : (ps : List Place) → PagesFrom ps → pages n d ≡ Ok ps
    unfolding pages
    pages_from ps c = rw table (chained_walk n _ _ (first_page n d) ps c)

  -- .. and no others are
  pub pages_there : (ps : List Place) → pages n d ≡ Ok ps → PagesFrom ps
  pages_there ps e = walk_chained n _ _ _ [] (first_page n d) ps (pages_given n d ps e).1

  -- a page whose link has track 0 is still the last
  pub track_0_ends : (p : Place) → byte_of n d p 1 ≡ 0 → next_page n d p ≡ none
  unfolding next_page last_page
  track_0_ends p e = rw (eq-eqb _ _ e) refl

  -- with 17 in byte 1 the catalog begins where document 01 has it
  pub begins_on_17 : byte_of n d vtoc 1 ≡ 17 → first_page n d ≡ place 17 (byte_of n d vtoc 2)
  begins_on_17 e = rw e refl
