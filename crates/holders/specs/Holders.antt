-- The holders of a disk's sectors: document 02, Req 06. A holder is the VTOC, a page, a list or a data pair, each place counted.
use Rattle.std.specs.Prelude.{Bool, ◌&&◌, ℕ, ◌+◌, ◌-◌, ◌/◌, ◌%◌, ◌^◌, length, ltb, eqb}
use mathlib.Core.List.{List, ◌∷◌, ◌++◌, flat_map}
use Rattle.lists.specs.Select.{all, filter, passing}
use Rattle.std.specs.Prelude.{Ok}
use Rattle.outcome.specs.declared.Refusal.TheVariants.{OffDisc}
use Rattle.outcome.specs.Outcome.{Outcome, ◌>>=◌, ◌>>◌, require, each}
use Rattle.disk.specs.declared.Place.{Place}
use Rattle.disk.specs.Disk.{on_disk, number_of, place_of, sectors}
use Rattle.disk.specs.Vtoc.{vtoc, map_word}
use Rattle.catalog.specs.Catalog.{Entry, entries_of, pages}
use Rattle.files.specs.Contents.{pairs_of, list_walk}
use Rattle.holders.specs.declared.HolderCounts.{HolderCounts}

-- ---- the holders of a disk d of n sectors a track
module _ (n : ℕ) (d : List ℕ) where
  -- a list and each of its pairs
  abbrev pub with_pairs : Place → List Place
  with_pairs l = l ∷ pairs_of n d l

  -- the sectors of the lists from p on, list by list: 5, 3, 4 at each link, then 3 for the pairs
  unfoldable pub sectors_from : Place → Outcome (List Place)
  sectors_from p = list_walk n d p >>= λ ls. require (all (on_disk n) (flat_map (pairs_of n d) ls)) OffDisc >> Ok (flat_map with_pairs ls)

  -- those of an entry; its refusals are those of its file
  unfoldable pub sectors_of : Entry → Outcome (List Place)
  sectors_of e = sectors_from e.list

  -- all holders: the VTOC, each page, and entry by entry its sectors; 1 to 6 as the contents have them
  unfoldable pub holders : Outcome (List Place)
  holders = pages n d >>= λ ps. each sectors_of (flat_map (entries_of n d) ps) >>= λ ts. Ok (vtoc ∷ ps ++ flat_map (λ t. t) ts)

-- ---- how often a sector is held, hs being the holders
module _ (n : ℕ) (hs : List Place) where
  -- by how many the sector with the number k is held
  unfoldable pub held : ℕ → ℕ
  held k = length (filter (λ p. eqb (number_of n p) k) hs)

  -- how many sectors are held by no one ..
  unfoldable pub unheld : ℕ
  unheld = passing (λ k. eqb (held k) 0) (sectors n)

  -- .. by exactly one holder ..
  unfoldable pub held_once : ℕ
  held_once = passing (λ k. eqb (held k) 1) (sectors n)

  -- .. and by more than one
  unfoldable pub shared : ℕ
  shared = passing (λ k. ltb 1 (held k)) (sectors n)

-- ---- what the map calls free
-- bit k of a number, bit 0 being the lowest
unfoldable pub bit : (k w : ℕ) → ℕ
bit k w = w / 2 ^ k % 2

module _ (n : ℕ) (d : List ℕ) where
  -- the map calls a sector free: of the track's 16 bits the highest is its highest sector's, and so down; 1 is free
  unfoldable pub free : Place → Bool
  free p = eqb (bit (p.sector.0 + (16 - n)) (map_word n d p.track.0)) 1

  -- how many held sectors it calls free
  unfoldable pub held_free : List Place → ℕ
  held_free hs = passing (λ k. ltb 0 (held n hs k) && free (place_of n k)) (sectors n)

  -- no sector is shared, and no held one is called free
  unfoldable pub clean : List Place → Bool
  clean hs = eqb (shared n hs) 0 && eqb (held_free hs) 0

-- ---- the report
-- the numbers of the holders hs
abbrev pub numbers_of : (n : ℕ) (d : List ℕ) → List Place → HolderCounts
numbers_of n d hs = record { unheld = unheld n hs; held_once = held_once n hs; shared = shared n hs; held_free = held_free n d hs; clean = clean n d hs }

-- those of a disk: 1 to 6
unfoldable pub holding : ℕ → List ℕ → Outcome HolderCounts
holding n d = holders n d >>= λ hs. Ok (numbers_of n d hs)
