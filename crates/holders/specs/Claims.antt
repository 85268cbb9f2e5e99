-- What holds of the report on holders: the claims of document 02, Req 06.
use Rattle.std.specs.Prelude.{◌≡◌, true, false, not, ◌↔◌, List, map, ℕ, ◌+◌, ◌≤◌, eqb}
use Rattle.lists.specs.Every.{Every}
use Rattle.lists.specs.Fill.{Bytes}
use Rattle.lists.specs.Select.{among, Apart, passing}
use Rattle.std.specs.Prelude.{Ok, Err}
use Rattle.outcome.specs.declared.Refusal.{Refusal}
use Rattle.disk.specs.declared.Place.{Place}
use Rattle.disk.specs.Disk.{per_of, place, number_of, place_of, sectors}
use Rattle.disk.specs.Vtoc.{map_of, free_below}
use Rattle.files.specs.Contents.{contents}
use Rattle.holders.specs.declared.HolderCounts.{HolderCounts}
use Rattle.holders.specs.Holders.{holding, holders, bit, free}

-- of a disk of n sectors a track with the report h, its holders being hs
pub record Reported (n : ℕ) (d : List ℕ) (h : HolderCounts) (hs : List Place) : Type 0 where
  -- the three numbers add up to the disk's sectors
  pub adds : h.unheld + h.held_once + h.shared ≡ sectors n
  -- a sector is held by no one where no holder stands
  pub nobody : h.unheld ≡ passing (λ k. not (among k (map (number_of n) hs))) (sectors n)
  -- no more held sectors are free in the map than are held
  pub free_held : h.held_free ≤ h.held_once + h.shared
  -- it is clean exactly where the holders stand in sectors that are different from each other, and none of them is free in the map
  pub clean_is : (h.clean ≡ true) ↔ (Apart (map (number_of n) hs) × Every (λ (p : Place). free n d p ≡ false) hs)

-- Req 06, for a disk of n sectors a track
pub record Holdings (n : ℕ) (d : List ℕ) : Type 0 where
  -- it is refused as the contents are
  pub refuses : (r : Refusal) → (holding n d ≡ Err r) ↔ (contents n d ≡ Err r)
  -- else its numbers are those of its holders
  pub reports : (h : HolderCounts) → holding n d ≡ Ok h → (hs : List Place) × (holders n d ≡ Ok hs) × Reported n d h hs

-- the map that is meant here is that of 01 and Req 12
pub record MapAgrees (d : List ℕ) : Type 0 where
  -- bit s of a track's map is sector s's
  pub bits : (t s : ℕ) → free (per_of d) d (place t s) ≡ eqb (bit s (map_of (per_of d) d t)) 1
  -- as many sectors are free as the VTOC counts
  pub counts : Bytes d → passing (λ k. free (per_of d) d (place_of (per_of d) k)) (sectors (per_of d)) ≡ free_below (per_of d) d 35
