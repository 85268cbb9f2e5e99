-- Sectors sought, taken and given back in a copy of the VTOC: Req 09, "Each sector is sought anew ..". What `amend` says of a disk, over the 256 bytes of its
-- VTOC, on a disk of 16 sectors a track.
use Rattle.std.specs.Prelude.{◌≡◌, Bool, true, false, cond, not, ◌&&◌, ℕ, zero, suc, ◌+◌, ◌*◌, ◌-◌, ◌/◌, ◌%◌, length, get_or, leb, eqb}
use mathlib.Core.List.{List, [], ◌∷◌, flat_map}
use Rattle.std.proofs.Math.Option.{Option, none, some}
use Rattle.lists.specs.Fill.{put}
use Rattle.disk.specs.declared.Place.{Place}
use Rattle.disk.specs.Disk.{on_disk}
use Rattle.files.specs.Contents.{place_bytes}
use Rattle.holders.specs.Holders.{bit}
use Rattle.amend.specs.Lines.{first_of}
use Rattle.amend.specs.Search.{Spot, with_bit, spots_of, route, track_of, direction_of}

-- ---- the map of a table T
-- map bytes 0 and 1 of a track
abbrev pub map_in : List ℕ → ℕ → ℕ
map_in T t = 256 * get_or T (56 + 4 * t) 0 + get_or T (57 + 4 * t) 0

-- the table of a disk of n sectors a track with a sector's bit made v, and with a sector taken
abbrev pub marked_in : ℕ → List ℕ → ℕ → Place → List ℕ
marked_in n T v p =
    let w = with_bit (p.sector.0 + (16 - n)) v (map_in T p.track.0) in
    put (56 + 4 * p.track.0) (w / 256 ∷ w % 256 ∷ []) T

abbrev pub taken_in : ℕ → List ℕ → Spot → List ℕ
taken_in n T q = put 48 (q.place.track.0 ∷ q.direction ∷ []) (marked_in n T 0 q.place)

-- a sector's bit made v; nothing where the table has not 256 bytes, or the place is not on the disk
unfoldable pub mark_on : List ℕ → (v : ℕ) → Place → List ℕ
mark_on T v p = cond (eqb (length T) 256 && on_disk 16 p) (marked_in 16 T v p) T

-- ---- the search
module _ (T : List ℕ) where
  -- tracks 0, 17 and that in byte 1 are never taken
  unfoldable pub open_in : ℕ → Bool
  open_in t = not (eqb t 0) && (not (eqb t 17) && not (eqb t (get_or T 1 0)))

  -- a sector that can be taken: its bit is 1, on an open track; a list after the first (`later`) passes over sector 0
  unfoldable pub takable_in : (later : Bool) → Place → Bool
  takable_in later p = eqb (bit p.sector.0 (map_in T p.track.0)) 1 && (open_in p.track.0 && not (later && eqb p.sector.0 0))

  -- the first of them in the order of the search
  unfoldable pub seek_in : (later : Bool) → Option Spot
  seek_in later =
      first_of (λ (q : Spot). takable_in later q.place) (flat_map (spots_of 16) (route (track_of (get_or T 48 0)) (direction_of (get_or T 49 0))))

-- ---- the sectors of a save, one after the other
-- whether all were found so far, the table, and their places as pairs of bytes in lent space
pub record Allotment : Type 0 where
  pub found : Bool
  pub table : List ℕ
  pub places : List ℕ

-- sector i of a save is a list where i is a multiple of 123; a later one where it is not the first
abbrev pub later_at : ℕ → Bool
later_at i = not (eqb i 0) && eqb (i % 123) 0

-- sector i was sought in the table T, with the places P
abbrev pub with_spot : (i : ℕ) (T P : List ℕ) → Option Spot → Allotment
with_spot i T P none = record { found = false; table = T; places = P }
with_spot i T P (some q) = record { found = true; table = taken_in 16 T q; places = put (2 * i) (place_bytes q.place) P }

-- sector i taken, where all were found so far
abbrev pub take_next : ℕ → Allotment → Allotment
take_next i a = cond a.found (with_spot i a.table a.places (seek_in a.table (later_at i))) a

-- the first m sectors
unfoldable pub take_all : (m : ℕ) (T P : List ℕ) → Allotment
take_all zero T P = record { found = true; table = T; places = P }
take_all (suc m) T P = take_next m (take_all m T P)

-- what a call comes to: nothing is taken where the table has not 256 bytes, or the lent space no room for so many places
unfoldable pub allotted : (m : ℕ) (T P : List ℕ) → Allotment
allotted m T P =
    let all = take_all m T P in
    cond (eqb (length T) 256 && leb (2 * m) (length P)) all (record { found = false; table = T; places = P })

-- ---- promises
-- a sector's bit was made v
pub record Marked (v : ℕ) (p : Place) (before after : List ℕ) : Type 0 where
  pub is : after ≡ mark_on before v p

-- m sectors were sought
pub record Allotted (m : ℕ) (table places table' places' : List ℕ) (r : Bool) : Type 0 where
  pub is : record { found = r; table = table'; places = places' } ≡ allotted m table places
