-- The search for a sector: Req 09, "Each sector is sought anew ..".
use Rattle.std.specs.Prelude.{Bool, cond, not, ◌&&◌, ℕ, zero, suc, ◌+◌, ◌*◌, ◌-◌, ◌/◌, ◌%◌, ◌^◌, leb, eqb}
use mathlib.Core.List.{List, [], ◌∷◌, ◌++◌, map, flat_map, foldl}
use Rattle.lists.specs.Fill.{below, put}
use Rattle.std.specs.Prelude.{Ok}
use Rattle.outcome.specs.declared.Refusal.TheVariants.{NoSpace}
use Rattle.outcome.specs.Outcome.{Outcome, ◌>>=◌}
use Rattle.disk.specs.declared.Place.{Place}
use Rattle.disk.specs.Disk.{place, start, byte_of}
use Rattle.disk.specs.Vtoc.{vtoc, map_word}
use Rattle.holders.specs.Holders.{bit, free}
use Rattle.amend.specs.Lines.{first_of, found}

-- ---- the tracks in the order in which they are visited
-- a track, and the direction in which the search moves there: 1 up, 255 down
pub record Visit : Type 0 where
  pub track : ℕ
  pub direction : ℕ

-- t, t + 1, .., 34
unfoldable pub up_from : ℕ → List ℕ
up_from t = map (λ k. t + k) (below (35 - t))

-- t, t - 1, .., 0
unfoldable pub down_from : ℕ → List ℕ
down_from zero = 0 ∷ []
down_from (suc t) = suc t ∷ down_from t

-- from track t to the disk's edge
unfoldable pub to_edge : (direction t : ℕ) → List Visit
to_edge dir t = map (λ u. record { track = u; direction = dir }) (cond (eqb dir 1) (up_from t) (down_from t))

-- the other direction
abbrev pub opposite : ℕ → ℕ
opposite dir = cond (eqb dir 1) 255 1

-- from the last track in its direction to the edge, then from 17 the other way to that edge, then from 17 back
unfoldable pub route : (last direction : ℕ) → List Visit
route last dir = to_edge dir last ++ (to_edge (opposite dir) 17 ++ to_edge dir 17)

-- a direction byte other than 1 or -1 counts as 1, a last track over 34 as 17
abbrev pub direction_of : ℕ → ℕ
direction_of b = cond (eqb b 255) 255 1

abbrev pub track_of : ℕ → ℕ
track_of b = cond (leb b 34) b 17

-- ---- a sector that is found
-- where it is, and the direction in which the search moved
pub record Spot : Type 0 where
  pub place : Place
  pub direction : ℕ

-- w with bit k made v
unfoldable pub with_bit : (k v w : ℕ) → ℕ
with_bit k v w = w - 2 ^ k * bit k w + 2 ^ k * v

-- the sectors of a track, the highest first
unfoldable pub spots_of : ℕ → Visit → List Spot
spots_of n v = map (λ s. record { place = place v.track s; direction = v.direction }) (down_from (n - 1))

module _ (n : ℕ) (d : List ℕ) where
  -- all of them, in the order of the search
  unfoldable pub spots : List Spot
  spots = flat_map (spots_of n) (route (track_of (byte_of n d vtoc 48)) (direction_of (byte_of n d vtoc 49)))

  -- tracks 0, 17 and that in VTOC byte 1 are never taken
  unfoldable pub open_track : ℕ → Bool
  open_track t = not (eqb t 0) && (not (eqb t 17) && not (eqb t (byte_of n d vtoc 1)))

  -- a sector that can be taken: the map calls it free, on an open track; a list after the first (`later`) passes over sector 0
  unfoldable pub takable : (later : Bool) → Place → Bool
  takable later p = free n d p && (open_track p.track.0 && not (later && eqb p.sector.0 0))

  -- the first of them, else 21
  unfoldable pub seek : (later : Bool) → Outcome Spot
  seek later = found (first_of (λ (q : Spot). takable later q.place) spots) NoSpace

  -- the disk with a sector's bit in the map made v: 1 free, 0 in use
  unfoldable pub marked : (v : ℕ) → Place → List ℕ
  marked v p =
      let w = with_bit (p.sector.0 + (16 - n)) v (map_word n d p.track.0) in
      put (start n vtoc + (56 + 4 * p.track.0)) (w / 256 ∷ w % 256 ∷ []) d

-- the disk with a sector taken: its bit is 0, and last track and direction are as the search left them
unfoldable pub taken : ℕ → List ℕ → Spot → List ℕ
taken n d q = put (start n vtoc + 48) (q.place.track.0 ∷ q.direction ∷ []) (marked n d 0 q.place)

-- one sector: where it is, and the disk after
unfoldable pub take_one : ℕ → (later : Bool) → List ℕ → Outcome (Place × List ℕ)
take_one n later d = seek n d later >>= λ q. Ok (q.place, taken n d q)

-- the disk with some sectors called free, one after the other
unfoldable pub freed : ℕ → List Place → List ℕ → List ℕ
freed n ps d = foldl (λ (e : List ℕ) (p : Place). marked n e 1 p) d ps
