-- What the steps of a search promise, over a copy of the VTOC.
use Rattle.std.specs.Prelude.{◌≡◌, Bool, cond, ℕ, zero, suc, Option, Some, None}
use mathlib.Core.List.{List, flat_map}
use Rattle.std.proofs.Math.Option as maybe
use Rattle.disk.specs.declared.Place.{Place}
use Rattle.disk.specs.Disk.{place}
use Rattle.amend.specs.Lines.{first_of}
use Rattle.amend.specs.Search.{Spot, spots_of, to_edge}
use Rattle.allot.specs.declared.Found.{Found}
use Rattle.allot.specs.Table.{marked_in, taken_in, takable_in, seek_in}

-- a sector's bit was made v
pub record MadeBit (v : ℕ) (p : Place) (before after : List ℕ) : Type 0 where
  pub is : after ≡ marked_in 16 before v p

module _ (T : List ℕ) (later : Bool) where
  -- the highest of the first k sectors of track t that can be taken
  unfoldable pub top_of : (t k : ℕ) → Option ℕ
  top_of t zero = None
  top_of t (suc k) = let rest = top_of t k in cond (takable_in T later (place t k)) (Some k) rest

  -- what is found from track t to the disk's edge
  unfoldable pub leg_in : (direction t : ℕ) → maybe.Option Spot
  leg_in dir t = first_of (λ (q : Spot). takable_in T later q.place) (flat_map (spots_of 16) (to_edge dir t))

-- a spot as the code has it
abbrev pub found_at : (t s direction : ℕ) → Found
found_at t s dir = record { place = place t s; direction = dir }

abbrev pub as_found : maybe.Option Spot → Option Found
as_found maybe.none = None
as_found (maybe.some q) = Some (record { place = q.place; direction = q.direction })

-- the table after a search
abbrev pub after_seek : List ℕ → maybe.Option Spot → List ℕ
after_seek T maybe.none = T
after_seek T (maybe.some q) = taken_in 16 T q

-- a track was searched
pub record Topped (T : List ℕ) (later : Bool) (t : ℕ) (r : Option ℕ) : Type 0 where
  pub is : r ≡ top_of T later t 16

-- a leg was
pub record Legged (T : List ℕ) (later : Bool) (dir t : ℕ) (r : Option Found) : Type 0 where
  pub is : r ≡ as_found (leg_in T later dir t)

-- all of the route was
pub record Sought (T : List ℕ) (later : Bool) (r : Option Found) : Type 0 where
  pub is : r ≡ as_found (seek_in T later)

-- .. and what was found was taken
pub record Took (T T' : List ℕ) (later : Bool) (r : Option Found) : Type 0 where
  pub is : r ≡ as_found (seek_in T later)
  pub table : T' ≡ after_seek T (seek_in T later)
