-- The pairs of a list as structs in a lent run. Document 01, "Track/sector list": they are handed over in a lent run of pairs; 1, 3, 12.
use Rattle.std.specs.Prelude.{cond, List, map, ℕ, length, leb, ltb}
use Rattle.std.specs.Prelude.{Ok}
use Rattle.outcome.specs.declared.Refusal.TheVariants.{TrayShort}
use Rattle.outcome.specs.Outcome.{Outcome, ◌>>=◌, ◌>>◌, require}
use Rattle.disk.specs.declared.Place.{Place}
use Rattle.files.specs.Contents.{max_pairs, pair_at, pairs_at}
use Rattle.pairs.specs.declared.TrackSectorPair.{TrackSectorPair}

-- a place, with the Rust's names for its numbers
abbrev pub as_pair : Place → TrackSectorPair
as_pair p = record { track_number = p.track.0; sector_number = p.sector.0 }

abbrev pub no_pair : TrackSectorPair
no_pair = record { track_number = 0; sector_number = 0 }

-- what fits into room for so many; else 12
abbrev pub fitting : {A : Type 0} → ℕ → Outcome (List A) → Outcome (List A)
fitting room o = o >>= λ w. require (leb (length w) room) TrayShort >> Ok w

module _ (n : ℕ) (d : List ℕ) where
  -- pair i of the list at p, as a list has at most max_pairs
  abbrev pub pair_in : Place → ℕ → TrackSectorPair
  pair_in p i = cond (ltb i max_pairs) (as_pair (pair_at n d p i)) no_pair

  -- the pairs of the list at p: 1, 3
  unfoldable pub pair_run : Place → Outcome (List TrackSectorPair)
  pair_run p = pairs_at n d p >>= λ ps. Ok (map as_pair ps)
