-- The files of a disk: their track/sector lists (01: thread), their bytes, and all that a disk holds (01: load). Document 01, "Track/sector list" under
-- Records, "Thread" and "Load" under Modules, and under "Return" what a load is.
use Rattle.std.specs.Prelude.{◌≡◌, Bool, cond, not, ◌||◌, ℕ, ◌+◌, ◌*◌, ◌<◌, length, get_or, take, drop, leb, eqb}
use mathlib.Core.List.{List, [], ◌∷◌, map, flat_map}
use Rattle.std.proofs.Math.Option.{Option, none, some}
use Rattle.lists.specs.Fill.{Bytes, below}
use Rattle.lists.specs.Select.{all, take_while}
use Rattle.lists.specs.Words.{word_at}
use Rattle.std.specs.Prelude.{Ok}
use Rattle.outcome.specs.declared.Refusal.TheVariants.{OffDisc, CutLink}
use Rattle.outcome.specs.Outcome.{Outcome, ◌>>=◌, ◌>>◌, require, each}
use Rattle.disk.specs.declared.Place.{Place}
use Rattle.disk.specs.Disk.{place, byte_of, link_of, bytes_of, on_disk, sectors, sized}
use Rattle.disk.specs.Vtoc.{vtoc}
use Rattle.disk.specs.Chain.{walk}
use Rattle.catalog.specs.Catalog.{Entry, catalog, shown, kind_of}

-- what a file says of itself: type, lock, the 30 name bytes as they are cut (Req 07), sector count, bytes. Its shown name is `shown` of the name bytes.
pub record File : Type 0 where
  pub kind : ℕ
  pub locked : ℕ
  pub raw : List ℕ
  pub count : ℕ
  pub bytes : List ℕ

-- all that a disk holds (01: load): the volume byte, and the files in catalog order
pub record Contents : Type 0 where
  pub volume : ℕ
  pub files : List File

-- What holds of every file of a disk, and is all that is asked of one that is read back from an archive (01, Return: "A load here has ..").
pub record Proper (f : File) : Type 0 where
  pub kind : kind_of f.kind ≡ f.kind
  pub locked : f.locked < 2
  pub raw_length : length f.raw ≡ 30
  pub raw_bytes : Bytes f.raw
  pub letters : (k : ℕ) → get_or (shown f.raw) k 0 < 128
  pub count : f.count < 65536
  pub bytes : Bytes f.bytes
  pub binary_only : (f.kind ≡ 4 → ⊥) → f.bytes ≡ []

-- the pairs that a list can have: to the end of its sector (Req 05; BAD has 122, the Rust 121)
abbrev pub max_pairs : ℕ
max_pairs = 122

-- a place in two bytes: track, sector
abbrev pub place_bytes : Place → List ℕ
place_bytes p = p.track.0 ∷ p.sector.0 ∷ []

-- a pair with track zero is none
abbrev pub is_pair : Place → Bool
is_pair p = not (eqb p.track.0 0)

-- a file's bytes, of its sectors joined: of a Binary (4) the stated length from byte 4 on where that fits, else all; of other types none
unfoldable pub bytes_in : ℕ → List ℕ → List ℕ
bytes_in kind s =
    let stated = word_at s 2 in
    cond (eqb kind 4) (cond (leb (4 + stated) (length s)) (take stated (drop 4 s)) s) []

module _ (n : ℕ) (d : List ℕ) where
  -- the link of a list: track 0 ends the chain
  unfoldable pub next_list : Place → Option Place
  next_list p = cond (eqb (byte_of n d p 1) 0) none (some (link_of n d p))

  -- the link of a list ends the chain, or has a sector
  unfoldable pub whole_link : Place → Bool
  whole_link p = eqb (byte_of n d p 1) 0 || not (eqb (byte_of n d p 2) 0)

  -- a list's own test: 5 where its link has a track and no sector
  unfoldable pub sound_list : Place → Outcome (Unit {0})
  sound_list p = require (whole_link p) CutLink

  -- the track/sector lists from p on: at each link 5, 3, 4
  unfoldable pub list_walk : Place → Outcome (List Place)
  list_walk p = walk n sound_list next_list (sectors n + 1) [] p

  -- those of an entry (01: thread)
  abbrev pub lists : Entry → Outcome (List Place)
  lists e = list_walk e.list

  -- pair i of a list
  abbrev pub pair_at : Place → ℕ → Place
  pair_at p i = place (byte_of n d p (12 + 2 * i)) (byte_of n d p (13 + 2 * i))

  -- the pairs of a list: up to the first zero track, and at most max_pairs
  unfoldable pub pairs_of : Place → List Place
  pairs_of p = take_while is_pair (map (pair_at p) (below max_pairs))

  -- the file of an entry: its lists, then 3 where a pair is not on the disk, whatever the type
  unfoldable pub file_of : Entry → Outcome File
  file_of e =
      lists e >>= λ ls.
      require (all (on_disk n) (flat_map pairs_of ls)) OffDisc >>
      Ok
      (record {
        kind = e.kind;
        locked = e.locked;
        raw = e.raw;
        count = e.count;
        bytes = bytes_in e.kind (flat_map (bytes_of n d) (flat_map pairs_of ls));
      })

  -- the disk's contents: 1, 2, the pages, then entry by entry its file
  unfoldable pub contents : Outcome Contents
  contents = catalog n d >>= λ es. each file_of es >>= λ fs. Ok (record { volume = byte_of n d vtoc 6; files = fs })

  -- the pairs of one list, asked for by its location: 1, 3; the pairs are not followed
  unfoldable pub pairs_at : Place → Outcome (List Place)
  pairs_at p = sized n d >> require (on_disk n p) OffDisc >> Ok (pairs_of p)

  -- .. as bytes: track and sector of each
  unfoldable pub pair_bytes : Place → Outcome (List ℕ)
  pair_bytes p = pairs_at p >>= λ ps. Ok (flat_map place_bytes ps)
