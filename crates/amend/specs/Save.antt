-- Saving and deleting on a flat disk: Req 09. The calls are those of 16 sectors a track, which is n.
use Rattle.std.specs.Prelude.{Bool, true, false, not, ℕ, zero, suc, ◌+◌, ◌-◌, ◌/◌, min, length, take, drop, leb}
use mathlib.Core.List.{List, [], ◌∷◌, ◌++◌, flat_map, foldl}
use Rattle.lists.specs.Fill.{padded, put}
use Rattle.lists.specs.Same.{same}
use Rattle.lists.specs.Select.{any}
use Rattle.lists.specs.Words.{le2}
use Rattle.std.specs.Prelude.{Ok}
use Rattle.outcome.specs.declared.Refusal.TheVariants.{UnwritableName, NameTaken, NoSpace}
use Rattle.outcome.specs.Outcome.{Outcome, ◌>>=◌, ◌>>◌, require}
use Rattle.disk.specs.declared.Place.{Place}
use Rattle.disk.specs.Disk.{place, start}
use Rattle.catalog.specs.Catalog.{entry_from, shown}
use Rattle.files.specs.Contents.{File, Contents, max_pairs, place_bytes}
use Rattle.records.specs.Records.{entry_record, file_record}
use Rattle.holders.specs.Holders.{sectors_of}
use Rattle.amend.specs.Lines.{savable, open_line, line_of, tidy}
use Rattle.amend.specs.Search.{take_one, freed}

-- ---- what a file needs
-- data sectors for k bytes: address and length stand before them
abbrev pub data_for : ℕ → ℕ
data_for k = (4 + k + 255) / 256

-- lists for m data sectors
abbrev pub lists_for : ℕ → ℕ
lists_for m = (m + 121) / 122

-- ---- the sectors of a save, in the order in which they are taken: a list, its data, the next list, ..
-- a list and the data sectors that it names
pub record Part : Type 0 where
  pub list : Place
  pub pairs : List Place

-- m data sectors, and the disk after
unfoldable pub take_data : ℕ → (m : ℕ) → List ℕ → Outcome (List Place × List ℕ)
take_data n zero d = Ok ([], d)
take_data n (suc m) d = take_one n false d >>= λ r. take_data n m r.1 >>= λ s. Ok (r.0 ∷ s.0, s.1)

-- k lists for m data sectors; `later` after the first
unfoldable pub take_parts : ℕ → (k m : ℕ) (later : Bool) → List ℕ → Outcome (List Part × List ℕ)
take_parts n zero m later d = Ok ([], d)
take_parts n (suc k) m later d =
    take_one n later d >>= λ r.
    take_data n (min max_pairs m) r.1 >>= λ s.
    take_parts n k (m - max_pairs) true s.1 >>= λ t.
    Ok (record { list = r.0; pairs = s.0 } ∷ t.0, t.1)

-- all of them for k bytes
unfoldable pub take_for : ℕ → (k : ℕ) → List ℕ → Outcome (List Part × List ℕ)
take_for n k d = take_parts n (lists_for (data_for k)) (data_for k) false d

-- ---- what is written
-- a sector's 256 bytes
pub record Write : Type 0 where
  pub place : Place
  pub bytes : List ℕ

-- the first list; 0/0 where there is none
abbrev pub first_list : List Part → Place
first_list [] = place 0 0
first_list (g ∷ gs) = g.list

-- all sectors, in the order in which they were taken
abbrev pub sectors_in : List Part → List Place
sectors_in gs = flat_map (λ (g : Part). g.list ∷ g.pairs) gs

-- all data sectors
abbrev pub data_of : List Part → List Place
data_of gs = flat_map (λ (g : Part). g.pairs) gs

-- a list sector: 1-2 the next list, 5-6 the pairs of earlier lists, from 12 its pairs; all else zero
unfoldable pub list_sector : (next : Place) (before : ℕ) → List Place → List ℕ
list_sector next before ps =
    padded 256 (0 ∷ next.track.0 ∷ next.sector.0 ∷ 0 ∷ 0 ∷ (le2 before ++ (0 ∷ 0 ∷ 0 ∷ 0 ∷ 0 ∷ flat_map place_bytes ps)))

-- the lists, the first with so many pairs before it
unfoldable pub list_writes : ℕ → List Part → List Write
list_writes before [] = []
list_writes before (g ∷ gs) =
    record { place = g.list; bytes = list_sector (first_list gs) before g.pairs } ∷ list_writes (before + length g.pairs) gs

-- the bytes s, 256 to a data sector, and zeros behind them
unfoldable pub data_writes : List Place → List ℕ → List Write
data_writes [] s = []
data_writes (p ∷ ps) s = record { place = p; bytes = padded 256 (take 256 s) } ∷ data_writes ps (drop 256 s)

-- the disk with these sectors written, one after the other
unfoldable pub written : ℕ → List Write → List ℕ → List ℕ
written n ws d = foldl (λ (e : List ℕ) (w : Write). put (start n w.place) w.bytes e) d ws

-- lists and data of a file: address, length, the bytes
unfoldable pub file_writes : List Part → (address : ℕ) (bytes : List ℕ) → List Write
file_writes gs address bytes = list_writes 0 gs ++ data_writes (data_of gs) (file_record address (length bytes) bytes)

-- a new name: no file of the contents c shows it
abbrev pub is_new : Contents → List ℕ → Bool
is_new c name = not (any (λ (f : File). same name (shown f.raw)) c.files)

module _ (n : ℕ) (d : List ℕ) where
  -- ---- saving
  -- a file saved in the line that starts at x, 21 where a search finds nothing: the map, the sectors, and the entry, unlocked Binary, with lists and data counted
  unfoldable pub saved_at : (x : ℕ) (name : List ℕ) (address : ℕ) (bytes : List ℕ) → Outcome (List ℕ)
  saved_at x name address bytes =
      take_for n (length bytes) d >>= λ r.
      Ok
      (put x (entry_record (first_list r.0) 4 false name (length r.0 + length (data_of r.0)))
      (written n (file_writes r.0 address bytes) r.1))

  -- the end of a save: 21 for data over 32,768, for the lines, for the sectors; or the disk after
  abbrev pub stored : (name : List ℕ) (address : ℕ) (bytes : List ℕ) → Outcome (List ℕ)
  stored name address bytes = require (leb (length bytes) 32768) NoSpace >> (open_line n d >>= λ x. saved_at x name address bytes)

  -- a save: 1 to 6, 20, 14, 22, then 21; or the disk after
  unfoldable pub saved : (name : List ℕ) (address : ℕ) (bytes : List ℕ) → Outcome (List ℕ)
  saved name address bytes =
      tidy n d >>= λ c. require (savable name) UnwritableName >> require (is_new c name) NameTaken >> stored name address bytes

  -- ---- deleting
  -- the line that starts at x deleted: list track FFh, the old one in the name's last byte, its lists and data free
  unfoldable pub deleted_at : (x : ℕ) → Outcome (List ℕ)
  deleted_at x =
      sectors_of n d (entry_from d x) >>= λ ps.
      Ok (put (x + 32) ((entry_from d x).list.track.0 ∷ []) (put x (255 ∷ []) (freed n ps d)))

  -- the end of a delete: the last entry of the name, locked or not, else 18; or the disk after
  abbrev pub removed : (name : List ℕ) → Outcome (List ℕ)
  removed name = line_of n d name >>= λ x. deleted_at x

  -- a delete: 1 to 6, 20, 14, 18; or the disk after
  unfoldable pub deleted : (name : List ℕ) → Outcome (List ℕ)
  deleted name = tidy n d >> require (savable name) UnwritableName >> removed name
