-- The steps of a save and a delete: the lines looked along, and the sectors of a file called free in a copy of the VTOC.
use Rattle.std.specs.Prelude.{◌≡◌, Bool, true, false, cond, not, ◌&&◌, ℕ, zero, suc, ◌+◌, ◌*◌, ◌≤◌, length, replicate}
use mathlib.Core.List.{List, flat_map, foldl}
use Rattle.std.proofs.Math.Option as maybe
use Rattle.std.specs.Option.{option_or}
use Rattle.lists.specs.Fill.{placed}
use Rattle.std.specs.Prelude.{Ok, Err, Option, Some, None}
use Rattle.outcome.specs.declared.Refusal.TheVariants.{NoSpace}
use Rattle.disk.specs.declared.Place.{Place}
use Rattle.disk.specs.Disk.{start, bytes_of}
use Rattle.disk.specs.Vtoc.{vtoc}
use Rattle.catalog.specs.Catalog.{entry_from, pages}
use Rattle.files.specs.Contents.{list_walk}
use Rattle.records.specs.Records.{entry_record}
use Rattle.holders.specs.Holders.{with_pairs, sectors_of}
use Rattle.amend.specs.Lines.{first_of, last_of, savable, is_named, in_use, starts, open_line}
use Rattle.amend.specs.Save.{data_for, lists_for, deleted_at}
use Rattle.allot.specs.Table.{mark_on}
use Rattle.filing.specs.Filing.{place_in, filed}
use Rattle.saving.specs.declared.Sight.{Sight}

-- ---- the lines looked along
-- where a line starts, if one was found
abbrev pub found_line : maybe.Option ℕ → Option ℕ
found_line maybe.none = None
found_line (maybe.some x) = Some x

-- the line of the name, and the line that is not in use, as a look finds them
abbrev pub sight : (line room : maybe.Option ℕ) → Sight
sight a b = record { line = found_line a; room = found_line b }

-- a line that is not in use
abbrev pub idle : List ℕ → ℕ → Bool
idle d x = not (in_use d x)

module _ (d name : List ℕ) where
  -- a line in use that shows the name
  abbrev pub bears : ℕ → Bool
  bears x = in_use d x && is_named name (entry_from d x)

  -- the last of the lines xs with the name, and the first that is not in use
  unfoldable pub sight_of : List ℕ → Sight
  sight_of xs = sight (last_of bears xs) (first_of (idle d) xs)

  -- with the line x more, behind them
  unfoldable pub see_line : Sight → ℕ → Sight
  see_line s x = record { line = cond (bears x) (Some x) s.line; room = option_or s.room (cond (idle d x) (Some x) None) }

  -- with the first i lines of a page more
  unfoldable pub see_lines : Place → (i : ℕ) → Sight → Sight
  see_lines p zero s = s
  see_lines p (suc i) s = see_line (see_lines p i s) (start 16 p + (11 + 35 * i))

  -- with a page more
  unfoldable pub see_page : Sight → Place → Sight
  see_page s p = see_lines p 7 s

  -- a line was looked at
  pub record LineSeen (before : Sight) (x : ℕ) (r : Sight) : Type 0 where
    pub is : r ≡ see_line before x

  -- a page was
  pub record PageSeen (before : Sight) (p : Place) (r : Sight) : Type 0 where
    pub is : r ≡ see_page before p

  -- the lines of the disk were
  pub record Seen (r : Sight) : Type 0 where
    pub is : (ps : List Place) → pages 16 d ≡ Ok ps → r ≡ sight_of (starts 16 ps)

-- the pages were read before
pub record Paged (d : List ℕ) : Type 0 where
  pub places : List Place
  pub is : pages 16 d ≡ Ok places

-- ---- sectors called free
-- some sectors, one after the other; a place that is not on the disk is passed over
unfoldable pub frees : List ℕ → List Place → List ℕ
frees T ps = foldl (λ (U : List ℕ) (p : Place). mark_on U 1 p) T ps

pub record PairsFreed (ps : List Place) (before after : List ℕ) : Type 0 where
  pub is : after ≡ frees before ps

pub record ListFreed (d : List ℕ) (p : Place) (before after : List ℕ) : Type 0 where
  pub is : after ≡ frees before (with_pairs 16 d p)

-- the lists from p on were followed before
pub record Linked (d : List ℕ) (p : Place) : Type 0 where
  pub lists : List Place
  pub is : list_walk 16 d p ≡ Ok lists

pub record ListsFreed (d : List ℕ) (p : Place) (before after : List ℕ) : Type 0 where
  pub is : (ls : List Place) → list_walk 16 d p ≡ Ok ls → after ≡ frees before (flat_map (with_pairs 16 d) ls)

-- the VTOC as it is copied: zeros where the disk is too short to have one
unfoldable pub vtoc_copy : List ℕ → List ℕ
vtoc_copy d = placed 0 (bytes_of 16 d vtoc) (replicate 256 0)

-- a copy of it was made
pub record Copied (d r : List ℕ) : Type 0 where
  pub is : r ≡ vtoc_copy d

-- ---- the ends of the calls
-- the line from x on lies on the disk, and the sectors of its entry are given
pub record Erasable (d : List ℕ) (x : ℕ) : Type 0 where
  pub size : length d ≡ 143360
  pub fits : x + 35 ≤ length d
  pub places : List Place
  pub is : sectors_of 16 d (entry_from d x) ≡ Ok places

-- it was deleted
pub record Erased (d : List ℕ) (x : ℕ) (after : List ℕ) : Type 0 where
  pub is : deleted_at 16 d x ≡ Ok after

-- the lines were looked along for a file of the name: the line that it will fill, or 21
pub record Seated (d name : List ℕ) (s : Sight) : Type 0 where
  pub size : length d ≡ 143360
  pub named : savable name ≡ true
  pub full : s.room ≡ None → open_line 16 d ≡ Err NoSpace
  pub room : (x : ℕ) → s.room ≡ Some x → (open_line 16 d ≡ Ok x) × (x + 35 ≤ length d)

-- a file can be stored in the line from x on, as far as sectors are found
pub record Storable (d : List ℕ) (x : ℕ) (name bytes : List ℕ) : Type 0 where
  pub size : length d ≡ 143360
  pub fits : x + 35 ≤ length d
  pub named : savable name ≡ true
  pub short : length bytes ≤ 32768

-- the entry of a file was put in from x on, its first list being the first place
pub record EntryPut (x : ℕ) (places name : List ℕ) (count : ℕ) (before after : List ℕ) : Type 0 where
  pub is : after ≡ placed x (entry_record (place_in places 0) 4 false name count) before

-- the sectors of a file were written, and its entry
pub record FilePut (x : ℕ) (places name : List ℕ) (address : ℕ) (bytes before after : List ℕ) : Type 0 where
  pub is : after ≡ placed x (entry_record (place_in places 0) 4 false name (lists_for (data_for (length bytes)) + data_for (length bytes))) (filed places address bytes before)
