-- Saves and deletes in a row, and what they come to: the claim of Req 09.
use Rattle.std.specs.Prelude.{◌≡◌, ◌⊎◌, Bool, true, false, not, ◌&&◌, ◌||◌, List, [], ◌∷◌, map, ℕ, ◌+◌, ◌/◌, ◌<◌, ◌≤◌, length, leb}
use Rattle.std.proofs.Math.Option.{Option}
use Rattle.lists.specs.Fill.{Bytes}
use Rattle.lists.specs.Every.{Every}
use Rattle.lists.specs.Select.{any, among}
use Rattle.std.specs.Prelude.{Ok, Err}
use Rattle.outcome.specs.declared.Refusal.{Refusal}
use Rattle.outcome.specs.declared.Refusal.TheVariants.{UnwritableName, NotOnRoll, NoSpace, NameTaken}
use Rattle.outcome.specs.Outcome.{Outcome, ◌>>=◌, ◌>>◌, require}
use Rattle.disk.specs.declared.Place.{Place}
use Rattle.disk.specs.Disk.{start, on_disk, number_of, byte_of, bytes_of}
use Rattle.disk.specs.Vtoc.{vtoc}
use Rattle.catalog.specs.Catalog.{entry_from}
use Rattle.files.specs.Contents.{File, Contents, contents}
use Rattle.files.specs.Survey.{fetched}
use Rattle.records.specs.Records.{name_field}
use Rattle.holders.specs.Holders.{sectors_of, free}
use Rattle.amend.specs.Lines.{savable, lines, open_line, line_of, tidy, present, is_open, holds_name, fill_first, empty_last}
use Rattle.amend.specs.Search.{Spot, takable, seek}
use Rattle.amend.specs.Save.{data_for, lists_for, sectors_in, take_for, saved, deleted}

-- a save or a delete, as it is asked for
pub data Op : Type 0 where
  save : (name : List ℕ) (address : ℕ) (bytes : List ℕ) → Op
  delete : (name : List ℕ) → Op

-- what is asked for is bytes
abbrev pub OfBytes : Op → Type 0
OfBytes (save name address bytes) = Bytes bytes
OfBytes (delete name) = Unit {0}

-- ---- on the disk
-- the answer: a refusal, or the disk after
abbrev pub amend : ℕ → List ℕ → Op → Outcome (List ℕ)
amend n d (save name address bytes) = saved n d name address bytes
amend n d (delete name) = deleted n d name

-- an answer without what it gives: a refusal, or none
abbrev pub bare : {A : Type 0} → Outcome A → Outcome (Unit {0})
bare o = o >> Ok tt

-- a refused one leaves the disk as it was
abbrev pub kept : List ℕ → Outcome (List ℕ) → List ℕ
kept d (Err r) = d
kept d (Ok e) = e

-- one after the other
unfoldable pub run : ℕ → List ℕ → List Op → List ℕ
run n d [] = d
run n d (op ∷ ops) = run n (kept d (amend n d op)) ops

-- ---- on the plain list of lines
-- the file that a save makes: Binary, not locked, with the 30 name bytes of the entry writer
abbrev pub file_saved : List ℕ → List ℕ → File
file_saved name bytes =
    record { kind = 4; locked = 0; raw = name_field name; count = lists_for (data_for (length bytes)) + data_for (length bytes); bytes = bytes }

-- a save fills the first line that holds nothing, a delete empties the named one
abbrev pub planned : Op → List (Option File) → List (Option File)
planned (save name address bytes) ls = fill_first (file_saved name bytes) ls
planned (delete name) ls = empty_last name ls

-- a refused one leaves the list as it was
abbrev pub planned_by : Outcome (List ℕ) → Op → List (Option File) → List (Option File)
planned_by (Err r) op ls = ls
planned_by (Ok e) op ls = planned op ls

-- one after the other, beside the disk, which tells what was refused
unfoldable pub plan : ℕ → List ℕ → List Op → List (Option File) → List (Option File)
plan n d [] ls = ls
plan n d (op ∷ ops) ls = plan n (kept d (amend n d op)) ops (planned_by (amend n d op) op ls)

-- what the plain list alone refuses: 14, then 18; or 14, 22, and 21 for the data and for the lines
abbrev pub foreseen : Op → List (Option File) → Outcome (Unit {0})
foreseen (save name address bytes) ls =
    require (savable name) UnwritableName >> require (not (any (holds_name name) ls)) NameTaken >> require (leb (length bytes) 32768) NoSpace >>
    require (any is_open ls) NoSpace
foreseen (delete name) ls = require (savable name) UnwritableName >> require (any (holds_name name) ls) NotOnRoll

-- the sectors that a save takes; a delete takes none
abbrev pub needed : ℕ → List ℕ → Op → Outcome (List Place)
needed n d (save name address bytes) = take_for n (length bytes) d >>= λ r. Ok (sectors_in r.0)
needed n d (delete name) = Ok []

-- the sectors that a delete gives back; a save gives none
abbrev pub released : ℕ → List ℕ → Op → Outcome (List Place)
released n d (save name address bytes) = Ok []
released n d (delete name) = line_of n d name >>= λ x. sectors_of n d (entry_from d x)

-- the line that a save fills, or a delete empties
abbrev pub line_for : ℕ → List ℕ → Op → Outcome ℕ
line_for n d (save name address bytes) = open_line n d
line_for n d (delete name) = line_of n d name

-- ---- the claims
-- a disk of bytes that is read, and is clean
pub record Clean (n : ℕ) (d : List ℕ) : Type 0 where
  pub bytes : Bytes d
  pub has : Contents
  pub is : tidy n d ≡ Ok has

-- byte k of the VTOC is not last track, direction or of the map
abbrev pub Fixed : ℕ → Type 0
Fixed k = (k < 48) ⊎ (((50 ≤ k) × (k < 56)) ⊎ (196 ≤ k))

-- the sector p is one of these
abbrev pub is_in : ℕ → List Place → Place → Bool
is_in n ps p = among (number_of n p) (map (number_of n) ps)

-- e is what an accepted op makes of the disk d: the VTOC, the entry's page and newly taken sectors may differ, and nothing else
pub record Touches (n : ℕ) (d : List ℕ) (op : Op) (e : List ℕ) : Type 0 where
  -- the line, the sectors taken, the sectors given back
  pub line : ℕ
  pub line_is : line_for n d op ≡ Ok line
  pub new : List Place
  pub new_is : needed n d op ≡ Ok new
  pub gone : List Place
  pub gone_is : released n d op ≡ Ok gone
  pub size : length e ≡ length d
  -- any other sector is as it was
  pub rest : (p : Place) → on_disk n p ≡ true → (p ≡ vtoc → ⊥) → (number_of n p ≡ line / 256 → ⊥) → is_in n new p ≡ false → bytes_of n e p ≡ bytes_of n d p
  -- so is the page but for the line's 35 bytes, ..
  pub page : (p : Place) → on_disk n p ≡ true → number_of n p ≡ line / 256 → (k : ℕ) → k < 256
      → (start n p + k < line) ⊎ (line + 35 ≤ start n p + k) → byte_of n e p k ≡ byte_of n d p k
  -- .. and the VTOC but for last track, direction and the map, ..
  pub table : (k : ℕ) → k < 256 → Fixed k → byte_of n e vtoc k ≡ byte_of n d vtoc k
  -- .. in which just the sectors taken are no longer free, and those given back are
  pub bits : (p : Place) → on_disk n p ≡ true → free n e p ≡ ((free n d p && not (is_in n new p)) || is_in n gone p)

-- what the search finds can be taken, and it finds nothing only where nothing can be taken
pub record Searches (n : ℕ) (d : List ℕ) (later : Bool) : Type 0 where
  pub finds : (q : Spot) → seek n d later ≡ Ok q → (on_disk n q.place ≡ true) × (takable n d later q.place ≡ true)
  pub fails : (r : Refusal) → seek n d later ≡ Err r → (r ≡ NoSpace) × ((p : Place) → on_disk n p ≡ true → takable n d later p ≡ false)

-- Req 09, for disks of n sectors a track
pub record AmendingOf (n : ℕ) : Type 0 where
  -- the contents of a disk are its lines, the empty ones left out
  pub lined : (d : List ℕ) (c : Contents) → contents n d ≡ Ok c
      → (ls : List (Option File)) × (lines n d ≡ Ok ls) × (c.files ≡ present ls)
  -- every list of saves and deletes leaves a clean disk clean, and its lines are those of the plain list
  pub stays : (d : List ℕ) → Clean n d → (ops : List Op) → Every OfBytes ops → Clean n (run n d ops)
  pub follows : (d : List ℕ) → Clean n d → (ops : List Op) → Every OfBytes ops → (ls : List (Option File)) → lines n d ≡ Ok ls
      → lines n (run n d ops) ≡ Ok (plan n d ops ls)
  -- so its contents are the volume as it was, and the files of that list
  pub contains : (d : List ℕ) → Clean n d → (ops : List Op) → Every OfBytes ops → (ls : List (Option File)) → lines n d ≡ Ok ls
      → contents n (run n d ops) ≡ Ok (record { volume = byte_of n d vtoc 6; files = present (plan n d ops ls) })
  -- what was saved is fetched by its name, byte for byte
  pub fetches : (d : List ℕ) → Clean n d → (name : List ℕ) (address : ℕ) (bytes : List ℕ) → Bytes bytes → (e : List ℕ) → saved n d name address bytes ≡ Ok e
      → fetched n e name ≡ Ok bytes
  -- one op on a clean disk: what the plain list refuses is refused so; else it is refused only where the search finds no sector, as 21
  pub answers : (d : List ℕ) → Clean n d → (op : Op) → (ls : List (Option File)) → lines n d ≡ Ok ls
      → (r : Refusal) → amend n d op ≡ Err r
      → (foreseen op ls ≡ Err r) ⊎ ((foreseen op ls ≡ Ok tt) × (needed n d op ≡ Err r) × (r ≡ NoSpace))
  pub accepts : (d : List ℕ) → Clean n d → (op : Op) → (ls : List (Option File)) → lines n d ≡ Ok ls
      → (e : List ℕ) → amend n d op ≡ Ok e → foreseen op ls ≡ Ok tt
  pub searches : (d : List ℕ) (later : Bool) → Searches n d later
  -- only the VTOC, the entry's page and newly taken sectors change
  pub touches : (d : List ℕ) → Clean n d → (op : Op) → OfBytes op → (e : List ℕ) → amend n d op ≡ Ok e → Touches n d op e

-- .. and that is 16 on the disks that are saved to
abbrev pub Amending : Type 0
Amending = AmendingOf 16
