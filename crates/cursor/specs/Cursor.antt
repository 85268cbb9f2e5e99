-- A reader that holds the archive and the block at which it stands, and its steps. Document 01, "Return": its steps give the load's entries, each once and in
-- order, and after the last it says end.
use Rattle.std.specs.Prelude.{Option, Some, None, Ok}
use Rattle.std.specs.Prelude.{◌≡◌, List, [], ◌∷◌, ℕ}
use Rattle.lists.specs.Fill.{Bytes}
use Rattle.files.specs.Contents.{File, Contents}
use Rattle.archive.specs.Reader.{opened}
use Rattle.reader.specs.declared.Entry.{Entry}
use Rattle.reader.specs.Steps.{opened_with, begins, entry_step}
use Rattle.reader.specs.Claims.{Shows}
use Rattle.cursor.specs.declared.Reader.{Reader}

-- the entry at which r stands
abbrev pub shown_by : Reader → Option Entry
shown_by r = entry_step r.archive.now r.block

-- the block behind an entry; 0 behind the end
abbrev pub next_of : Option Entry → ℕ
next_of None = 0
next_of (Some e) = e.next

-- r after a step: at the next entry, of the same archive
abbrev pub moved : Reader → Reader
moved r = record { archive = r.archive; block = next_of (shown_by r) }

-- from r on, the steps show the files, each once and in order; then they say end, and say it again
pub data Goes : Reader → List File → Type 0 where
  end : (r : Reader) → shown_by r ≡ None → shown_by (moved r) ≡ None → Goes r []
  entry : (r : Reader) (f : File) (fs : List File) → Shows (λ b. Ok (entry_step r.archive.now b)) r.archive.now r.block f → Goes (moved r) fs → Goes r (f ∷ fs)

-- the stepping law, as `Reading` (reader) has it of the cursor: from the block that opening gives, a reader goes through the files
abbrev pub Stepping : Type 0
Stepping =
    (r : Reader) (c : Contents) → Bytes r.archive.now → opened r.archive.now ≡ Ok c → r.block ≡ begins (opened_with (opened r.archive.now)) → Goes r c.files
