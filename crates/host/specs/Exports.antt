-- What the functions exported to a host promise: docs/HOST-API.md. The number is the result; under a refusal nothing lent changes, the number behind `length` among it.
use Rattle.std.specs.Prelude.{◌≡◌, Bool, cond, not, List, [], ◌∷◌, ℕ, length, eqb}
use Rattle.std.specs.Prelude.{Ok, Err, Option, Some, None}
use Rattle.std.specs.Result.{result_unwrap_or}
use Rattle.outcome.specs.Refusal.{word, refusal_of}
use Rattle.outcome.specs.Outcome.{Outcome, ◌>>=◌, ◌>>◌, number, handed, left_by}
use Rattle.disk.specs.declared.VolumeTableOfContents.{VolumeTableOfContents}
use Rattle.disk.specs.Disk.{per_of, byte_of}
use Rattle.disk.specs.Vtoc.{vtoc, readable, table_of}
use Rattle.files.specs.declared.DiskSurvey.{DiskSurvey}
use Rattle.files.specs.Survey.{survey, blocks}
use Rattle.amend.specs.Amending.{kept}
use Rattle.holders.specs.declared.HolderCounts.{HolderCounts}
use Rattle.holders.specs.Holders.{holding}
use Rattle.archive.specs.Archive.{if_any}
use Rattle.archive.specs.Reader.{opened}
use Rattle.reader.specs.declared.Entry.{Entry}
use Rattle.reader.specs.Steps.{entry_of}
use Rattle.records.specs.Formats.{recognized}

-- a yes/no as a host passes it: 0 is no, anything else is yes
abbrev pub yes : ℕ → Bool
yes b = not (eqb b 0)

-- the number behind `length`: how many bytes (or other elements) were written; under a refusal the one that was there
abbrev pub length_by : {A : Type 0} → Outcome (List A) → ℕ → ℕ
length_by (Err r) n = n
length_by (Ok w) n = length w

-- an export that hands over the bytes of o: the space goes from `before` to `after`, the number behind `length` from n to m, and r is the result
pub record Exports {A : Type 0} (o : Outcome (List A)) (before after : List A) (n m r : ℕ) : Type 0 where
  pub result : r ≡ number (handed o before)
  pub left : after ≡ left_by (handed o before) before
  pub length : m ≡ length_by (handed o before) n

-- one that hands over numbers, into elements that go from `before` to `after`
pub record Fields (o : Outcome (List ℕ)) (before after : List ℕ) (r : ℕ) : Type 0 where
  pub result : r ≡ number (handed o before)
  pub left : after ≡ left_by (handed o before) before

-- .. and the answer r of the function behind it, before its number is told
pub record Puts (o : Outcome (List ℕ)) (before after : List ℕ) (r : Outcome (Unit {0})) : Type 0 where
  pub answer : r ≡ (handed o before >> Ok tt)
  pub left : after ≡ left_by (handed o before) before

-- one that changes the disk in place: the disk of o, and under a refusal the disk as it was
pub record Amends (o : Outcome (List ℕ)) (before after : List ℕ) (r : ℕ) : Type 0 where
  pub result : r ≡ number o
  pub disk : after ≡ kept before o

-- how an answer is told: its number, and how many were written behind `length` where it is accepted
pub record Told (h : Outcome ℕ) (n m r : ℕ) : Type 0 where
  pub result : r ≡ number h
  pub length : m ≡ result_unwrap_or h n

-- the letters of the word for a number, none where no refusal has it
unfoldable pub letters_of : ℕ → List ℕ
letters_of n = elim (refusal_of n) [ Ok r ↦ word r | Err u ↦ [] ]

-- the numbers of a table, with the byte of its direction
abbrev pub vtoc_values : VolumeTableOfContents → ℕ → List ℕ
vtoc_values v b =
    v.track_number_of_first_catalog_sector
    ∷ v.sector_number_of_first_catalog_sector
    ∷ v.release_number_of_dos
    ∷ v.diskette_volume_number
    ∷ v.maximum_number_of_track_sector_pairs
    ∷ v.last_track_where_sectors_were_allocated
    ∷ b
    ∷ v.number_of_tracks_per_diskette
    ∷ v.number_of_sectors_per_track
    ∷ v.number_of_bytes_per_sector
    ∷ v.free
    ∷ v.used
    ∷ v.percent_used
    ∷ []

-- the 13 numbers of a VTOC: 1, 2
unfoldable pub vtoc_numbers : List ℕ → Outcome (List ℕ)
vtoc_numbers d = let n = per_of d in readable n d >> Ok (vtoc_values (table_of n d) (byte_of n d vtoc 49))

-- the 7 numbers of a survey: 1 to 6
abbrev pub survey_fields : DiskSurvey → List ℕ
survey_fields s = s.volume ∷ s.entries ∷ s.free ∷ s.used ∷ s.percent_used ∷ s.archive_blocks ∷ s.links ∷ []

unfoldable pub survey_numbers : List ℕ → Outcome (List ℕ)
survey_numbers d = survey (per_of d) d >>= λ s. Ok (survey_fields s)

-- the 5 numbers of the holders: 1 to 6
abbrev pub holder_fields : HolderCounts → List ℕ
holder_fields h = h.unheld ∷ h.held_once ∷ h.shared ∷ h.held_free ∷ cond h.clean 1 0 ∷ []

unfoldable pub holder_numbers : List ℕ → Outcome (List ℕ)
holder_numbers d = holding (per_of d) d >>= λ h. Ok (holder_fields h)

-- the 3 numbers of an archive that is opened: 13
unfoldable pub open_numbers : List ℕ → Outcome (List ℕ)
open_numbers a = opened a >>= λ c. Ok (c.volume ∷ if_any c.files 1 ∷ blocks c ∷ [])

-- the 8 numbers of an entry, zeros where there is none: 13
abbrev pub entry_fields : Option Entry → List ℕ
entry_fields (Some e) = 1 ∷ e.next ∷ e.first ∷ e.kind ∷ e.locked ∷ e.name_length ∷ e.count ∷ e.size ∷ []
entry_fields None = 0 ∷ 0 ∷ 0 ∷ 0 ∷ 0 ∷ 0 ∷ 0 ∷ 0 ∷ []

unfoldable pub entry_numbers : List ℕ → ℕ → Outcome (List ℕ)
entry_numbers a b = opened a >>= λ c. Ok (entry_fields (entry_of 1 c.files b))

-- 1 for DOS 3.3, else 0: 17
unfoldable pub format_numbers : List ℕ → Outcome (List ℕ)
format_numbers d = recognized d >>= λ found. Ok (cond found 1 0 ∷ [])
