-- What is promised of the reader's calls together: document 01, "Return", its lines on the reader. `opened_with (opened a)` is what opening answers,
-- `entry_step a` and `entry_with (opened a)` what the two steps answer, `name_in`, `raw_in`, `data_part` and `next_data` are the parts that a display is lent.
use Rattle.std.specs.Prelude.{Option, Some, None, Ok, Err}
use Rattle.outcome.specs.declared.Refusal.TheVariants.{NotItsReturn}
use Rattle.outcome.specs.Outcome.{Outcome}
use Rattle.std.specs.Prelude.{◌≡◌, ◌↔◌, List, [], ◌∷◌, ◌++◌, ℕ, ◌-◌, ◌<◌, ◌≤◌, length}
use Rattle.lists.specs.Fill.{Bytes}
use Rattle.lists.specs.Every.{Every}
use Rattle.catalog.specs.Catalog.{shown}
use Rattle.files.specs.Contents.{File, Contents, Proper}
use Rattle.files.specs.Survey.{blocks}
use Rattle.archive.specs.Archive.{archive}
use Rattle.archive.specs.Reader.{opened}
use Rattle.reader.specs.declared.Entry.{Entry}
use Rattle.reader.specs.Steps.{opened_with, begins, entry_step, entry_with, name_in, raw_in, data_part, next_data}

-- from block b on, `left` bytes being left, the parts of the data blocks join to xs, and with them the chain ends
pub data Joins (a : List ℕ) : ℕ → ℕ → List ℕ → Type 0 where
  end : Joins a 0 0 []
  part : (b left : ℕ) (xs : List ℕ) → 0 < b → Joins a (next_data a b) (left - 254) xs → Joins a b left (data_part a b left ++ xs)

-- the step at block b answers an entry, and it shows the file f
pub record Shows (step : ℕ → Outcome (Option Entry)) (a : List ℕ) (b : ℕ) (f : File) : Type 0 where
  pub answer : Entry
  pub is : step b ≡ Ok (Some answer)
  pub kind : answer.kind ≡ f.kind
  pub locked : answer.locked ≡ f.locked
  pub name_length : answer.name_length ≡ length (shown f.raw)
  pub name : name_in a b ≡ shown f.raw
  pub raw : raw_in a b ≡ f.raw
  pub count : answer.count ≡ f.count
  pub size : answer.size ≡ length f.bytes
  pub bytes : Joins a answer.first (length f.bytes) f.bytes

-- from block b on, the steps show the files, each once and in order; then they say end, and say it again
pub data Stepped (step : ℕ → Outcome (Option Entry)) (a : List ℕ) : ℕ → List File → Type 0 where
  end : step 0 ≡ Ok None → Stepped step a 0 []
  entry : (b : ℕ) (f : File) (fs : List File) → 0 < b → (s : Shows step a b f) → Stepped step a s.answer.next fs → Stepped step a b (f ∷ fs)

-- a is the archive of the contents c, which are as document 01 has them: any volume byte, files as the catalog gives them, at most 4,096 blocks
abbrev pub ArchiveOf : List ℕ → Contents → Type 0
ArchiveOf a c = Every Proper c.files × (c.volume < 256) × (blocks c ≤ 4096) × (a ≡ archive c)

pub record Reading : Type 0 where
  -- an archive is opened, for these contents and no others, ..
  pub opens : (a : List ℕ) (c : Contents) → Bytes a → ((opened a ≡ Ok c) ↔ ArchiveOf a c)
  -- .. and 13 is answered exactly where there are no such contents
  pub refuses : (a : List ℕ) → Bytes a → ((opened_with (opened a) ≡ Err NotItsReturn) ↔ ((c : Contents) → ArchiveOf a c → ⊥))
  -- from the block that opening answers, the steps show the files
  pub steps : (a : List ℕ) (c : Contents) → Bytes a → opened a ≡ Ok c → Stepped (λ b. Ok (entry_step a b)) a (begins (opened_with (opened a))) c.files
  -- .. and so do the steps that look at all
  pub exact : (a : List ℕ) (c : Contents) → Bytes a → opened a ≡ Ok c → Stepped (entry_with (opened a)) a (begins (opened_with (opened a))) c.files
