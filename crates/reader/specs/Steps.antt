-- The reader's answers, and its steps. Document 01, "Return": its steps give the load's entries, each once and in order, and after the last it says end.
use Rattle.std.specs.Prelude.{◌≡◌, Bool, cond, ◌&&◌, List, [], ◌∷◌, ℕ, ◌+◌, ◌*◌, ◌-◌, ◌/◌, length, get_or, take, drop, ltb, eqb}
use Rattle.lists.specs.Words.{word_at}
use Rattle.std.specs.Prelude.{Option, Some, None, Ok, Err}
use Rattle.outcome.specs.Outcome.{Outcome, ◌>>=◌}
use Rattle.catalog.specs.Catalog.{shown}
use Rattle.files.specs.Contents.{File, Contents}
use Rattle.files.specs.Survey.{data_blocks, blocks}
use Rattle.archive.specs.Archive.{if_any}
use Rattle.archive.specs.Reader.{size_in, sound_entry, part_in, opened}
use Rattle.reader.specs.declared.Opened.{Opened}
use Rattle.reader.specs.declared.Entry.{Entry}

-- ---- opening
-- what is answered of contents: the volume, the first entry block (0 for none), the number of blocks
abbrev pub opening : Contents → Opened
opening c = record { volume = c.volume; first = if_any c.files 1; blocks = blocks c }

-- what opening answers
abbrev pub opened_with : Outcome Contents → Outcome Opened
opened_with o = o >>= λ c. Ok (opening c)

-- where the steps begin: the first entry block, and 0 where nothing is opened
abbrev pub begins : Outcome Opened → ℕ
begins (Err r) = 0
begins (Ok o) = o.first

-- a can be opened
pub record Opens (a : List ℕ) : Type 0 where
  pub contents : Contents
  pub is : opened a ≡ Ok contents

-- ---- an entry
-- the bytes of a from block b on
abbrev pub from_block : List ℕ → ℕ → List ℕ
from_block a b = drop (256 * b) a

-- the fields of the entry block with which s begins
unfoldable pub fields_in : List ℕ → Entry
fields_in s =
    record {
      next = word_at s 0;
      first = word_at s 2;
      kind = get_or s 4 0;
      locked = get_or s 5 0;
      name_length = get_or s 6 0;
      count = word_at s 37;
      size = size_in s;
    }

-- block b of a, looked at alone, is the entry block that its fields ask for, with so many blocks behind it
unfoldable pub is_entry : List ℕ → ℕ → Bool
is_entry a b = ltb 0 b && (ltb b 4096 && sound_entry (length a / 256 - (b + 1)) b (from_block a b))

-- the step that looks at block b alone: its fields, else the end
unfoldable pub entry_step : List ℕ → ℕ → Option Entry
entry_step a b = cond (is_entry a b) (Some (fields_in (from_block a b))) None

-- the fields of a file whose entry block is block b, fs being the files behind it
unfoldable pub fields_of : ℕ → File → List File → Entry
fields_of b f fs =
    let k = data_blocks f in
    record {
      next = if_any fs (b + 1 + k);
      first = cond (eqb k 0) 0 (b + 1);
      kind = f.kind;
      locked = f.locked;
      name_length = length (shown f.raw);
      count = f.count;
      size = length f.bytes;
    }

-- those of the file that has entry block b, where the first of the files has block i; else the end
unfoldable pub entry_of : ℕ → List File → ℕ → Option Entry
entry_of i [] b = None
entry_of i (f ∷ fs) b = let rest = entry_of (i + 1 + data_blocks f) fs b in cond (eqb i b) (Some (fields_of i f fs)) rest

-- the step that looks at all: 13 for bytes that are no archive
abbrev pub entry_with : Outcome Contents → ℕ → Outcome (Option Entry)
entry_with o b = o >>= λ c. Ok (entry_of 1 c.files b)

-- the name in block b, as it is shown
abbrev pub name_in : List ℕ → ℕ → List ℕ
name_in a b = take (get_or (from_block a b) 6 0) (drop 7 (from_block a b))

-- .. and as it is cut: the 30 name bytes (Req 07)
abbrev pub raw_in : List ℕ → ℕ → List ℕ
raw_in a b = take 30 (drop 42 (from_block a b))

-- ---- data
-- the data in block b, where so many bytes are left
abbrev pub data_part : List ℕ → ℕ → ℕ → List ℕ
data_part a b left = part_in left (from_block a b)

-- the data block that follows block b; 0 after the last
abbrev pub next_data : List ℕ → ℕ → ℕ
next_data a b = word_at (from_block a b) 0
