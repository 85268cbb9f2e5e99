-- The blocks of an archive, made of numbers and of lists of any length: what does not fit its field is cut.
use Rattle.std.specs.Prelude.{List, [], ℕ, take}
use Rattle.files.specs.Contents.{File}
use Rattle.archive.specs.Archive.{entry_block}

-- a file of these fields: of the name bytes the first 30, no data
abbrev pub file_with : ℕ → ℕ → List ℕ → ℕ → File
file_with kind locked raw count = record { kind = kind; locked = locked; raw = take 30 raw; count = count; bytes = [] }

-- its entry block: of the size the low three bytes (`le3`)
unfoldable pub entry_bytes : ℕ → ℕ → ℕ → ℕ → ℕ → List ℕ → ℕ → List ℕ
entry_bytes next first size kind locked raw count = entry_block next first size (file_with kind locked raw count)
