-- Names as they are cut: document 02, Req 07, as one list of statements about the definitions. proofs/Names.antt proves them. `disk b` is a flat disk with one
-- file, whose name bytes are b and 29 of A0h: `disk 0xC1` and `disk 0x41` differ in that one byte, and both show "A".
use Rattle.std.specs.Prelude.{◌≡◌, false, List, [], ◌∷◌, ◌++◌, ℕ, length, replicate}
use Rattle.lists.specs.Fill.{padded}
use Rattle.lists.specs.Select.{among}
use Rattle.std.specs.Prelude.{Ok, Err}
use Rattle.outcome.specs.declared.Refusal.TheVariants.{BadLetter}
use Rattle.disk.specs.Disk.{per_of}
use Rattle.catalog.specs.Catalog.{shown}
use Rattle.files.specs.Contents.{File, Contents, Proper}
use Rattle.files.specs.Survey.{fetched}
use Rattle.archive.specs.Archive.{archive, archive_of}
use Rattle.agreement.specs.Agreement.{flat, contents_of, EqualContents}

-- the name bytes
abbrev pub cut : ℕ → List ℕ
cut b = b ∷ replicate 29 0xA0

-- the VTOC: the catalog begins at 17/1; volume 254, 35 tracks of 16 sectors
abbrev pub table : List ℕ
table = padded 256 ((0 ∷ 17 ∷ 1 ∷ 3 ∷ 0 ∷ 0 ∷ 254 ∷ []) ++ (replicate 45 0 ++ (35 ∷ 16 ∷ [])))

-- the page: one entry, an unlocked Binary, its list at 18/0, its sector count 1
abbrev pub page : ℕ → List ℕ
page b = padded 256 (replicate 11 0 ++ ((18 ∷ 0 ∷ 4 ∷ []) ++ (cut b ++ (1 ∷ 0 ∷ []))))

-- the disk: these two sectors at 17/0 and 17/1, and zeros everywhere else, so that the list has no pairs
unfoldable pub disk : ℕ → List ℕ
disk b = replicate 69632 0 ++ (table ++ (page b ++ replicate 73216 0))

-- what it holds
abbrev pub holding : ℕ → Contents
holding b = record { volume = 254; files = record { kind = 4; locked = 0; raw = cut b; count = 1; bytes = [] } ∷ [] }

pub record Names : Type 0 where
  -- it is a disk of 143,360 bytes, and has these contents; with 80h among the name bytes it is 6
  pub long : (b : ℕ) → length (disk b) ≡ 143360
  pub held : (b : ℕ) → (b ≡ 0x80 → ⊥) → contents_of (flat (disk b)) ≡ Ok (holding b)
  pub bad : contents_of (flat (disk 0x80)) ≡ Err BadLetter
  -- with C1h and with 41h the same name is shown, ..
  pub alike : (shown (cut 0xC1) ≡ 0x41 ∷ []) × (shown (cut 0x41) ≡ 0x41 ∷ [])
  -- .. by it the file is fetched from both, here one without bytes, ..
  pub found : (fetched (per_of (disk 0xC1)) (disk 0xC1) (0x41 ∷ []) ≡ Ok []) × (fetched (per_of (disk 0x41)) (disk 0x41) (0x41 ∷ []) ≡ Ok [])
  -- .. the contents are not equal, ..
  pub apart : EqualContents (flat (disk 0xC1)) (flat (disk 0x41)) → ⊥
  -- .. both have an archive, and the archives are not equal
  pub archived : (b : ℕ) → (b ≡ 0x80 → ⊥) → archive_of (per_of (disk b)) (disk b) ≡ Ok (archive (holding b))
  pub archives : archive (holding 0xC1) ≡ archive (holding 0x41) → ⊥
  -- no file's name bytes hold 80h, so an archive with 80h among them is the archive of no disk
  pub plain : (f : File) → Proper f → among 0x80 f.raw ≡ false
