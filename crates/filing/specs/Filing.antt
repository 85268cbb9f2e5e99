-- The sectors of a saved file, written from their places: Req 09, "writes an unlocked Binary file ..". The places stand in the order in which they were taken,
-- two bytes each: sector 123 * j of a save is its list j, and the 122 behind it are the data sectors of that list.
use Rattle.std.specs.Prelude.{◌≡◌, cond, List, ◌∷◌, ◌++◌, ℕ, zero, suc, ◌+◌, ◌*◌, ◌/◌, length, get_or, take, drop, leb}
use Rattle.lists.specs.Fill.{padded, placed}
use Rattle.lists.specs.Words.{le2}
use Rattle.disk.specs.declared.Place.{Place}
use Rattle.disk.specs.Disk.{place, start}
use Rattle.records.specs.Records.{file_record}
use Rattle.amend.specs.Save.{data_for, lists_for}

module _ (P : List ℕ) where
  -- place i
  abbrev pub place_in : ℕ → Place
  place_in i = place (get_or P (2 * i) 0) (get_or P (2 * i + 1) 0)

  -- list j: 1-2 the next list, 5-6 the pairs of earlier lists, from 12 its pairs; all else zero
  unfoldable pub list_in : ℕ → List ℕ
  list_in j =
      padded 256
      (0 ∷ get_or P (246 * (j + 1)) 0 ∷ get_or P (246 * (j + 1) + 1) 0 ∷ 0 ∷ 0
      ∷ (le2 (122 * j) ++ (0 ∷ 0 ∷ 0 ∷ 0 ∷ 0 ∷ take 244 (drop (246 * j + 2) P))))

  -- the first j lists written
  unfoldable pub with_lists : (j : ℕ) → List ℕ → List ℕ
  with_lists zero d = d
  with_lists (suc j) d = placed (start 16 (place_in (123 * j))) (list_in j) (with_lists j d)

-- the bytes of data sector k, of those of the file
unfoldable pub data_in : List ℕ → ℕ → List ℕ
data_in s k = padded 256 (take 256 (drop (256 * k) s))

-- the first k data sectors written, s being the file's bytes
unfoldable pub with_data : (P s : List ℕ) (k : ℕ) → List ℕ → List ℕ
with_data P s zero d = d
with_data P s (suc k) d = placed (start 16 (place_in P (k + 1 + k / 122))) (data_in s k) (with_data P s k d)

-- lists and data of a file; nothing for data over 32,768
unfoldable pub filed : (P : List ℕ) (address : ℕ) (bytes d : List ℕ) → List ℕ
filed P address bytes d =
    let m = data_for (length bytes) in
    let all = with_data P (file_record address (length bytes) bytes) m (with_lists P (lists_for m) d) in
    cond (leb (length bytes) 32768) all d

-- a file was written
pub record Filed (P : List ℕ) (address : ℕ) (bytes before after : List ℕ) : Type 0 where
  pub is : after ≡ filed P address bytes before
