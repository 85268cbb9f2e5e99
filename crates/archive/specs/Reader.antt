-- Contents read back from an archive, with no disk: document 01, the reader under "Return".
use Rattle.std.specs.Prelude.{Bool, true, false, cond, ◌&&◌, ◌||◌, List, [], ◌∷◌, ◌++◌, ℕ, zero, suc, ◌+◌, ◌*◌, ◌-◌, ◌/◌, length, get_or, take, drop, leb, ltb, eqb}
use Rattle.std.specs.Prelude.{Ok, Err}
use Rattle.outcome.specs.declared.Refusal.TheVariants.{NotItsReturn}
use Rattle.outcome.specs.Outcome.{Outcome, ◌>>=◌, ◌>>◌, require}
use Rattle.lists.specs.Same.{same}
use Rattle.lists.specs.Select.{all}
use Rattle.lists.specs.Words.{word_at}
use Rattle.catalog.specs.Catalog.{kind_of, shown}
use Rattle.files.specs.Contents.{File, Contents}
use Rattle.files.specs.Survey.{blocks_for}
use Rattle.archive.specs.Archive.{data_block, entry_block, first_block}

-- What an entry block says, s being the bytes from that block on: the data length, ..
abbrev pub size_in : List ℕ → ℕ
size_in s = get_or s 39 0 + 256 * get_or s 40 0 + 65536 * get_or s 41 0

-- .. and the file, its bytes xs being known
unfoldable pub entry_in : List ℕ → List ℕ → File
entry_in s xs =
    record {
      kind = get_or s 4 0;
      locked = get_or s 5 0;
      raw = take 30 (drop 42 s);
      count = word_at s 37;
      bytes = xs;
    }

-- A file may have this kind, this lock, these name bytes, and so many bytes.
unfoldable pub allowed : ℕ → File → Bool
allowed size f =
    eqb (kind_of f.kind) f.kind
    && (ltb f.locked 2 && (eqb (length f.raw) 30 && (all (λ b. ltb b 128) (shown f.raw) && (eqb f.kind 4 || eqb size 0))))

-- s begins with the entry block that its own fields ask for: it is block b, with n blocks behind it
unfoldable pub sound_entry : ℕ → ℕ → List ℕ → Bool
sound_entry n b s =
    let k = blocks_for (size_in s) in
    let f = entry_in s [] in
    allowed (size_in s) f
    && same (take 256 s) (entry_block (cond (eqb k n) 0 (b + 1 + k)) (cond (eqb k 0) 0 (b + 1)) (size_in s) f)

-- the data in the data block with which s begins, `size` bytes being left
abbrev pub part_in : ℕ → List ℕ → List ℕ
part_in size s = take size (take 254 (drop 2 s))

-- s begins with the data block that is due: it is block b, and `size` bytes are left
unfoldable pub sound_data : ℕ → ℕ → List ℕ → Bool
sound_data b size s = same (take 256 s) (data_block (cond (leb size 254) 0 (b + 1)) (part_in size s))

-- The n blocks of s, of which the first is block b, read as entries, or as data of which `size` bytes are left, and then entries.
unfoldable mutual
  pub entries_from : ℕ → ℕ → List ℕ → Outcome (List File)
  entries_from zero b s = Ok []
  entries_from (suc n) b s =
      require (sound_entry n b s) NotItsReturn >>
      (elim (eqb (size_in s) 0) [
        | true ↦ entries_from n (b + 1) (drop 256 s) >>= λ fs. Ok (entry_in s [] ∷ fs)
        | false ↦ data_from n (b + 1) (size_in s) (drop 256 s) >>= λ r. Ok (entry_in s r.0 ∷ r.1)
      ])

  pub data_from : ℕ → ℕ → ℕ → List ℕ → Outcome (List ℕ × List File)
  data_from zero b size s = Err NotItsReturn
  data_from (suc n) b size s =
      require (sound_data b size s) NotItsReturn >>
      (elim (leb size 254) [
        | true ↦ entries_from n (b + 1) (drop 256 s) >>= λ fs. Ok (part_in size s, fs)
        | false ↦ data_from n (b + 1) (size - 254) (drop 256 s) >>= λ r. Ok (part_in size s ++ r.0, r.1)
      ])

-- block 0 of an archive of 1 + n blocks
unfoldable pub sound_first : ℕ → List ℕ → Bool
sound_first n a =
    eqb (length a) (256 * (1 + n)) && (leb (1 + n) 4096 && same (take 256 a) (first_block (get_or a 0 0) (cond (eqb 0 n) 0 1) (1 + n)))

-- what the reader gives: the contents whose archive a is, else 13
unfoldable pub opened : List ℕ → Outcome Contents
opened a =
    let n = length a / 256 - 1 in
    require (sound_first n a) NotItsReturn >>
    (entries_from n 1 (drop 256 a) >>= λ fs. Ok (record { volume = get_or a 0 0; files = fs }))

-- whether a value is given, it not being looked at
abbrev pub whether : {A : Type 0} → Outcome A → Outcome (Unit {0})
whether o = o >> Ok tt
