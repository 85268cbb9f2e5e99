-- What a pass of the writer or of the checker does: it makes the archive block by block from the disk, and writes or compares each block.
use Rattle.std.specs.Prelude.{◌≡◌, Bool, true, false, cond, ◌&&◌, ℕ, ◌+◌, ◌-◌, ◌*◌, ◌/◌, ◌%◌, ◌≤◌, min, length, take, drop, get_or, eqb, leb}
use mathlib.Core.List.{List, [], ◌∷◌, ◌++◌, map, foldl, flat_map}
use Rattle.lists.specs.Every.{Every}
use Rattle.lists.specs.Fill.{placed, below}
use Rattle.lists.specs.Same.{same}
use Rattle.lists.specs.Words.{word_at}
use Rattle.std.specs.Prelude.{Ok, Err}
use Rattle.outcome.specs.Outcome.{Outcome, ◌>>=◌, each}
use Rattle.disk.specs.Chain.{walk}
use Rattle.disk.specs.declared.Place.{Place}
use Rattle.disk.specs.Disk.{start, sectors}
use Rattle.catalog.specs.declared.EntryHead.{EntryHead}
use Rattle.catalog.specs.Catalog.{Entry, live, entries_of, sound_page, next_page}
use Rattle.files.specs.declared.Spot.{Spot}
use Rattle.files.specs.Contents.{File, file_of}
use Rattle.files.specs.Copies.{cut_of}
use Rattle.files.specs.Survey.{data_blocks}
use Rattle.archive.specs.Archive.{data_block, entry_block}
use Rattle.writer.specs.declared.Target.{Target}
use Rattle.writer.specs.declared.Target.TheVariants.{Write, Compare}
use Rattle.writer.specs.declared.Mark.{Mark}

-- the pass writes
abbrev pub writes : Target → Bool
writes Write = true
writes (Compare a) = false

-- the archive with which it compares
abbrev pub compared : Target → List ℕ
compared Write = []
compared (Compare a) = a.now

-- how far a pass has come: the next block's number, the lent space, and whether all blocks were equal
pub record Pass : Type 0 where
  pub block : ℕ
  pub out : List ℕ
  pub good : Bool

-- the same, as the code keeps it
abbrev pub pass_of : Mark → List ℕ → Pass
pass_of m o = record { block = m.block; out = o; good = m.good }

-- before the first block
abbrev pub fresh_mark : Mark
fresh_mark = record { block = 0; good = true }

-- the sector that starts at s
abbrev pub sector_at : List ℕ → ℕ → List ℕ
sector_at d s = take 256 (drop s d)

-- so many bytes of the sectors with the starts ns, joined, from `from` on: of one sector, and of the next
unfoldable pub head_of : List ℕ → List ℕ → ℕ → ℕ → List ℕ
head_of d ns from size = take (min size (256 - from % 256)) (drop (get_or ns (from / 256) 0 + from % 256) d)

unfoldable pub tail_of : List ℕ → List ℕ → ℕ → ℕ → List ℕ
tail_of d ns from size = take (size - length (head_of d ns from size)) (drop (get_or ns (from / 256 + 1) 0) d)

-- of a Binary with m sectors and that stated length: how many bytes it has, and where they begin
abbrev pub size_by : (m stated : ℕ) → ℕ
size_by m stated = cond (leb (4 + stated) (256 * m)) stated (256 * m)

abbrev pub start_by : (m stated : ℕ) → ℕ
start_by m stated = cond (leb (4 + stated) (256 * m)) 4 0

-- the stated length of sectors with the starts ns
abbrev pub stated_in : List ℕ → List ℕ → ℕ
stated_in d ns = word_at d (get_or ns 0 0 + 2)

-- the bytes of a Binary, its first m sectors having these starts
unfoldable pub collected : List ℕ → List ℕ → ℕ → List ℕ
collected d ns m = cut_of (size_by m (stated_in d ns)) (start_by m (stated_in d ns)) (flat_map (sector_at d) (take m ns))

-- data block j of k, of which the first is block b; xs are the bytes
abbrev pub next_data : (k b j : ℕ) → ℕ
next_data k b j = cond (eqb (j + 1) k) 0 (b + j + 1)

abbrev pub data_at : (k b : ℕ) → List ℕ → ℕ → List ℕ
data_at k b xs j = data_block (next_data k b j) (take 254 (drop (254 * j) xs))

-- the same, made of the sectors with the starts ns: `size` bytes from `start` on
unfoldable pub made_at : List ℕ → List ℕ → (start size k b j : ℕ) → List ℕ
made_at d ns start size k b j =
    let part : ℕ = min 254 (size - 254 * j) in
    data_block (next_data k b j) (head_of d ns (start + 254 * j) part ++ tail_of d ns (start + 254 * j) part)

-- the entry block of a file with k data blocks: it is block b of n
abbrev pub head_at : (n b k size : ℕ) → File → List ℕ
head_at n b k size f = entry_block (cond (eqb (b + 1 + k) n) 0 (b + 1 + k)) (cond (eqb k 0) 0 (b + 1)) size f

-- the blocks of a file, of which the first is block b of n
unfoldable pub file_blocks : (n b : ℕ) → File → List (List ℕ)
file_blocks n b f = head_at n b (data_blocks f) (length f.bytes) f ∷ map (data_at (data_blocks f) (b + 1) f.bytes) (below (data_blocks f))

-- an entry as it was read, with these name bytes (the first 30) and these bytes
abbrev pub file_with : EntryHead → (raw xs : List ℕ) → File
file_with e raw xs =
    record {
      kind = e.file_type;
      locked = e.locked;
      raw = take 30 raw;
      count = e.count;
      bytes = xs;
    }

-- A pass writes, or compares with the archive a.
module _ (write : Bool) (a : List ℕ) where
  -- one block more
  unfoldable pub stepped : Pass → List ℕ → Pass
  stepped s y =
      record {
        block = s.block + 1;
        out = cond write (placed (256 * s.block) y s.out) s.out;
        good = cond write s.good (s.good && same y (take 256 (drop (256 * s.block) a)));
      }

  -- one file more, of an archive of `total` blocks
  unfoldable pub with_file : ℕ → Pass → File → Pass
  with_file total s f = foldl stepped s (file_blocks total s.block f)

  module _ (n : ℕ) (d : List ℕ) (total : ℕ) where
    -- one entry more
    unfoldable pub with_entry : Pass → Entry → Pass
    with_entry s e = elim (file_of n d e) [ Err r ↦ s | Ok f ↦ with_file total s f ]

    -- the same, where it is in use
    abbrev pub with_live : Pass → Entry → Pass
    with_live s e = cond (live e) (with_entry s e) s

    -- one page more
    unfoldable pub with_page : Pass → Place → Pass
    with_page s p = foldl with_entry s (entries_of n d p)

    -- the pages from p on
    unfoldable pub walk_made : Pass → Place → Outcome Pass
    walk_made s p = walk n (sound_page n d) (next_page n d) (sectors n + 1) [] p >>= λ ps. Ok (foldl with_page s ps)

-- ---- what the steps of the code promise each other
-- from the mark m to the mark r, at most c blocks were made, and the pass is s
pub record Made (s : Pass) (c : ℕ) (m : Mark) (before after : List ℕ) (r : Mark) : Type 0 where
  pub is : pass_of r after ≡ s
  pub long : length after ≡ length before
  pub bound : r.block ≤ m.block + c

-- the first m of ns are starts of sectors of the disk
pub record Sectors (d : List ℕ) (ns : List ℕ) (m : ℕ) : Type 0 where
  pub few : m ≤ 257
  pub within : m ≤ length ns
  pub long : Every (λ (s : ℕ). length (sector_at d s) ≡ 256) (take m ns)

-- these entries have their files
pub record Filed (n : ℕ) (d : List ℕ) (es : List Entry) : Type 0 where
  pub sized : length d ≡ 256 * sectors n
  pub files : List File
  pub is : each (file_of n d) es ≡ Ok files

-- a place among collected starts
abbrev pub spot : ℕ → Spot
spot at = record { at = at; skip = 0 }

-- a sector's start, as what is collected of a pair
abbrev pub start_of : ℕ → Place → List ℕ
start_of n p = start n p ∷ []

-- this entry has its file
pub record Has (n : ℕ) (d : List ℕ) (e : Entry) : Type 0 where
  pub sized : length d ≡ 256 * sectors n
  pub file : File
  pub is : file_of n d e ≡ Ok file

-- it has, if it is in use
pub record Due (n : ℕ) (d : List ℕ) (e : Entry) : Type 0 where
  pub has : live e ≡ true → Has n d e

-- the pages from p on are given, and their entries have their files
pub record Walked (n : ℕ) (d : List ℕ) (p : Place) : Type 0 where
  pub ps : List Place
  pub is : walk n (sound_page n d) (next_page n d) (sectors n + 1) [] p ≡ Ok ps
  pub filed : Filed n d (flat_map (entries_of n d) ps)

-- the pass that o gives is that of the mark r
pub record MadeAll (o : Outcome Pass) (r : Mark) (after : List ℕ) : Type 0 where
  pub is : o ≡ Ok (pass_of r after)
