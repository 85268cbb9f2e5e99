-- Contents written down in chained blocks of 256 bytes (01: return). Document 01, "Return" under Records and under Modules.
use Rattle.std.specs.Prelude.{◌≡◌, cond, List, [], ◌∷◌, ◌++◌, ℕ, zero, suc, ◌+◌, length, take, drop, leb, eqb}
use Rattle.std.specs.Prelude.{Ok}
use Rattle.outcome.specs.declared.Refusal.TheVariants.{Overlong, NotItsReturn}
use Rattle.lists.specs.Fill.{padded}
use Rattle.lists.specs.Same.{same}
use Rattle.lists.specs.Words.{le2, le3}
use Rattle.outcome.specs.Outcome.{Outcome, ◌>>=◌, ◌>>◌, require, Hands}
use Rattle.disk.specs.Disk.{per_of}
use Rattle.catalog.specs.Catalog.{shown}
use Rattle.files.specs.Contents.{File, Contents, contents}
use Rattle.files.specs.Survey.{data_blocks, blocks}

-- a data block: the next one's number, and at most 254 bytes
unfoldable pub data_block : ℕ → List ℕ → List ℕ
data_block next xs = le2 next ++ padded 254 xs

-- k data blocks, of which the first is block b
unfoldable pub data_chain : ℕ → ℕ → List ℕ → List ℕ
data_chain zero b xs = []
data_chain (suc k) b xs = data_block (cond (eqb k 0) 0 (b + 1)) (take 254 xs) ++ data_chain k (b + 1) (drop 254 xs)

-- the entry block of a file with so many bytes: at 7 the shown name, at 42 the name as it is cut (Req 07), zeros from 72 on
unfoldable pub entry_block : ℕ → ℕ → ℕ → File → List ℕ
entry_block next first size f =
    let name = shown f.raw in
    padded 256
    (le2 next ++ (le2 first ++ (f.kind ∷ f.locked ∷ length name ∷ padded 30 name ++ (le2 f.count ++ (le3 size ++ f.raw)))))

-- b where there are files, else 0
abbrev pub if_any : List File → ℕ → ℕ
if_any [] b = 0
if_any (f ∷ fs) b = b

-- the entries' blocks, of which the first is block b
unfoldable pub entry_chain : ℕ → List File → List ℕ
entry_chain b [] = []
entry_chain b (f ∷ fs) =
    let k = data_blocks f in
    let after = b + 1 + k in
    entry_block (if_any fs after) (cond (eqb k 0) 0 (b + 1)) (length f.bytes) f ++ (data_chain k (b + 1) f.bytes ++ entry_chain after fs)

-- block 0: the volume, the first entry block, the number of blocks
unfoldable pub first_block : ℕ → ℕ → ℕ → List ℕ
first_block volume next n = padded 256 (volume ∷ le2 next ++ le2 n)

-- the archive of contents
unfoldable pub archive : Contents → List ℕ
archive c = first_block c.volume (if_any c.files 1) (blocks c) ++ entry_chain 1 c.files

-- what the writer hands over: 1 to 6, then 7 over 4,096 blocks
unfoldable pub archive_of : ℕ → List ℕ → Outcome (List ℕ)
archive_of n d = contents n d >>= λ c. require (leb (blocks c) 4096) Overlong >> Ok (archive c)

-- what the checker answers: the same, then 13 where a is not that archive
unfoldable pub check : ℕ → List ℕ → List ℕ → Outcome (Unit {0})
check n d a = archive_of n d >>= λ w. require (same w a) NotItsReturn

-- the promise of the writer: of the disk d, with space from `before` to `after`, answered r
abbrev pub Wrote : List ℕ → (before after : List ℕ) → Outcome ℕ → Type 0
Wrote d before after r = Hands (archive_of (per_of d) d) before after r

-- the promise of the checker: of the disk d and the bytes a, answered r
abbrev pub Checked : (d a : List ℕ) → Outcome (Unit {0}) → Type 0
Checked d a r = r ≡ check (per_of d) d a
