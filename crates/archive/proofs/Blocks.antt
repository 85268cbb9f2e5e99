-- The lengths of an archive and of its parts. Assumes nothing.
use mathlib.Core.Path.{◌≡◌, refl}
use mathlib.Core.Bool.{cond}
use mathlib.Core.List.{List, ◌∷◌, ◌++◌}
use Prim.Native.Nat.{ℕ, zero, suc, ◌+◌, ◌*◌, ◌≤◌}
use native.Mathlib.Omega.{arith}
use lib.ListN.{length, take, drop, length-append, length-take}
use lib.Dec.{eqb}
use Rattle.lists.specs.Words.{le2}
use Rattle.lists.proofs.Laws.{length_padded}
use Rattle.catalog.specs.Catalog.{shown}
use Rattle.catalog.proofs.Names.{shown_short}
use Rattle.files.specs.Contents.{File, Contents, Proper}
use Rattle.lists.specs.Every.{Every, none, more}
use Rattle.files.specs.Survey.{data_blocks, blocks_in, blocks}
use Rattle.archive.specs.Archive.{data_block, data_chain, entry_block, if_any, entry_chain, first_block, archive}

-- a data block
pub length_data : (next : ℕ) (xs : List ℕ) → length xs ≤ 254 → length (data_block next xs) ≡ 256
unfolding data_block
length_data next xs h = omega (arith, length_padded 254 xs h)

-- block 0
pub length_first : (v next n : ℕ) → length (first_block v next n) ≡ 256
unfolding first_block
length_first v next n = length_padded 256 (v ∷ le2 next ++ le2 n) (omega arith)

-- an entry block
pub length_entry : (next first size : ℕ) (f : File) → length f.raw ≤ 30 → length (entry_block next first size f) ≡ 256
unfolding entry_block
length_entry next first size f h =
    let s = shown_short f.raw in
    let e = length_padded 30 (shown f.raw) (omega arith) in
    length_padded 256 _ (simp (length-append) (omega arith))

-- a data chain
pub length_chain : (k b : ℕ) (xs : List ℕ) → length (data_chain k b xs) ≡ 256 * k
unfolding data_chain
length_chain zero b xs = refl
length_chain (suc k) b xs =
    rw (length-append, length_data (cond (eqb k 0) 0 (b + 1)) (take 254 xs) (rw length-take (omega arith)), length_chain k (b + 1) (drop 254 xs)) (omega arith)

-- names that fit their field
abbrev pub Short : List File → Type 0
Short = Every (λ (f : File). length f.raw ≤ 30)

pub proper_short : {fs : List File} → Every Proper fs → Short fs
proper_short none = none
proper_short (more {x = f} p ps) = more {x = f} (omega (arith, p.raw_length)) (proper_short ps)

-- the entries with their data
pub length_entries : (b : ℕ) {fs : List File} → Short fs → length (entry_chain b fs) ≡ 256 * blocks_in fs
unfolding entry_chain blocks_in
length_entries b none = refl
length_entries b (more {x = f} {xs = fs} p ps) =
    let after = b + 1 + data_blocks f in
    rw (length-append, length-append, length_entry (if_any fs after) (cond (eqb (data_blocks f) 0) 0 (b + 1)) (length f.bytes) f p, length_chain (data_blocks f) (b + 1) f.bytes, length_entries after ps) (omega arith)

-- the whole
pub length_archive : (c : Contents) → Short c.files → length (archive c) ≡ 256 * blocks c
unfolding archive
length_archive c ps =
    rw (length-append, length_first c.volume (if_any c.files 1) (blocks c), length_entries 1 ps) (omega arith)
