-- A pass over all entries makes the archive: its blocks one after the other. Assumes nothing.
use mathlib.Core.Path.{◌≡◌, refl, sym, ap, ◌∙◌}
use mathlib.Core.Bool.{Bool, true, false, cond, ◌&&◌}
use mathlib.Core.List.{List, [], ◌∷◌, ◌++◌, map, foldl, flat_map, append_assoc}
use Prim.Native.Nat.{ℕ, zero, suc, ◌+◌, ◌*◌, ◌≤◌}
use native.Mathlib.Omega.{arith}
use lib.ListN.{length, take, drop, length-take, length-drop, length-append}
use lib.Seq.{drop-drop, take-add, take_all}
use lib.Dec.{eqb}
use borrow.Author.Tests.{eq-eqb, ne_eqb, eqb-true, eqb-false}
use Rattle.lists.specs.Every.{Every, none, more}
use Rattle.lists.specs.Fill.{below}
use Rattle.lists.specs.Same.{same}
use Rattle.lists.proofs.Equal.{same_append}
use Rattle.lists.proofs.Split.{by_test, and_assoc, and_true}
use Rattle.lists.proofs.Select.{onward, onward_next, onward_end, length_onward, filter_every}
use Rattle.lists.proofs.Chunks.{every_append, flat_map_append, length_chunks}
use Rattle.lists.proofs.Put.{Put, put_none, put_more, placed_put}
use Rattle.std.specs.Prelude.{Ok}
use Rattle.outcome.specs.Outcome.{each}
use Rattle.outcome.proofs.Outcome.{each_cons, each_every}
use Rattle.disk.specs.declared.Place.{Place}
use Rattle.catalog.specs.Catalog.{Entry, live, entry_at, entries_of}
use Rattle.files.specs.Contents.{File, Contents, file_of}
use Rattle.files.specs.Survey.{data_blocks, blocks_in, blocks}
use Rattle.files.proofs.Order.{file_given}
use Rattle.archive.specs.Archive.{data_chain, entry_block, if_any, entry_chain, first_block, archive}
use Rattle.archive.proofs.Blocks.{Short, length_data, length_entry, length_first}
use Rattle.writer.specs.Passes.{Pass, data_at, head_at, file_blocks, stepped, with_file, with_entry, with_page}

-- lists of lists, joined
abbrev joined : List (List ℕ) → List ℕ
joined = flat_map (λ (x : List ℕ). x)

-- ---- the blocks of a file, joined
data_from_lem : (k i K b : ℕ) (xs : List ℕ) → K ≡ i + k → joined (onward (data_at K b xs) K i) ≡ data_chain k (b + i) (drop (254 * i) xs)
unfolding flat_map data_chain
data_from_lem zero i K b xs e = rw (onward_end (data_at K b xs) K i (omega arith)) refl
data_from_lem (suc k) i K b xs e =
    let h = data_from_lem k (i + 1) K b xs (omega arith) in
    let t : eqb (i + 1) K ≡ eqb k 0 =
    by_test (eqb k 0) (λ z. let y = eqb-true k 0 z in rw z (eq-eqb (i + 1) K (omega arith))) (λ z. let y = eqb-false k 0 z in rw z (ne_eqb (i + 1) K (λ q. y (omega arith)))) in
    let r : 254 * i + 254 ≡ 254 * (i + 1) = omega arith in
    let u : drop 254 (drop (254 * i) xs) ≡ drop (254 * (i + 1)) xs = drop-drop 254 (254 * i) xs ∙ rw r refl in
    let v : b + (i + 1) ≡ b + i + 1 = omega arith in
    ap joined (onward_next (data_at K b xs) K i (omega arith)) ∙ rw (h, t, u, v) refl

-- the blocks of files, of which the first is block b of n
all_blocks : (n b : ℕ) → List File → List (List ℕ)
all_blocks n b [] = []
all_blocks n b (f ∷ fs) = file_blocks n b f ++ all_blocks n (b + 1 + data_blocks f) fs

file_joined : (n b : ℕ) (f : File) → joined (file_blocks n b f) ≡ head_at n b (data_blocks f) (length f.bytes) f ++ data_chain (data_blocks f) (b + 1) f.bytes
unfolding file_blocks flat_map
file_joined n b f =
    let k : ℕ = data_blocks f in
    let z : b + 1 + 0 ≡ b + 1 = omega arith in
    ap (λ (x : List ℕ). head_at n b k (length f.bytes) f ++ x) (data_from_lem k 0 k (b + 1) f.bytes (omega arith) ∙ rw z refl)

-- where n is the number of all blocks, they are the chain of the entries
all_joined : (n b : ℕ) (fs : List File) → n ≡ b + blocks_in fs → joined (all_blocks n b fs) ≡ entry_chain b fs
unfolding flat_map all_blocks entry_chain blocks_in
all_joined n b [] e = refl
all_joined n b (f ∷ fs) e =
    let k : ℕ = data_blocks f in
    let i = all_joined n (b + 1 + k) fs (omega arith) in
    let l : cond (eqb (b + 1 + k) n) 0 (b + 1 + k) ≡ if_any fs (b + 1 + k) = last fs (omega arith) in
    flat_map_append (λ (x : List ℕ). x) (file_blocks n b f) (all_blocks n (b + 1 + k) fs)
    ∙ rw (file_joined n b f, i, l) (append_assoc (entry_block (if_any fs (b + 1 + k)) (cond (eqb k 0) 0 (b + 1)) (length f.bytes) f) (data_chain k (b + 1) f.bytes) (entry_chain (b + 1 + k) fs))
  where
    last : (fs : List File) → n ≡ b + 1 + data_blocks f + blocks_in fs → cond (eqb (b + 1 + data_blocks f) n) 0 (b + 1 + data_blocks f) ≡ if_any fs (b + 1 + data_blocks f)
    last [] e = rw (eq-eqb (b + 1 + data_blocks f) n (omega arith)) refl
    last (g ∷ gs) e = rw (ne_eqb (b + 1 + data_blocks f) n (λ q. omega arith)) refl

-- ---- each block is 256 bytes long
abbrev Long : List (List ℕ) → Type 0
Long = Every (λ (x : List ℕ). length x ≡ 256)

data_long : (K b : ℕ) (xs js : List ℕ) → Long (map (data_at K b xs) js)
data_long K b xs [] = none
data_long K b xs (j ∷ js) = more (length_data (cond (eqb (j + 1) K) 0 (b + j + 1)) (take 254 (drop (254 * j) xs)) (rw length-take (omega arith))) (data_long K b xs js)

all_long : (n b : ℕ) {fs : List File} → Short fs → Long (all_blocks n b fs)
unfolding all_blocks file_blocks
all_long n b none = none
all_long n b (more {x = f} {xs = fs} h e) =
    let k : ℕ = data_blocks f in
    every_append (more (length_entry (cond (eqb (b + 1 + k) n) 0 (b + 1 + k)) (cond (eqb k 0) 0 (b + 1)) (length f.bytes) f h) (data_long k (b + 1) f.bytes (below k)))
    (all_long n (b + 1 + k) e)

-- ---- names of a disk's files are short
module _ (n : ℕ) (d : List ℕ) where
  raw_short : (p : Place) (is : List ℕ) → Every (λ (e : Entry). length e.raw ≤ 30) (map (entry_at n d p) is)
  raw_short p [] = none
  raw_short p (i ∷ is) = more {x = entry_at n d p i} (rw length-take (omega arith)) (raw_short p is)

  raws_short : (ps : List Place) → Every (λ (e : Entry). length e.raw ≤ 30) (flat_map (entries_of n d) ps)
  unfolding flat_map entries_of
  raws_short [] = none
  raws_short (p ∷ ps) = every_append (filter_every live (raw_short p (below 7))) (raws_short ps)

  pub names_short : (ps : List Place) (fs : List File) → each (file_of n d) (flat_map (entries_of n d) ps) ≡ Ok fs → Short fs
  names_short ps fs h =
      each_every (file_of n d) (λ (f : File). length f.raw ≤ 30)
      (λ e f r g. let q = ap (λ (y : File). length y.raw) (file_given n d e f g).3 in omega arith) fs (raws_short ps) h

-- ---- the pass is one step for each block
module _ (w : Bool) (a : List ℕ) where
  foldl_append : {A S : Type 0} (f : S → A → S) (s : S) (xs ys : List A) → foldl f s (xs ++ ys) ≡ foldl f (foldl f s xs) ys
  foldl_append f s [] ys = refl
  foldl_append f s (x ∷ xs) ys = foldl_append f (f s x) xs ys

  block_count : (s : Pass) (bs : List (List ℕ)) → (foldl (stepped w a) s bs).block ≡ s.block + length bs
  unfolding stepped
  block_count s [] = omega arith
  block_count s (y ∷ bs) = let h = block_count (stepped w a s y) bs in h ∙ omega arith

  file_count : (n b : ℕ) (f : File) → length (file_blocks n b f) ≡ 1 + data_blocks f
  unfolding file_blocks
  file_count n b f = let h = length_onward (data_at (data_blocks f) (b + 1) f.bytes) (data_blocks f) in rw h (omega arith)

  all_stepped : (n : ℕ) (s : Pass) (fs : List File) → foldl (with_file w a n) s fs ≡ foldl (stepped w a) s (all_blocks n s.block fs)
  unfolding all_blocks with_file
  all_stepped n s [] = refl
  all_stepped n s (f ∷ fs) =
      let t : Pass = foldl (stepped w a) s (file_blocks n s.block f) in
      let b : t.block ≡ s.block + 1 + data_blocks f = block_count s (file_blocks n s.block f) ∙ omega (arith, file_count n s.block f) in
      all_stepped n t fs ∙ ap (λ (i : ℕ). foldl (stepped w a) t (all_blocks n i fs)) b
      ∙ sym (foldl_append (stepped w a) s (file_blocks n s.block f) (all_blocks n (s.block + 1 + data_blocks f) fs))

  module _ (n : ℕ) (d : List ℕ) (total : ℕ) where
    -- by entries
    entries_stepped : (es : List Entry) (fs : List File) (s : Pass) → each (file_of n d) es ≡ Ok fs → foldl (with_entry w a n d total) s es ≡ foldl (with_file w a total) s fs
    unfolding each with_entry with_file
    entries_stepped [] fs s h = let q : fs ≡ [] = cc in rw q refl
    entries_stepped (e ∷ es) fs s h =
        let t = each_cons (file_of n d) e es fs h in
        let u : with_entry w a n d total s e ≡ with_file w a total s t.0 = rw (with_entry, t.2) refl in
        ap (λ (y : Pass). foldl (with_entry w a n d total) y es) u ∙ entries_stepped es t.1 (with_file w a total s t.0) t.3
        ∙ sym (ap (foldl (with_file w a total) s) t.4)

    -- by pages
    pages_stepped : (ps : List Place) (s : Pass) → foldl (with_page w a n d total) s ps ≡ foldl (with_entry w a n d total) s (flat_map (entries_of n d) ps)
    unfolding flat_map with_page
    pages_stepped [] s = refl
    pages_stepped (p ∷ ps) s =
        pages_stepped ps (with_page w a n d total s p)
        ∙ sym (foldl_append (with_entry w a n d total) s (entries_of n d p) (flat_map (entries_of n d) ps))

-- ---- a pass that writes leaves the blocks, joined
written : (a : List ℕ) (s : Pass) {bs : List (List ℕ)} → Long bs → 256 * (s.block + length bs) ≤ length s.out
    → Put (256 * s.block) (joined bs) s.out (foldl (stepped true a) s bs).out
unfolding flat_map stepped
written a s none h = put_none (256 * s.block) s.out
written a s (more {x = y} {xs = bs} l e) h =
    let t : Pass = stepped true a s y in
    let p : Put (256 * s.block) y s.out t.out = placed_put refl (omega arith) in
    let r = written a t e (omega (arith, p.long)) in
    let j : length (joined bs) ≡ 256 * length bs = length_chunks (λ (x : List ℕ). x) 256 e in
    put_more p r (omega arith) (omega (arith, p.long))

-- ---- a pass that compares tells whether they are equal
compared : (a : List ℕ) (s : Pass) {bs : List (List ℕ)} → Long bs → 256 * (s.block + length bs) ≤ length a
    → (foldl (stepped false a) s bs).good ≡ (s.good && same (joined bs) (take (256 * length bs) (drop (256 * s.block) a)))
unfolding flat_map stepped same
compared a s none h = sym (and_true s.good)
compared a s (more {x = y} {xs = bs} l e) h =
    let t : Pass = stepped false a s y in
    let r : List ℕ = drop (256 * s.block) a in
    let i = compared a t e (omega arith) in
    let m : 256 * length (y ∷ bs) ≡ 256 + 256 * length bs = omega arith in
    let c : take (256 * length (y ∷ bs)) r ≡ take 256 r ++ take (256 * length bs) (drop 256 r) = rw m (take-add 256 (256 * length bs) r) in
    let n : 256 * (s.block + 1) ≡ 256 * s.block + 256 = omega arith in
    let k : drop (256 * (s.block + 1)) a ≡ drop 256 r = rw n (sym (drop-drop 256 (256 * s.block) a)) in
    let q : length (take 256 r) ≡ 256 = rw (length-take, length-drop) (omega arith) in
    i ∙ rw k (sym (and_assoc s.good (same y (take 256 r)) (same (joined bs) (take (256 * length bs) (drop 256 r)))))
    ∙ ap (λ (x : Bool). s.good && x) (sym (ap (same (y ++ joined bs)) c ∙ same_append y (joined bs) (take 256 r) (take (256 * length bs) (drop 256 r)) (omega arith)))

-- ---- the whole
module _ (c : Contents) where
  pub whole_blocks : List (List ℕ)
  whole_blocks = first_block c.volume (if_any c.files 1) (blocks c) ∷ all_blocks (blocks c) 1 c.files

  whole_joined : joined whole_blocks ≡ archive c
  unfolding flat_map archive whole_blocks
  whole_joined = ap (λ (x : List ℕ). first_block c.volume (if_any c.files 1) (blocks c) ++ x) (all_joined (blocks c) 1 c.files refl)

  whole_long : Short c.files → Long whole_blocks
  unfolding whole_blocks
  whole_long h = more (length_first c.volume (if_any c.files 1) (blocks c)) (all_long (blocks c) 1 h)

  all_count : (n b : ℕ) (fs : List File) → length (all_blocks n b fs) ≡ blocks_in fs
  unfolding all_blocks blocks_in
  all_count n b [] = refl
  all_count n b (f ∷ fs) = rw (length-append, file_count true [] n b f, all_count n (b + 1 + data_blocks f) fs) refl

  whole_count : length whole_blocks ≡ blocks c
  unfolding whole_blocks
  whole_count = rw (all_count (blocks c) 1 c.files) (omega arith)

  -- the pass from the start on
  module _ (w : Bool) (a : List ℕ) (n : ℕ) (d : List ℕ) (ps : List Place) (e : each (file_of n d) (flat_map (entries_of n d) ps) ≡ Ok c.files) (s : Pass) (z : s.block ≡ 0) where
    pub pass_is : foldl (with_page w a n d (blocks c)) (stepped w a s (first_block c.volume (if_any c.files 1) (blocks c))) ps ≡ foldl (stepped w a) s whole_blocks
    unfolding whole_blocks stepped
    pass_is =
        let t : Pass = stepped w a s (first_block c.volume (if_any c.files 1) (blocks c)) in
        let b : t.block ≡ 1 = omega arith in
        pages_stepped w a n d (blocks c) ps t ∙ entries_stepped w a n d (blocks c) (flat_map (entries_of n d) ps) c.files t e ∙ all_stepped w a (blocks c) t c.files
        ∙ ap (λ (i : ℕ). foldl (stepped w a) t (all_blocks (blocks c) i c.files)) b

  -- what is written, ..
  pub pass_writes : Short c.files → (a : List ℕ) (s : Pass) → s.block ≡ 0 → 256 * blocks c ≤ length s.out
      → Put 0 (archive c) s.out (foldl (stepped true a) s whole_blocks).out
  pass_writes h a s z l =
      let p = written a s (whole_long h) (omega (arith, whole_count)) in
      let b : 256 * s.block ≡ 0 = omega arith in
      rw (b, whole_joined) at p

  -- .. and what is compared
  pub pass_compares : Short c.files → (a : List ℕ) (s : Pass) → s.block ≡ 0 → s.good ≡ true → length a ≡ 256 * blocks c
      → (foldl (stepped false a) s whole_blocks).good ≡ same (archive c) a
  pass_compares h a s z g l =
      let p = compared a s (whole_long h) (omega (arith, whole_count)) in
      let b : 256 * s.block ≡ 0 = omega arith in
      let k : take (256 * length whole_blocks) a ≡ a = take_all (256 * length whole_blocks) a (omega (arith, whole_count)) in
      p ∙ rw (g, b, whole_joined) (rw k refl)
