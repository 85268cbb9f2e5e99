-- The reader gives back what was entry_of. Assumes nothing.
use mathlib.Core.Path.{◌≡◌, refl, sym, ap, ◌∙◌}
use mathlib.Core.Bool.{true, cond, ◌||◌}
use mathlib.Core.List.{List, [], ◌∷◌, ◌++◌, append_assoc, append-nil}
use Prim.Native.Nat.{ℕ, zero, suc, ◌+◌, ◌*◌, ◌-◌, ◌/◌, ◌≤◌, ◌<◌}
use native.Mathlib.Omega.{arith}
use lib.ListN.{length, take, drop, get_or, length-take, length-drop, take-append-drop}
use lib.Seq.{take_at, drop_at, drop-drop, get_or-append-add, take_all}
use lib.Dec.{eqb, leb}
use borrow.Author.Tests.{eq-eqb, ne_eqb, le-leb, lt-leb, lt-ltb, eqb-false}
use Rattle.std.specs.Prelude.{Ok, Err}
use Rattle.outcome.specs.Outcome.{Outcome, ◌>>=◌}
use Rattle.lists.proofs.Split.{by_test, by_lt}
use Rattle.catalog.specs.Catalog.{shown}
use Rattle.catalog.proofs.Names.{shown_short}
use Rattle.files.specs.Contents.{File, Contents, Proper}
use Rattle.lists.specs.Every.{Every, none, more}
use Rattle.files.specs.Survey.{blocks_for, data_blocks, blocks_in, blocks}
use Rattle.archive.specs.Archive.{data_block, data_chain, entry_block, if_any, entry_chain, first_block, archive}
use Rattle.archive.specs.Reader.{size_in, entry_in, allowed, sound_entry, part_in, sound_data, entries_from, data_from, sound_first, opened}
use Rattle.lists.proofs.Equal.{same_refl}
use Rattle.lists.proofs.Select.{all_below}
use Rattle.lists.proofs.Words.{two, three}
use Rattle.lists.proofs.Laws.{length_padded}
use Rattle.lists.specs.Fill.{padded}
use Rattle.lists.specs.Words.{word_at}
use Rattle.archive.proofs.Steps.{entries_none, entry_empty, entry_data, data_last, data_more}
use Rattle.archive.proofs.Blocks.{length_data, length_first, length_entry, length_archive, proper_short}

-- ---- what an entry block says
-- behind 30 elements
past : (p c r t : List ℕ) (i : ℕ) → length p ≡ 30 → get_or (p ++ c ++ r ++ t) (30 + i) 0 ≡ get_or (c ++ (r ++ t)) i 0
past p c r t i e = rw (append_assoc p c r, append_assoc p (c ++ r) t, append_assoc c r t, ← e) (get_or-append-add p (c ++ (r ++ t)) i 0)

past_drop : (p c r t : List ℕ) (i : ℕ) → length p ≡ 30 → drop (30 + i) (p ++ c ++ r ++ t) ≡ drop i (c ++ (r ++ t))
past_drop p c r t i e =
    rw (append_assoc p c r, append_assoc p (c ++ r) t, append_assoc c r t)
    (sym (drop-drop i 30 (p ++ (c ++ (r ++ t)))) ∙ ap (drop i) (drop_at p (c ++ (r ++ t)) 30 e))

module _ (next first size : ℕ) (f : File) (h : length f.raw ≡ 30) (t : List ℕ) where
  -- the shown name fits its field
  field_long : length (padded 30 (shown f.raw)) ≡ 30
  field_long = let s = shown_short f.raw in length_padded 30 (shown f.raw) (omega arith)

  -- the data length is read back
  pub entry_size : size < 16777216 → size_in (entry_block next first size f ++ t) ≡ size
  unfolding entry_block padded
  entry_size l =
      let p : List ℕ = padded 30 (shown f.raw) in
      let e : length p ≡ 30 = field_long in
      three size _ _ _ l (past p _ _ t 2 e) (past p _ _ t 3 e) (past p _ _ t 4 e)

  -- so is the sector count
  pub entry_count_lem : f.count < 65536 → word_at (entry_block next first size f ++ t) 37 ≡ f.count
  unfolding entry_block padded
  entry_count_lem l =
      let p : List ℕ = padded 30 (shown f.raw) in
      let e : length p ≡ 30 = field_long in
      two f.count _ _ l (past p _ _ t 0 e) (past p _ _ t 1 e)

  -- and the name, as it is shown ..
  pub entry_name : take (length (shown f.raw)) (drop 7 (entry_block next first size f ++ t)) ≡ shown f.raw
  unfolding entry_block padded
  entry_name = simp append_assoc (take_at (shown f.raw) _ (length (shown f.raw)) refl)

  -- .. and as it is cut
  pub entry_raw : take 30 (drop 42 (entry_block next first size f ++ t)) ≡ f.raw
  unfolding entry_block padded
  entry_raw =
      ap (take 30) (past_drop (padded 30 (shown f.raw)) _ _ t 5 field_long) ∙ take_at f.raw _ 30 h

-- f with the bytes xs
abbrev pub with_bytes : File → List ℕ → File
with_bytes f xs = record { kind = f.kind; locked = f.locked; raw = f.raw; count = f.count; bytes = xs }

-- the file is read back
pub entry_back : (next first size : ℕ) (f : File) (t xs : List ℕ) → Proper f → entry_in (entry_block next first size f ++ t) xs ≡ with_bytes f xs
unfolding entry_in entry_block padded
entry_back next first size f t xs p = λ i.
    record {
      kind = f.kind;
      locked = f.locked;
      raw = entry_raw next first size f p.raw_length t i;
      count = entry_count_lem next first size f p.raw_length t p.count i;
      bytes = xs;
    }

-- ---- the tests pass
-- proper files pass
pub proper_allowed : {f : File} (xs : List ℕ) → Proper f → allowed (length f.bytes) (with_bytes f xs) ≡ true
unfolding allowed
proper_allowed {f} xs p =
    let k : eqb f.kind 4 || eqb (length f.bytes) 0 ≡ true =
    by_test (eqb f.kind 4) (λ e. rw e refl) (λ e. rw (e, p.binary_only (eqb-false f.kind 4 e)) refl)
    in
    rw (eq-eqb _ _ p.kind, lt-ltb _ _ p.locked, eq-eqb _ _ p.raw_length, all_below 128 (shown f.raw) p.letters) k

-- the entry block of f as block b, with n blocks behind it
abbrev pub entry_of : ℕ → ℕ → File → List ℕ
entry_of n b f =
    let k = data_blocks f in
    entry_block (cond (eqb k n) 0 (b + 1 + k)) (cond (eqb k 0) 0 (b + 1)) (length f.bytes) f

-- such a block is a block
pub entry_long : (n b : ℕ) (f : File) → length f.raw ≡ 30 → length (entry_of n b f) ≡ 256
entry_long n b f h = length_entry _ _ (length f.bytes) f (omega arith)

-- and is taken for what it is
pub entry_sound : (n b : ℕ) (f : File) (t : List ℕ) → Proper f → length f.bytes < 16777216 → sound_entry n b (entry_of n b f ++ t) ≡ true
unfolding sound_entry entry_block
entry_sound n b f t p l =
    rw (entry_size _ _ (length f.bytes) f p.raw_length t l, entry_back _ _ (length f.bytes) f t [] p, proper_allowed [] p, take_at (entry_of n b f) t 256 (entry_long n b f p.raw_length))
    (same_refl (entry_of n b f))

-- ---- a data chain
part_back : (xs : List ℕ) → take (length xs) (padded 254 (take 254 xs)) ≡ take 254 xs
unfolding padded
part_back xs =
    by_lt (length xs) 255 (λ h. rw (take_all 254 xs (omega arith)) (take_at xs _ (length xs) refl))
    (λ h.
    let e : length (take 254 xs) ≡ 254 = rw length-take (omega arith) in
    rw (e, append-nil (take 254 xs)) (take_all (length xs) (take 254 xs) (omega arith)))

-- a chain's last block is the one in which at most 254 bytes are left
pub last_is : (k size : ℕ) → suc k ≡ blocks_for size → eqb k 0 ≡ leb size 254
last_is k size h =
    by_lt size 255 (λ l. rw (eq-eqb k 0 (omega arith), le-leb size 254 (omega arith)) refl) (λ l. rw (ne_eqb k 0 (λ e. omega arith), lt-leb size 254 l) refl)

module _ (k b : ℕ) (xs t : List ℕ) (h : suc k ≡ blocks_for (length xs)) where
  -- the chain's first block
  abbrev pub block : List ℕ
  block = data_block (cond (eqb k 0) 0 (b + 1)) (take 254 xs)

  -- it is a block
  pub block_long : length block ≡ 256
  block_long = length_data (cond (eqb k 0) 0 (b + 1)) (take 254 xs) (rw length-take (omega arith))

  -- its data is read back
  pub part_is : part_in (length xs) (block ++ t) ≡ take 254 xs
  unfolding data_block
  part_is = rw (take_at (padded 254 (take 254 xs)) t 254 (length_padded 254 (take 254 xs) (rw length-take (omega arith)))) (part_back xs)

  -- and it is taken for what it is
  data_sound : sound_data b (length xs) (block ++ t) ≡ true
  unfolding sound_data
  data_sound = rw (part_is, take_at block t 256 block_long, ← last_is k (length xs) h) (same_refl block)

  -- the chain goes on behind its first block
  pub chain_cons : data_chain (suc k) b xs ++ t ≡ block ++ (data_chain k (b + 1) (drop 254 xs) ++ t)
  unfolding data_chain
  chain_cons = append_assoc block (data_chain k (b + 1) (drop 254 xs)) t

-- what is put in front twice
rejoin : (o : Outcome (List File)) (xs ys zs : List ℕ) → xs ++ ys ≡ zs
    → ◌>>=◌ {A = List ℕ × List File} {B = List ℕ × List File} (o >>= λ fs. Ok (ys, fs)) (λ r. Ok (xs ++ r.0, r.1)) ≡ (o >>= λ fs. Ok (zs, fs))
rejoin (Err r) xs ys zs e = refl
rejoin (Ok fs) xs ys zs e = rw e refl

-- a data chain, and whatever follows it
data_back : (k m b : ℕ) (xs t : List ℕ) → k ≡ blocks_for (length xs) → 0 < length xs
    → data_from (k + m) b (length xs) (data_chain k b xs ++ t) ≡ (entries_from m (b + k) t >>= λ fs. Ok (xs, fs))
data_back zero m b xs t h l = absurd (omega arith)
data_back (suc zero) m b xs t h l =
    let e : 1 + m ≡ suc m = omega arith in
    let c : data_chain 0 (b + 1) (drop 254 xs) ++ t ≡ t = unfold data_chain in refl in
    rw (e, chain_cons zero b xs t h, c, data_last _ _ _ _ (data_sound zero b xs t h) (omega arith), drop_at _ _ 256 (block_long zero b xs t h), part_is zero b xs t h, take_all 254 xs (omega arith)) refl
data_back (suc (suc k)) m b xs t h l =
    let e : suc (suc k) + m ≡ suc (suc k + m) = omega arith in
    let a : b + suc (suc k) ≡ b + 1 + suc k = omega arith in
    let j : suc k ≡ blocks_for (length (drop 254 xs)) = rw length-drop (omega arith) in
    let i : 0 < length (drop 254 xs) = rw length-drop (omega arith) in
    rw (e, chain_cons (suc k) b xs t h, data_more _ _ _ _ (data_sound (suc k) b xs _ h) (omega arith), drop_at _ _ 256 (block_long (suc k) b xs t h), part_is (suc k) b xs _ h, ← length-drop 254 xs, data_back (suc k) m (b + 1) (drop 254 xs) t j i, a)
    (rejoin (entries_from m (b + 1 + suc k) t) (take 254 xs) (drop 254 xs) xs (take-append-drop 254 xs))

-- ---- the entries
-- the link to the next entry
pub link_is : (fs : List File) (k n b : ℕ) → n ≡ k + blocks_in fs → if_any fs b ≡ cond (eqb k n) 0 b
unfolding blocks_in
link_is [] k n b e = rw (eq-eqb k n (omega arith)) refl
link_is (f ∷ fs) k n b e = rw (ne_eqb k n (λ q. omega arith)) refl

-- an entry's block, its data chain, and the other entries
pub chain_first : (b : ℕ) (f : File) (fs : List File)
    → entry_chain b (f ∷ fs) ≡ entry_of (data_blocks f + blocks_in fs) b f ++ (data_chain (data_blocks f) (b + 1) f.bytes ++ entry_chain (b + 1 + data_blocks f) fs)
unfolding entry_chain
chain_first b f fs = rw (link_is fs (data_blocks f) _ (b + 1 + data_blocks f) refl) refl

-- a list with no element
pub is_nil_lem : (xs : List ℕ) → length xs ≡ 0 → xs ≡ []
is_nil_lem [] e = refl
is_nil_lem (x ∷ xs) e = absurd (omega arith)

-- no data, no data block
pub chain_none : (k b : ℕ) (xs t : List ℕ) → k ≡ 0 → data_chain k b xs ++ t ≡ t
unfolding data_chain
chain_none k b xs t e = rw e refl

-- the entries are read back
pub entries_back : (b : ℕ) {fs : List File} → Every Proper fs → blocks_in fs ≤ 4095 → entries_from (blocks_in fs) b (entry_chain b fs) ≡ Ok fs
unfolding blocks_in
entries_back b none l = entries_none b _
entries_back b (more {x = f} {xs = fs} p ps) l =
    let k = data_blocks f in
    let n = k + blocks_in fs in
    let small : length f.bytes < 16777216 = omega arith in
    let e : 1 + k + blocks_in fs ≡ suc n = omega arith in
    let t = data_chain k (b + 1) f.bytes ++ entry_chain (b + 1 + k) fs in
    let z : size_in (entry_of n b f ++ t) ≡ length f.bytes = entry_size _ _ _ f p.raw_length t small in
    let s = entry_sound n b f t p small in
    let d : drop 256 (entry_of n b f ++ t) ≡ t = drop_at (entry_of n b f) t 256 (entry_long n b f p.raw_length) in
    rw (e, chain_first b f fs)
    (by_lt 0 (length f.bytes)
    (λ some.
    rw (entry_data n b _ s (λ q. omega arith), d, z, data_back k (blocks_in fs) (b + 1) f.bytes _ refl some, entries_back (b + 1 + k) ps (omega arith), entry_back _ _ _ f t f.bytes p) refl)
    (λ empty.
    let q : k ≡ 0 = omega arith in
    let m : n ≡ blocks_in fs = omega arith in
    let c : b + 1 + k ≡ b + 1 = omega arith in
    let ih : entries_from n (b + 1) t ≡ Ok fs = rw (chain_none k (b + 1) f.bytes (entry_chain (b + 1 + k) fs) q, m, c) (entries_back (b + 1) ps (omega arith)) in
    rw (entry_empty n b _ s (omega arith), d, ih, entry_back _ _ _ f t [] p, ← is_nil_lem f.bytes (omega arith)) refl))

-- ---- the whole
-- the contents are read back
pub archive_back : (c : Contents) → Every Proper c.files → blocks c ≤ 4096 → opened (archive c) ≡ Ok c
unfolding opened sound_first archive
archive_back c ps l =
    let n = blocks_in c.files in
    let v : List ℕ = first_block c.volume (if_any c.files 1) (blocks c) in
    let a : List ℕ = v ++ entry_chain 1 c.files in
    let e : length a ≡ 256 * (1 + n) = length_archive c (proper_short ps) in
    let k : length a / 256 - 1 ≡ n = omega arith in
    let f : length v ≡ 256 = length_first c.volume (if_any c.files 1) (blocks c) in
    let g : get_or a 0 0 ≡ c.volume = unfold first_block padded in refl in
    rw (k, eq-eqb _ _ e, le-leb _ _ l, g, ← link_is c.files 0 n 1 (omega arith), take_at v _ 256 f, same_refl v, drop_at v _ 256 f, entries_back 1 ps (omega arith)) refl
