-- The blocks of an archive, from a block on, are those of the files from a file on. Assumes nothing.
use Rattle.std.specs.Prelude.{Some, Ok}
use mathlib.Core.Path.{◌≡◌, refl, sym, ap, subst, ◌∙◌}
use mathlib.Core.Bool.{Bool, true, false, cond}
use mathlib.Core.List.{List, [], ◌∷◌, ◌++◌}
use Prim.Native.Nat.{ℕ, zero, suc, ◌+◌, ◌*◌, ◌-◌, ◌/◌, ◌%◌, ◌≤◌, ◌<◌}
use native.Mathlib.Omega.{arith}
use lib.ListN.{length, get_or, take, drop, length-drop, take-append-drop}
use lib.Seq.{drop_at, drop-drop}
use lib.Dec.{eqb}
use borrow.Author.Tests.{ne_eqb, lt-ltb}
use Rattle.lists.specs.Fill.{Bytes, padded}
use Rattle.lists.specs.Words.{word_at}
use Rattle.lists.proofs.Words.{two}
use Rattle.lists.specs.Every.{Every, more}
use Rattle.catalog.specs.Catalog.{shown}
use Rattle.files.specs.Contents.{File, Contents, Proper}
use Rattle.files.specs.Survey.{blocks_for, data_blocks, blocks_in, blocks}
use Rattle.archive.specs.Archive.{data_block, data_chain, entry_block, if_any, entry_chain, first_block, archive}
use Rattle.archive.specs.Reader.{size_in, entry_in, sound_entry, opened}
use Rattle.archive.proofs.Blocks.{length_first, length_chain, length_archive, proper_short}
use Rattle.archive.proofs.Back.{entry_of, entry_long, entry_sound, entry_size, entry_name, entry_back, with_bytes, link_is, chain_first, chain_cons, block_long, part_is, is_nil_lem}
use Rattle.archive.proofs.Reader.{opened_is}
use Rattle.reader.specs.Steps.{fields_in, is_entry, entry_step, fields_of, name_in, raw_in, data_part, next_data}
use Rattle.reader.specs.Claims.{Joins}
use Rattle.reader.specs.Claims

-- from block b on, a is the blocks of the files fs
pub record From (a : List ℕ) (b : ℕ) (fs : List File) : Type 0 where
  pub some : 0 < b
  pub proper : Every Proper fs
  pub is : drop (256 * b) a ≡ entry_chain b fs
  pub long : length a ≡ 256 * (b + blocks_in fs)
  pub few : b + blocks_in fs ≤ 4096

-- the first file
pub from_first : (a : List ℕ) (c : Contents) → Bytes a → opened a ≡ Ok c → From a 1 c.files
unfolding archive
from_first a c h o =
    let s = (opened_is a c h).0 o in
    let v : List ℕ = first_block c.volume (if_any c.files 1) (blocks c) in
    record {
      some = omega arith;
      proper = s.0;
      is = rw s.3 (drop_at v (entry_chain 1 c.files) 256 (length_first c.volume (if_any c.files 1) (blocks c)));
      long = ap length s.3 ∙ length_archive c (proper_short s.0);
      few = s.2;
    }

-- a block's number in two bytes
two_back : (x : ℕ) → x < 65536 → x % 256 + 256 * (x / 256 % 256) ≡ x
two_back x h = two x (x % 256) (x / 256 % 256) h refl refl

-- no further than the last block
link_small : (t : Bool) (x : ℕ) → x < 65536 → cond t 0 x < 65536
link_small true x h = omega arith
link_small false x h = h

every_first : {f : File} {fs : List File} → Every Proper (f ∷ fs) → Proper f × Every Proper fs
every_first (more p ps) = (p, ps)

module _ (a : List ℕ) (b : ℕ) (f : File) (fs : List File) (r : From a b (f ∷ fs)) where
  abbrev k : ℕ
  k = data_blocks f

  abbrev n : ℕ
  n = k + blocks_in fs

  p : Proper f
  p = (every_first r.proper).0

  -- how many blocks there are
  all_long : length a ≡ 256 * (b + (1 + n))
  unfolding blocks_in
  all_long = r.long ∙ omega arith

  all_few : b + (1 + n) ≤ 4096
  unfolding blocks_in
  all_few = omega (arith, r.few)

  -- what stands behind the entry block
  abbrev behind : List ℕ
  behind = data_chain k (b + 1) f.bytes ++ entry_chain (b + 1 + k) fs

  here : drop (256 * b) a ≡ entry_of n b f ++ behind
  here = r.is ∙ chain_first b f fs

  -- the data
  pub from_data_lem : drop (256 * (b + 1)) a ≡ data_chain k (b + 1) f.bytes ++ entry_chain (b + 1 + k) fs
  from_data_lem =
      let e : 256 * (b + 1) ≡ 256 * b + 256 = omega arith in
      rw e (sym (drop-drop 256 (256 * b) a) ∙ ap (drop 256) here ∙ drop_at (entry_of n b f) behind 256 (entry_long n b f p.raw_length))

  -- the next file
  pub from_next : From a (b + 1 + k) fs
  from_next =
      let e : 256 * (b + 1 + k) ≡ 256 * (b + 1) + 256 * k = omega arith in
      record {
        some = omega arith;
        proper = (every_first r.proper).1;
        is =
            rw e (sym (drop-drop (256 * k) (256 * (b + 1)) a) ∙ ap (drop (256 * k)) from_data_lem
            ∙ drop_at (data_chain k (b + 1) f.bytes) (entry_chain (b + 1 + k) fs) (256 * k) (length_chain k (b + 1) f.bytes));
        long = all_long ∙ omega arith;
        few = omega (arith, all_few);
      }

  -- it is taken for an entry block
  small : length f.bytes < 16777216
  small = omega (arith, all_few)

  sound : sound_entry (length a / 256 - (b + 1)) b (drop (256 * b) a) ≡ true
  sound =
      let m : length a / 256 - (b + 1) ≡ n = omega (arith, all_long) in
      rw (m, here) (entry_sound n b f behind p small)

  is_entry_lem : is_entry a b ≡ true
  unfolding is_entry
  is_entry_lem = rw (lt-ltb 0 b r.some, lt-ltb b 4096 (omega (arith, all_few)), sound) refl

  -- its file
  file : entry_in (drop (256 * b) a) [] ≡ with_bytes f []
  file = rw here (entry_back _ _ _ f behind [] p)

  -- its links
  next_is : word_at (entry_of n b f ++ behind) 0 ≡ cond (eqb k n) 0 (b + 1 + k)
  unfolding entry_block padded
  next_is = two_back (cond (eqb k n) 0 (b + 1 + k)) (link_small (eqb k n) (b + 1 + k) (omega (arith, all_few)))

  first_is : word_at (entry_of n b f ++ behind) 2 ≡ cond (eqb k 0) 0 (b + 1)
  unfolding entry_block padded
  first_is = two_back (cond (eqb k 0) 0 (b + 1)) (link_small (eqb k 0) (b + 1) (omega (arith, all_few)))

  length_is : get_or (entry_of n b f ++ behind) 6 0 ≡ length (shown f.raw)
  unfolding entry_block padded
  length_is = refl

  -- the name, as it is shown ..
  pub from_name : name_in a b ≡ shown f.raw
  from_name = rw (here, length_is) (entry_name _ _ (length f.bytes) f p.raw_length behind)

  -- .. and as it is cut
  pub from_raw : raw_in a b ≡ f.raw
  unfolding entry_in
  from_raw = ap (λ (g : File). g.raw) file

  -- the step
  pub from_step : entry_step a b ≡ Some (fields_of b f fs)
  unfolding entry_step fields_in fields_of entry_in
  from_step =
      let e₁ : get_or (drop (256 * b) a) 4 0 ≡ f.kind = ap (λ (g : File). g.kind) file in
      let e₂ : get_or (drop (256 * b) a) 5 0 ≡ f.locked = ap (λ (g : File). g.locked) file in
      let e₃ : word_at (drop (256 * b) a) 37 ≡ f.count = ap (λ (g : File). g.count) file in
      let e₄ : word_at (drop (256 * b) a) 0 ≡ if_any fs (b + 1 + k) = ap (λ (s : List ℕ). word_at s 0) here ∙ next_is ∙ sym (link_is fs k n (b + 1 + k) refl) in
      let e₅ : word_at (drop (256 * b) a) 2 ≡ cond (eqb k 0) 0 (b + 1) = ap (λ (s : List ℕ). word_at s 2) here ∙ first_is in
      let e₆ : get_or (drop (256 * b) a) 6 0 ≡ length (shown f.raw) = ap (λ (s : List ℕ). get_or s 6 0) here ∙ length_is in
      let e₇ : size_in (drop (256 * b) a) ≡ length f.bytes = ap size_in here ∙ entry_size _ _ _ f p.raw_length behind small in
      rw is_entry_lem
      (λ i.
      Some
      (record {
        next = e₄ i;
        first = e₅ i;
        kind = e₁ i;
        locked = e₂ i;
        name_length = e₆ i;
        count = e₃ i;
        size = e₇ i;
      }))

-- ---- the data of a file
-- its first part
module _ (a : List ℕ) (k b : ℕ) (xs t : List ℕ) (h : suc k ≡ blocks_for (length xs)) (e : drop (256 * b) a ≡ data_chain (suc k) b xs ++ t) where
  front : drop (256 * b) a ≡ data_block (cond (eqb k 0) 0 (b + 1)) (take 254 xs) ++ (data_chain k (b + 1) (drop 254 xs) ++ t)
  front = e ∙ chain_cons k b xs t h

  part_read : data_part a b (length xs) ≡ take 254 xs
  part_read = rw front (part_is k b xs (data_chain k (b + 1) (drop 254 xs) ++ t) h)

  next_word : (x : ℕ) (ys zs : List ℕ) → x < 65536 → word_at (data_block x ys ++ zs) 0 ≡ x
  unfolding data_block padded
  next_word x ys zs l = two_back x l

  next_read : b + 1 < 65536 → next_data a b ≡ cond (eqb k 0) 0 (b + 1)
  next_read l = rw front (next_word (cond (eqb k 0) 0 (b + 1)) (take 254 xs) _ (link_small (eqb k 0) (b + 1) l))

  behind_read : drop (256 * (b + 1)) a ≡ data_chain k (b + 1) (drop 254 xs) ++ t
  behind_read =
      let q : 256 * (b + 1) ≡ 256 * b + 256 = omega arith in
      rw q (sym (drop-drop 256 (256 * b) a) ∙ ap (drop 256) front
      ∙ drop_at (data_block (cond (eqb k 0) 0 (b + 1)) (take 254 xs)) (data_chain k (b + 1) (drop 254 xs) ++ t) 256 (block_long k b xs t h))

-- all its parts
pub joins : (a : List ℕ) (k b : ℕ) (xs t : List ℕ) → k ≡ blocks_for (length xs) → 0 < b → b + k ≤ 4096 → drop (256 * b) a ≡ data_chain k b xs ++ t
    → Joins a (cond (eqb k 0) 0 b) (length xs) xs
joins a zero b xs t h l m e = rw (is_nil_lem xs (omega arith)) Claims.end
joins a (suc k) b xs t h l m e =
    let z : length (drop 254 xs) ≡ length xs - 254 = length-drop 254 xs in
    let j : k ≡ blocks_for (length (drop 254 xs)) = omega arith in
    let i : Joins a (cond (eqb k 0) 0 (b + 1)) (length (drop 254 xs)) (drop 254 xs) =
    joins a k (b + 1) (drop 254 xs) t j (omega arith) (omega arith) (behind_read a k b xs t h e) in
    let g : Joins a (next_data a b) (length xs - 254) (drop 254 xs) = rw (next_read a k b xs t h e (omega arith), ← z) i in
    let u : data_part a b (length xs) ++ drop 254 xs ≡ xs = ap (λ (y : List ℕ). y ++ drop 254 xs) (part_read a k b xs t h e) ∙ take-append-drop 254 xs in
    rw (ne_eqb (suc k) 0 (λ q. omega arith)) (subst (Joins a b (length xs)) u (Claims.part b (length xs) (drop 254 xs) l g))
