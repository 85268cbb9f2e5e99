-- The sectors of a file, written from their places, function by function. Assumes nothing.
use mathlib.Core.Path.{◌≡◌, refl, sym, ap, ◌∙◌}
use mathlib.Core.List.{List, [], ◌∷◌, ◌++◌, append-nil}
use Prim.Native.Nat.{ℕ, suc, ◌+◌, ◌*◌, ◌-◌, ◌/◌, ◌%◌, ◌<◌, ◌≤◌}
use native.Mathlib.Numerals.{add-one}
use native.Mathlib.Omega.{arith}
use lib.ListN.{length, get_or, take, drop, replicate, length-take, length-drop, length-replicate}
use lib.Seq.{drop-append-add}
use borrow.Author.Tests.{le-leb, lt-leb}
use borrow.Author.Rules.{rules}
use Rattle.lists.specs.Fill.{padded, placed}
use Rattle.lists.specs.Words.{le2}
use Rattle.lists.proofs.Laws.{placed_zeros}
use Rattle.lists.proofs.Placed.{length_placed}
use Rattle.lists.proofs.Put.{Put, placed_put, put_more, put_zeros}
use Rattle.disk.specs.declared.Place.{Place}
use Rattle.disk.specs.Disk.{start}
use Rattle.records.specs.Records.{file_record}
use Rattle.filing.specs.Filing.{place_in, list_in, with_lists, data_in, with_data, filed, Filed}
use Rattle.filing.specs.Steps.{ListMade, DataMade, DataPut, ListsWritten, DataWritten}

-- ---- a place

-- ---- bytes put into zeros, one run behind the other
module _ (n : ℕ) (z : List ℕ) (ez : z ≡ replicate n 0) where
  long : length z ≡ n
  long = rw (ez, length-replicate {A = ℕ} n 0) refl

  -- the first run
  run : (x a : List ℕ) → a ≡ placed 0 x z → length x ≤ n → Put 0 x z a
  run x a e h = placed_put e (omega (arith, long))

  -- one more behind it
  more_run : (x y a o : List ℕ) (i : ℕ) → Put 0 x z a → o ≡ placed i y a → i ≡ length x → i + length y ≤ n → Put 0 (x ++ y) z o
  more_run x y a o i p e q h = put_more p (placed_put e (omega (arith, long, p.long))) (omega arith) (omega (arith, long))

-- ---- a list
pub list_made : (P : List ℕ) (j t s : ℕ) (q z a o : List ℕ) → t ≡ get_or P (246 * (j + 1)) 0 → s ≡ get_or P (246 * (j + 1) + 1) 0 → z ≡ replicate 256 0
    → a ≡ placed 0 (0 ∷ t ∷ s ∷ 0 ∷ 0 ∷ 122 * j % 256 ∷ 122 * j / 256 % 256 ∷ 0 ∷ 0 ∷ 0 ∷ 0 ∷ 0 ∷ []) z → q ≡ take 244 (drop (246 * j + 2) P)
    → o ≡ placed 12 q a → ListMade P j o
unfolding list_in
list_made P j t s q z a o et es ez ea eq eo =
    let l : length q ≤ 244 = rw (eq, length-take) (omega arith) in
    let p = run 256 z ez _ a ea (omega arith) in
    record { is = put_zeros 256 ez (more_run 256 z ez _ q a o 12 p eo refl (omega arith)) ∙ rw (et, es, eq) refl }

pub ruleset list_makes = (list_made, rules)

-- ---- a data sector
-- those after the first are cut four bytes earlier, since address and length stand before the data
later_bytes : (address : ℕ) (bytes : List ℕ) (k : ℕ) → (k ≡ 0 → ⊥)
    → data_in (file_record address (length bytes) bytes) k ≡ padded 256 (take 256 (drop (256 * k - 4) bytes))
unfolding data_in file_record
later_bytes address bytes k h =
    let e : 256 * k ≡ 4 + (256 * k - 4) = omega arith in
    let f : List ℕ = le2 address ++ le2 (length bytes) in
    let g : drop (256 * k) (f ++ bytes) ≡ drop (256 * k - 4) bytes = ap (λ (i : ℕ). drop i (f ++ bytes)) e ∙ drop-append-add f bytes (256 * k - 4) in
    rw g refl

module _ (address : ℕ) (bytes : List ℕ) (z : List ℕ) (ez : z ≡ replicate 256 0) where
  -- address and length stand in the first four bytes of the first
  pub data_first : (k : ℕ) (q a b o : List ℕ) → k ≡ 0 → length bytes ≤ 32768 → a ≡ placed 0 (le2 address) z → b ≡ placed 2 (le2 (length bytes)) a
      → q ≡ take 252 (drop 0 bytes) → o ≡ placed 4 q b → DataMade address bytes k o
  unfolding data_in file_record
  data_first k q a b o ek h ea eb eq eo =
      let l : length q ≤ 252 = rw (eq, length-take) (omega arith) in
      let p : Put 0 (le2 address) z a = run 256 z ez _ a ea (omega arith) in
      let r : Put 0 (le2 address ++ le2 (length bytes)) z b = more_run 256 z ez _ _ a b 2 p eb refl (omega arith) in
      record { is = put_zeros 256 ez (more_run 256 z ez _ q b o 4 r eo refl (omega arith)) ∙ rw (ek, eq) refl }

  pub data_more : (k : ℕ) (q o : List ℕ) → (k ≡ 0 → ⊥) → q ≡ take 256 (drop (256 * k - 4) bytes) → o ≡ placed 0 q z → DataMade address bytes k o
  data_more k q o h eq eo =
      let l : length q ≤ 256 = rw (eq, length-take) (omega arith) in
      record { is = eo ∙ rw (ez, placed_zeros 256 q l, eq, later_bytes address bytes k h) refl }

pub ruleset data_makes = (data_first, data_more, rules)

-- ---- a data sector, to its place
-- 256 bytes are padded to themselves
padded_full : (x : List ℕ) → length x ≡ 256 → padded 256 x ≡ x
unfolding padded
padded_full x l = rw l (append-nil x)

module _ (P : List ℕ) (address : ℕ) (bytes : List ℕ) (k : ℕ) (d o : List ℕ) where
  -- one that the data fill whole
  pub put_whole : (p : Place) (at : ℕ) (q : List ℕ) → o ≡ placed at q d → q ≡ take 256 (drop (256 * k - 4) bytes) → p ≡ place_in P (k + 1 + k / 122) → at ≡ start 16 p
      → (k ≡ 0 → ⊥) → 256 * k + 252 ≤ length bytes → DataPut P address bytes k d o
  put_whole p at q e eq ep ea h n =
      let l : length q ≡ 256 = rw (eq, length-take, length-drop) (omega arith) in
      record { is = e ∙ rw (ea, ep, later_bytes address bytes k h, sym eq, padded_full q l) refl }

  -- any other
  pub put_made : (x : List ℕ) → DataMade address bytes k x → (p : Place) (at : ℕ) → o ≡ placed at x d → p ≡ place_in P (k + 1 + k / 122) → at ≡ start 16 p
      → DataPut P address bytes k d o
  put_made x m p at e ep ea = record { is = e ∙ rw (ea, ep, m.is) refl }

pub ruleset data_puts = (put_whole, put_made, rules)

-- ---- the lists
pub record Listing (P : List ℕ) (count j : ℕ) (d o : List ℕ) : Type 0 where
  pub few : count ≤ 2
  pub done : j ≤ count
  pub is : o ≡ with_lists P j d
  pub long : length o ≡ length d

module _ (P : List ℕ) (count : ℕ) where
  pub lists_none : (d : List ℕ) → count ≤ 2 → Listing P count 0 d d
  unfolding with_lists
  lists_none d h = record { few = h; done = omega arith; is = refl; long = refl }

  module _ (j : ℕ) (d o : List ℕ) (c : Listing P count j d o) where
    pub lists_long : length o ≡ length d
    lists_long = c.long

    pub lists_small : j < count → j < 2
    lists_small h = let f = c.few in omega arith

    pub lists_place : j < count → 123 * j < 131
    lists_place h = let f = c.few in omega arith

    pub lists_more : (x : List ℕ) → ListMade P j x → (p : Place) (at : ℕ) (o' : List ℕ) → o' ≡ placed at x o → p ≡ place_in P (123 * j) → at ≡ start 16 p → j < count
        → Listing P count (j + 1) d o'
    unfolding with_lists
    lists_more x m p at o' e ep ea h =
        record { few = c.few; done = omega arith; is = e ∙ rw (add-one j, ea, ep, m.is, c.is) refl; long = ap length e ∙ length_placed at x o ∙ c.long }

    pub lists_done : count ≤ j → ListsWritten P count d o
    lists_done h = let e : j ≡ count = omega (arith, c.done) in record { is = rw e at c.is }

pub ruleset listings = (lists_none, lists_long, lists_small, lists_place, lists_more, lists_done, rules)

-- ---- the data
pub record Storing (P : List ℕ) (address : ℕ) (bytes : List ℕ) (count k : ℕ) (d o : List ℕ) : Type 0 where
  pub size : length bytes ≤ 32768
  pub few : count ≤ 129
  pub done : k ≤ count
  pub is : o ≡ with_data P (file_record address (length bytes) bytes) k d
  pub long : length o ≡ length d

module _ (P : List ℕ) (address : ℕ) (bytes : List ℕ) (count : ℕ) where
  pub data_none : (d : List ℕ) → length bytes ≤ 32768 → count ≤ 129 → Storing P address bytes count 0 d d
  unfolding with_data
  data_none d l h = record { size = l; few = h; done = omega arith; is = refl; long = refl }

  module _ (k : ℕ) (d o : List ℕ) (c : Storing P address bytes count k d o) where
    pub data_long : length o ≡ length d
    data_long = c.long

    pub data_size : length bytes ≤ 32768
    data_size = c.size

    pub data_small : k < count → k < 129
    data_small h = let f = c.few in omega arith

    pub data_next : (o' : List ℕ) → DataPut P address bytes k o o' → k < count → Storing P address bytes count (k + 1) d o'
    unfolding with_data
    data_next o' p h =
        let s : List ℕ = file_record address (length bytes) bytes in
        let e : o' ≡ with_data P s (suc k) d = p.is ∙ rw c.is refl in
        record { size = c.size; few = c.few; done = omega arith; is = e ∙ ap (λ (n : ℕ). with_data P s n d) (sym (add-one k)); long = ap length p.is ∙ length_placed _ _ o ∙ c.long }

    pub data_done : count ≤ k → DataWritten P address bytes count d o
    data_done h = let e : k ≡ count = omega (arith, c.done) in record { is = rw e at c.is }

pub ruleset storings = (data_none, data_long, data_size, data_small, data_next, data_done, rules)

-- ---- the file
module _ (P : List ℕ) (address : ℕ) (bytes : List ℕ) (d : List ℕ) where
  pub file_long : (m : ℕ) → m < length bytes → 32768 ≤ m → Filed P address bytes d d
  unfolding filed
  file_long m h l = record { is = rw (lt-leb (length bytes) 32768 (omega arith)) refl }

  pub file_done : (c m : ℕ) (a o : List ℕ) → ListsWritten P c d a → DataWritten P address bytes m a o → c ≡ (m + 121) / 122 → m ≡ (4 + length bytes + 255) / 256
      → length bytes ≤ 32768 → Filed P address bytes d o
  unfolding filed
  file_done c m a o x y ec em h =
      record { is = y.is ∙ rw (x.is, ec, em, le-leb (length bytes) 32768 h) refl }

pub ruleset filings = (file_long, file_done, rules)
