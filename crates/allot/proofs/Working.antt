-- For the code: a save that may still be refused works on a copy of the VTOC. D is the disk d with the 256 bytes T as its VTOC; what the definitions read
-- and write of D is read and written of T. Assumes nothing.
use mathlib.Core.Path.{◌≡◌, refl, sym, ap, ◌∙◌}
use mathlib.Core.Bool.{Bool}
use mathlib.Core.Logic.{inl, inr}
use mathlib.Core.List.{List, [], ◌∷◌, ◌++◌}
use mathlib.Core.Option.{Option, none, some}
use Prim.Native.Nat.{ℕ, ◌+◌, ◌*◌, ◌-◌, ◌/◌, ◌%◌, ◌<◌, ◌≤◌}
use native.Mathlib.Omega.{arith}
use lib.ListN.{length, get_or, take, drop, length-drop}
use lib.Seq.{ext_get_or, get_or-take, get_or-drop, length-take-le}
use lib.Dec.{eqb}
use Rattle.lists.specs.Fill.{put}
use Rattle.lists.proofs.Split.{by_lt, by_test}
use Rattle.lists.proofs.Put.{length_put}
use Rattle.disk.specs.declared.Place.{Place}
use Rattle.disk.specs.Disk.{start, byte_of, bytes_of, sectors}
use Rattle.allot.specs.Table.{map_in, marked_in, taken_in}
use Rattle.disk.specs.Vtoc.{vtoc, map_word}
use Rattle.holders.specs.Holders.{bit, free}
use Rattle.amend.specs.Lines.{first_of}
use Rattle.disk.proofs.Places.{is_on}
use Rattle.amend.specs.Search.{Spot, with_bit, marked, taken}
use Rattle.amend.proofs.Puts.{put_off, put_in, byte_sector, sector_fits, sector_put}

-- ---- a part put into a part
pub put_inner : (a c : ℕ) (x t d : List ℕ) → a + length t ≤ length d → c + length x ≤ length t → put (a + c) x (put a t d) ≡ put a (put c x t) d
put_inner a c x t d f g =
    let l₁ : length (put a t d) ≡ length d = length_put a t d f in
    let l₂ : length (put c x t) ≡ length t = length_put c x t g in
    let f₁ : a + c + length x ≤ length (put a t d) = omega arith in
    let f₂ : a + length (put c x t) ≤ length d = omega arith in
    let l₃ : length (put (a + c) x (put a t d)) ≡ length (put a t d) = length_put (a + c) x (put a t d) f₁ in
    let l₄ : length (put a (put c x t) d) ≡ length d = length_put a (put c x t) d f₂ in
    ext_get_or 0 (put (a + c) x (put a t d)) (put a (put c x t) d) (omega arith)
    (λ i h.
    by_lt i a
    (λ k. put_off (a + c) x (put a t d) f₁ i (inl (omega arith)) ∙ put_off a t d f i (inl k) ∙ sym (put_off a (put c x t) d f₂ i (inl k)))
    (λ k.
    let j : ℕ = i - a in
    let q : i ≡ a + j = omega arith in
    by_lt j (length t)
    (λ m.
    let right : get_or (put a (put c x t) d) i 0 ≡ get_or (put c x t) j 0 = ap (λ (y : ℕ). get_or (put a (put c x t) d) y 0) q ∙ put_in a (put c x t) d f₂ j (omega arith) in
    by_lt j c
    (λ u. put_off (a + c) x (put a t d) f₁ i (inl (omega arith)) ∙ ap (λ (y : ℕ). get_or (put a t d) y 0) q ∙ put_in a t d f j m
    ∙ sym (right ∙ put_off c x t g j (inl u)))
    (λ u.
    by_lt j (c + length x)
    (λ v.
    let s : ℕ = j - c in
    let w : i ≡ a + c + s = omega arith in
    let z : j ≡ c + s = omega arith in
    ap (λ (y : ℕ). get_or (put (a + c) x (put a t d)) y 0) w ∙ put_in (a + c) x (put a t d) f₁ s (omega arith)
    ∙ sym (right ∙ ap (λ (y : ℕ). get_or (put c x t) y 0) z ∙ put_in c x t g s (omega arith)))
    (λ v.
    put_off (a + c) x (put a t d) f₁ i (inr (omega arith)) ∙ ap (λ (y : ℕ). get_or (put a t d) y 0) q ∙ put_in a t d f j m
    ∙ sym (right ∙ put_off c x t g j (inr v)))))
    (λ m.
    put_off (a + c) x (put a t d) f₁ i (inr (omega arith)) ∙ put_off a t d f i (inr (omega arith)) ∙ sym (put_off a (put c x t) d f₂ i (inr (omega arith))))))

-- a part put back where it was
pub put_self : (a k : ℕ) (d : List ℕ) → a + k ≤ length d → put a (take k (drop a d)) d ≡ d
put_self a k d f =
    let l : length (take k (drop a d)) ≡ k = length-take-le k (drop a d) (rw length-drop (omega arith)) in
    let g : a + length (take k (drop a d)) ≤ length d = omega arith in
    let m : length (put a (take k (drop a d)) d) ≡ length d = length_put a (take k (drop a d)) d g in
    ext_get_or 0 (put a (take k (drop a d)) d) d m
    (λ i h.
    by_lt i a (λ u. put_off a (take k (drop a d)) d g i (inl u))
    (λ u.
    by_lt i (a + k)
    (λ v.
    let j : ℕ = i - a in
    let q : i ≡ a + j = omega arith in
    ap (λ (y : ℕ). get_or (put a (take k (drop a d)) d) y 0) q ∙ put_in a (take k (drop a d)) d g j (omega arith)
    ∙ get_or-take k (drop a d) j 0 (omega arith) ∙ get_or-drop a d j 0 ∙ ap (λ (y : ℕ). get_or d y 0) (sym q))
    (λ v. put_off a (take k (drop a d)) d g i (inr (omega arith)))))

-- ---- a table of its own
-- a bit made v leaves it as long as it is
pub length_marked : (n : ℕ) (T : List ℕ) (v : ℕ) (p : Place) → length T ≡ 256 → p.track.0 < 35 → length (marked_in n T v p) ≡ 256
length_marked n T v p long h = length_put (56 + 4 * p.track.0) _ T (omega arith) ∙ long

module _ (n : ℕ) (some' : 0 < n) (d : List ℕ) (size : length d ≡ 256 * sectors n) where
  -- the disk with this table
  abbrev pub with_table : List ℕ → List ℕ
  with_table T = put (start n vtoc) T d

  room : start n vtoc + 256 ≤ length d
  room = sector_fits n d vtoc size (is_on n 17 0 (omega arith) some')

  -- with its own table it is itself
  pub table_self : with_table (bytes_of n d vtoc) ≡ d
  unfolding bytes_of
  table_self = put_self (start n vtoc) 256 d room

  module _ (T : List ℕ) (long : length T ≡ 256) where
    -- its VTOC is that table
    pub table_is : bytes_of n (with_table T) vtoc ≡ T
    table_is = sector_put n d T vtoc room long

    pub table_byte : (k : ℕ) → k < 256 → byte_of n (with_table T) vtoc k ≡ get_or T k 0
    table_byte k h = byte_sector n (with_table T) vtoc k h ∙ ap (λ (s : List ℕ). get_or s k 0) table_is

    -- the map
    pub table_map : (t : ℕ) → t < 35 → map_word n (with_table T) t ≡ map_in T t
    table_map t h = let a = table_byte (56 + 4 * t) (omega arith) in let b = table_byte (57 + 4 * t) (omega arith) in λ i. 256 * a i + b i

    pub table_free : (p : Place) → p.track.0 < 35 → free n (with_table T) p ≡ eqb (bit (p.sector.0 + (16 - n)) (map_in T p.track.0)) 1
    unfolding free
    table_free p h = rw (table_map p.track.0 h) refl

    -- a bit made v, and a sector taken
    pub table_marked : (v : ℕ) (p : Place) → p.track.0 < 35 → marked n (with_table T) v p ≡ with_table (marked_in n T v p)
    unfolding marked
    table_marked v p h =
        let w : ℕ = with_bit (p.sector.0 + (16 - n)) v (map_in T p.track.0) in
        ap (λ (m : ℕ). put (start n vtoc + (56 + 4 * p.track.0)) (with_bit (p.sector.0 + (16 - n)) v m / 256 ∷ with_bit (p.sector.0 + (16 - n)) v m % 256 ∷ []) (with_table T)) (table_map p.track.0 h)
        ∙ put_inner (start n vtoc) (56 + 4 * p.track.0) (w / 256 ∷ w % 256 ∷ []) T d (let r = room in omega arith) (omega arith)

    pub marked_long : (v : ℕ) (p : Place) → p.track.0 < 35 → length (marked_in n T v p) ≡ 256
    marked_long v p h = length_marked n T v p long h

  pub table_taken : (T : List ℕ) → length T ≡ 256 → (q : Spot) → q.place.track.0 < 35 → taken n (with_table T) q ≡ with_table (taken_in n T q)
  unfolding taken
  table_taken T long q h =
      ap (put (start n vtoc + 48) (q.place.track.0 ∷ q.direction ∷ [])) (table_marked T long 0 q.place h)
      ∙ put_inner (start n vtoc) 48 (q.place.track.0 ∷ q.direction ∷ []) (marked_in n T 0 q.place) d
      (let r = room in let l = marked_long T long 0 q.place h in omega arith) (let l = marked_long T long 0 q.place h in omega arith)

-- ---- the first of two lists, one behind the other
abbrev pub or_else : {A : Type 0} → Option A → Option A → Option A
or_else none o = o
or_else (some x) o = some x

pub first_append : {A : Type 0} (test : A → Bool) (xs ys : List A) → first_of test (xs ++ ys) ≡ or_else (first_of test xs) (first_of test ys)
unfolding first_of
first_append test [] ys = refl
first_append test (x ∷ xs) ys = by_test (test x) (λ e. rw e refl) (λ e. rw e (first_append test xs ys))
