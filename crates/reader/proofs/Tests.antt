-- The reader's tests, as its code makes them. Assumes nothing.
use mathlib.Core.Path.{◌≡◌, refl, sym, ap, ◌∙◌}
use mathlib.Core.Logic.{◌↔◌}
use mathlib.Core.Bool.{Bool, true, false, cond, not, ◌&&◌, ◌||◌}
use mathlib.Core.List.{List, [], ◌∷◌, ◌++◌, append_assoc}
use Prim.Native.Nat.{ℕ, zero, suc, ◌+◌, ◌*◌, ◌-◌, ◌/◌, ◌%◌, ◌<◌, ◌≤◌}
use native.Mathlib.Omega.{arith}
use lib.ListN.{length, get_or, take, drop, length-append, length-drop, length-take, drop_of_length-le, replicate}
use lib.Seq.{drop-cons, drop-drop, take-add, take_all, take-take}
use lib.Dec.{eqb, leb, ltb}
use borrow.Author.Tests.{eq-eqb, ne_eqb, eqb-true, le-leb, lt-leb, not-true, not-false}
use borrow.Author.Rules.{rules}
use mir.Val.{Fits}
use mir.Syntax.{w8}
use Rattle.std.specs.Prelude.{All}
use Rattle.lists.proofs.Iterated.{all_is}
use Rattle.lists.specs.Fill.{padded}
use Rattle.lists.specs.Select.{all, among}
use Rattle.lists.specs.Same.{same}
use Rattle.lists.specs.Words.{word_at, le2, le3}
use Rattle.lists.proofs.Laws.{length_padded}
use Rattle.lists.proofs.Split.{by_test, both_true, and_assoc, and_true}
use Rattle.lists.proofs.Bounds.{at_part}
use Rattle.lists.proofs.Equal.{same_refl, same_length, same_append}
use Rattle.catalog.specs.declared.Name.{Name}
use Rattle.catalog.specs.Catalog.{kind_of, shown}
use Rattle.catalog.specs.Listing.{name_of}
use Rattle.catalog.proofs.Names.{shown_short, plain_is}
use Rattle.files.specs.Contents.{File}
use Rattle.files.specs.Survey.{blocks_for}
use Rattle.archive.specs.Archive.{data_block, entry_block, first_block}
use Rattle.archive.proofs.Blocks.{length_data, length_entry}
use Rattle.archive.specs.Reader.{size_in, entry_in, allowed, sound_entry, part_in, sound_data, sound_first}
use Rattle.reader.specs.Tests.{links_due, name_due, blank_entry}

-- ---- the bytes from a block on
pub from_past : (a : List ℕ) (b n : ℕ) → n ≡ length a → n / 256 < b → [] ≡ drop (256 * b) a
from_past a b n e h = sym (drop_of_length-le a {i = 256 * b} (omega arith))

pub from_whole : (a : List ℕ) (b n : ℕ) → n ≡ length a → take (n - 256 * b) (drop (256 * b) a) ≡ drop (256 * b) a
from_whole a b n e = take_all (n - 256 * b) (drop (256 * b) a) (rw (length-drop, e) (omega arith))

-- ---- a link
pub link_none : (t : Bool) (b : ℕ) → t ≡ true → 0 ≡ cond t 0 b % 65536
link_none t b e = rw e refl

pub link_some : (t : Bool) (b : ℕ) → t ≡ false → b % 65536 ≡ cond t 0 b % 65536
link_some t b e = rw e refl

pub ruleset fields = (from_past, from_whole, link_none, link_some, rules)

-- two bytes of it
low_byte : (x : ℕ) → x % 65536 % 256 ≡ x % 256
low_byte x = omega arith

high_byte : (x : ℕ) → x % 65536 / 256 % 256 ≡ x / 256 % 256
high_byte x = omega arith

-- ---- an entry block
-- the fields of the file that s begins with
pub allowed_is : (s : List ℕ) (kind locked size k : ℕ) (raw : List ℕ) (w : Bool) → ((k : ℕ) → Fits w8 (get_or s k 0)) → kind ≡ get_or s 4 0 → k ≡ kind_of kind
    → locked ≡ get_or s 5 0 → raw ≡ take 30 (drop 42 s) → w ≡ among 128 (take 30 (drop 42 s)) → size ≡ size_in s
    → (eqb k kind && (ltb locked 2 && (eqb (length raw) 30 && (not w && (eqb kind 4 || eqb size 0))))) ≡ allowed (size_in s) (entry_in s [])
unfolding allowed entry_in
allowed_is s kind locked size k raw w g u v l x y z =
    let p = plain_is (take 30 (drop 42 s)) (at_part (λ b. b < 256) (omega arith) 30 42 s (λ i. omega (arith, g i))) in
    rw (v, u, l, x, y, z, p) refl

-- what is allowed has 30 name bytes
long_raw : (size : ℕ) (f : File) → allowed size f ≡ true → length f.raw ≡ 30
unfolding allowed
long_raw size f e =
    let p₁ = both_true (eqb (kind_of f.kind) f.kind) _ e in
    let p₂ = both_true (ltb f.locked 2) _ p₁.1 in
    let p₃ = both_true (eqb (length f.raw) 30) _ p₂.1 in
    eqb-true _ _ p₃.0

-- ---- zeros
pub blank_is : (s : List ℕ) (r : Bool) → (r ≡ true) ↔ All (λ b. b ≡ 0) s → r ≡ all (λ b. eqb b 0) s
blank_is s r h = all_is (λ b. b ≡ 0) (λ b. eqb b 0) (λ x. (eqb-true x 0, eq-eqb x 0)) s r h

-- a list of zeros
same_zeros : (xs : List ℕ) → same xs (replicate (length xs) 0) ≡ all (λ b. eqb b 0) xs
unfolding same all
same_zeros [] = refl
same_zeros (x ∷ xs) = rw (same_zeros xs) refl

-- a list of which the front is as it is, and the rest zeros
same_front : (n : ℕ) (xs : List ℕ) → same xs (take n xs ++ replicate (length xs - length (take n xs)) 0) ≡ all (λ b. eqb b 0) (drop n xs)
unfolding same all
same_front zero xs = let e : length xs - 0 ≡ length xs = omega arith in rw e (same_zeros xs)
same_front (suc n) [] = refl
same_front (suc n) (x ∷ xs) =
    let e : suc (length xs) - suc (length (take n xs)) ≡ length xs - length (take n xs) = omega arith in
    rw (e, eq-eqb x x refl) (same_front n xs)

-- ---- an entry block in its parts
-- some bytes of it, one by one
three_of_lem : (s : List ℕ) (i : ℕ) → i + 3 ≤ length s → take 3 (drop i s) ≡ get_or s i 0 ∷ get_or s (suc i) 0 ∷ get_or s (suc (suc i)) 0 ∷ []
three_of_lem s i h = rw (drop-cons s i 0 (omega arith), drop-cons s (suc i) 0 (omega arith), drop-cons s (suc (suc i)) 0 (omega arith)) refl

-- numbers of two and of three bytes, as they stand
two_same : (a b : ℕ) → a < 256 → b < 256 → le2 (a + 256 * b) ≡ a ∷ b ∷ []
two_same a b h k =
    let e : (a + 256 * b) % 256 ≡ a = omega arith in
    let q : (a + 256 * b) / 256 ≡ b = omega arith in
    let f : b % 256 ≡ b = omega arith in
    rw (e, q, f) refl

three_same : (a b c : ℕ) → a < 256 → b < 256 → c < 256 → le3 (a + 256 * b + 65536 * c) ≡ a ∷ b ∷ c ∷ []
three_same a b c h k l =
    let e : (a + 256 * b + 65536 * c) % 256 ≡ a = omega arith in
    let q : (a + 256 * b + 65536 * c) / 256 ≡ b + 256 * c = omega arith in
    let f : (b + 256 * c) % 256 ≡ b = omega arith in
    let r : (a + 256 * b + 65536 * c) / 65536 ≡ c = omega arith in
    let g : c % 256 ≡ c = omega arith in
    rw (e, q, f, r, g) refl

module _ (s : List ℕ) (h : 256 ≤ length s) where
  -- the block
  block_is : take 256 s ≡ take 4 s ++ (take 3 (drop 4 s) ++ (take 30 (drop 7 s) ++ (take 5 (drop 37 s) ++ (take 30 (drop 42 s) ++ take 184 (drop 72 s)))))
  block_is =
      take-add 4 252 s ∙ ap (λ (x : List ℕ). take 4 s ++ x)
      (take-add 3 249 (drop 4 s) ∙ rw (drop-drop 3 4 s)
      (ap (λ (x : List ℕ). take 3 (drop 4 s) ++ x)
      (take-add 30 219 (drop 7 s) ∙ rw (drop-drop 30 7 s)
      (ap (λ (x : List ℕ). take 30 (drop 7 s) ++ x)
      (take-add 5 214 (drop 37 s) ∙ rw (drop-drop 5 37 s)
      (ap (λ (x : List ℕ). take 5 (drop 37 s) ++ x) (take-add 30 184 (drop 42 s) ∙ rw (drop-drop 30 42 s) refl)))))))

  -- type and lock are what they say, the name's length is tested, and the two numbers are what they say
  fields_same : (m : ℕ) → same (take 3 (drop 4 s)) (get_or s 4 0 ∷ get_or s 5 0 ∷ m ∷ []) ≡ eqb (get_or s 6 0) m
  unfolding same
  fields_same m = rw (three_of_lem s 4 (omega arith), eq-eqb (get_or s 4 0) (get_or s 4 0) refl, eq-eqb (get_or s 5 0) (get_or s 5 0) refl) (and_true (eqb (get_or s 6 0) m))

  numbers_same : ((k : ℕ) → Fits w8 (get_or s k 0)) → same (take 5 (drop 37 s)) (le2 (word_at s 37) ++ le3 (size_in s)) ≡ true
  numbers_same g =
      let d : take 5 (drop 37 s) ≡ get_or s 37 0 ∷ get_or s 38 0 ∷ get_or s 39 0 ∷ get_or s 40 0 ∷ get_or s 41 0 ∷ [] =
      rw (drop-cons s 37 0 (omega arith), drop-cons s 38 0 (omega arith), drop-cons s 39 0 (omega arith), drop-cons s 40 0 (omega arith), drop-cons s 41 0 (omega arith)) refl in
      let e = two_same (get_or s 37 0) (get_or s 38 0) (omega (arith, g 37)) (omega (arith, g 38)) in
      let f = three_same (get_or s 39 0) (get_or s 40 0) (get_or s 41 0) (omega (arith, g 39)) (omega (arith, g 40)) (omega (arith, g 41)) in
      let five : List ℕ = get_or s 37 0 ∷ get_or s 38 0 ∷ get_or s 39 0 ∷ get_or s 40 0 ∷ get_or s 41 0 ∷ [] in
      let r : le2 (word_at s 37) ++ le3 (size_in s) ≡ five =
      ap (λ (x : List ℕ). x ++ le3 (size_in s)) e ∙ ap (λ (x : List ℕ). get_or s 37 0 ∷ get_or s 38 0 ∷ x) f in
      ap (λ (x : List ℕ). same x (le2 (word_at s 37) ++ le3 (size_in s))) d ∙ ap (same five) r ∙ same_refl five

  -- zeros behind all
  rest_same : same (take 184 (drop 72 s)) (replicate 184 0) ≡ blank_entry s
  unfolding blank_entry
  rest_same =
      let e : length (take 184 (drop 72 s)) ≡ 184 = rw (length-take, length-drop) (omega arith) in
      ap (λ (n : ℕ). same (take 184 (drop 72 s)) (replicate n 0)) (sym e) ∙ same_zeros (take 184 (drop 72 s))

-- the block that is due
due_parts : (x y size : ℕ) (f : File) → length f.raw ≡ 30
    → entry_block x y size f
    ≡ (le2 x ++ le2 y)
    ++ ((f.kind ∷ f.locked ∷ length (shown f.raw) ∷ []) ++ (padded 30 (shown f.raw) ++ ((le2 f.count ++ le3 size) ++ (f.raw ++ replicate 184 0))))
unfolding entry_block
due_parts x y size f h =
    let name : List ℕ = shown f.raw in
    let s = shown_short f.raw in
    let P : List ℕ = padded 30 name in
    let C : List ℕ = le2 f.count ++ (le3 size ++ f.raw) in
    let l : length P ≡ 30 = length_padded 30 name (omega arith) in
    let X : List ℕ = le2 x ++ (le2 y ++ (f.kind ∷ f.locked ∷ length name ∷ P ++ C)) in
    let m : 256 - length X ≡ 184 = omega (arith, length-append P C) in
    let e : padded 256 X ≡ X ++ replicate (256 - length X) 0 = unfold padded in refl in
    e ∙ rw m (rw (append_assoc P C (replicate {A = ℕ} 184 0)) refl)

-- the test in its parts
module _ (s : List ℕ) (n b : ℕ) where
  pub entry_short : length s < 256 → false ≡ sound_entry n b s
  unfolding sound_entry
  entry_short h =
      let k = blocks_for (size_in s) in
      let f = entry_in s [] in
      by_test (allowed (size_in s) f)
      (λ a.
      rw a
      (same_length (take 256 s) (entry_block (cond (eqb k n) 0 (b + 1 + k)) (cond (eqb k 0) 0 (b + 1)) (size_in s) f)
      (λ q. omega (arith, length_entry (cond (eqb k n) 0 (b + 1 + k)) (cond (eqb k 0) 0 (b + 1)) (size_in s) f (omega (arith, long_raw (size_in s) f a)), length-take 256 s))))
      (λ a. rw a refl)

  -- the block asked for, part by part
  entry_parts : 256 ≤ length s → ((k : ℕ) → Fits w8 (get_or s k 0)) → allowed (size_in s) (entry_in s []) ≡ true
      → sound_entry n b s ≡ (same (take 4 s) (links_due n b s) && (name_due s && blank_entry s))
  unfolding sound_entry links_due name_due entry_in
  entry_parts h g a =
      let k = blocks_for (size_in s) in
      let x = cond (eqb k n) 0 (b + 1 + k) in
      let y = cond (eqb k 0) 0 (b + 1) in
      let raw : List ℕ = take 30 (drop 42 s) in
      let name : List ℕ = shown raw in
      let r : length raw ≡ 30 = long_raw (size_in s) (entry_in s []) a in
      let i = shown_short raw in
      let z : List ℕ = replicate 184 0 in
      let nums : List ℕ = le2 (word_at s 37) ++ le3 (size_in s) in
      let e₅ : same (raw ++ take 184 (drop 72 s)) (raw ++ z) ≡ blank_entry s =
      same_append raw (take 184 (drop 72 s)) raw z refl ∙ rw (same_refl raw, rest_same s h) refl in
      let e₄ : same (take 5 (drop 37 s) ++ (raw ++ take 184 (drop 72 s))) (nums ++ (raw ++ z)) ≡ blank_entry s =
      same_append (take 5 (drop 37 s)) (raw ++ take 184 (drop 72 s)) nums (raw ++ z) (rw (length-take, length-drop) (omega arith)) ∙ rw (numbers_same s h g, e₅) refl in
      let e₃ : same (take 30 (drop 7 s) ++ (take 5 (drop 37 s) ++ (raw ++ take 184 (drop 72 s)))) (padded 30 name ++ (nums ++ (raw ++ z)))
      ≡ (same (take 30 (drop 7 s)) (padded 30 name) && blank_entry s) =
      same_append (take 30 (drop 7 s)) _ (padded 30 name) _ (rw (length-take, length-drop, length_padded 30 name (omega arith)) (omega arith))
      ∙ ap (λ (t : Bool). same (take 30 (drop 7 s)) (padded 30 name) && t) e₄ in
      let u : List ℕ = take 30 (drop 7 s) ++ (take 5 (drop 37 s) ++ (raw ++ take 184 (drop 72 s))) in
      let v : List ℕ = padded 30 name ++ (nums ++ (raw ++ z)) in
      let w : List ℕ = get_or s 4 0 ∷ get_or s 5 0 ∷ length name ∷ [] in
      let e₂ : same (take 3 (drop 4 s) ++ u) (w ++ v) ≡ (name_due s && blank_entry s) =
      same_append (take 3 (drop 4 s)) u w v (rw (length-take, length-drop) (omega arith)) ∙ rw (fields_same s h (length name), e₃)
      (and_assoc (eqb (get_or s 6 0) (length name)) (same (take 30 (drop 7 s)) (padded 30 name)) (blank_entry s)) in
      let e₁ = same_append (take 4 s) (take 3 (drop 4 s) ++ u) (le2 x ++ le2 y) (w ++ v) (rw length-take (omega arith)) ∙ ap (λ (t : Bool). same (take 4 s) (le2 x ++ le2 y) && t) e₂ in
      rw (a, block_is s h, due_parts x y (size_in s) (entry_in s []) r) e₁

  -- its returns
  module _ (t : Bool) (y : t ≡ allowed (size_in s) (entry_in s [])) where
    pub entry_not : t ≡ false → false ≡ sound_entry n b s
    unfolding sound_entry
    entry_not e = rw (← y, e) refl

    module _ (u : Bool) (e : t ≡ true) (h : 256 ≤ length s) (g : (k : ℕ) → Fits w8 (get_or s k 0)) (o : u ≡ same (take 4 s) (links_due n b s)) where
      pub entry_off : u ≡ false → false ≡ sound_entry n b s
      entry_off z = sym (entry_parts h g (sym y ∙ e) ∙ rw (← o, z) refl)

      module _ (v : Bool) (z : u ≡ true) (i : v ≡ name_due s) where
        pub entry_misnamed : v ≡ false → false ≡ sound_entry n b s
        entry_misnamed j = sym (entry_parts h g (sym y ∙ e) ∙ rw (← o, z, ← i, j) refl)

        pub entry_is : (r : Bool) → v ≡ true → r ≡ blank_entry s → r ≡ sound_entry n b s
        entry_is r j k = k ∙ sym (entry_parts h g (sym y ∙ e) ∙ rw (← o, z, ← i, j) refl)

-- the links
pub links_are : (s : List ℕ) (n b size next first : ℕ) (p : List ℕ) (r : Bool) → size ≡ size_in s
    → next ≡ cond (eqb ((size + 253) / 254) n) 0 (b + 1 + (size + 253) / 254) % 65536 → first ≡ cond (eqb ((size + 253) / 254) 0) 0 (b + 1) % 65536
    → p ≡ take 4 (drop 0 s) → r ≡ same p (next % 256 ∷ next / 256 % 256 ∷ first % 256 ∷ first / 256 % 256 ∷ []) → r ≡ same (take 4 s) (links_due n b s)
unfolding links_due
links_are s n b size next first p r z f g q o =
    let k = blocks_for (size_in s) in
    let x : ℕ = cond (eqb k n) 0 (b + 1 + k) in
    let y : ℕ = cond (eqb k 0) 0 (b + 1) in
    o ∙ rw (f, g, q, z, low_byte x, high_byte x, low_byte y, high_byte y) refl

-- the name
pub name_are : (s raw y : List ℕ) (w : Name) (m : ℕ) (r : Bool) → raw ≡ take 30 (drop 42 s) → w ≡ name_of (take 30 raw) → m ≡ get_or s 6 0 → y ≡ take 30 (drop 7 s)
    → r ≡ same y w.letters → (eqb m w.length && r) ≡ name_due s
unfolding name_due
name_are s raw y w m r e f g i o =
    let q : take 30 raw ≡ take 30 (drop 42 s) = rw e (take-take 30 30 (drop 42 s) (omega arith)) in
    rw (o, f, q, g, i) refl

-- the zeros
pub blank_are : (s z : List ℕ) (q : Bool) → z ≡ take 184 (drop 72 s) → q ≡ all (λ b. eqb b 0) z → q ≡ blank_entry s
unfolding blank_entry
blank_are s z q j k = k ∙ rw j refl

-- ---- a data block
pub data_short : (s : List ℕ) (b size : ℕ) → length s < 256 → false ≡ sound_data b size s
unfolding sound_data
data_short s b size h =
    let x = part_in size s in
    let l : length x ≤ 254 = rw (length-take, length-take) (omega arith) in
    same_length (take 256 s) (data_block (cond (leb size 254) 0 (b + 1)) x)
    (λ q. omega (arith, length_data (cond (leb size 254) 0 (b + 1)) x l, length-take 256 s))

module _ (s : List ℕ) (b size next : ℕ) (e : next ≡ cond (leb size 254) 0 (b + 1) % 65536) where
  -- the block in two parts
  two_parts : 256 ≤ length s
      → sound_data b size s ≡ (same (take 2 s) (next % 256 ∷ next / 256 % 256 ∷ []) && all (λ b. eqb b 0) (drop size (take 254 (drop 2 s))))
  unfolding sound_data data_block padded
  two_parts h =
      let y : List ℕ = take 254 (drop 2 s) in
      let L : ℕ = cond (leb size 254) 0 (b + 1) in
      let ly : length y ≡ 254 = rw (length-take, length-drop) (omega arith) in
      let z : 254 - length (take size y) ≡ length y - length (take size y) = omega arith in
      rw (e, low_byte L, high_byte L, take-add 2 254 s, z)
      (same_append (take 2 s) y (L % 256 ∷ L / 256 % 256 ∷ []) (take size y ++ replicate (length y - length (take size y)) 0) (rw length-take (omega arith))
      ∙ rw (same_front size y) refl)

  module _ (p y x : List ℕ) (t : Bool) (h : 256 ≤ length s) (q : p ≡ take 2 (drop 0 s)) (o : t ≡ same p (next % 256 ∷ next / 256 % 256 ∷ [])) where
    pub data_not : t ≡ false → false ≡ sound_data b size s
    data_not z = sym (two_parts h ∙ rw (← q, ← o, z) refl)

    pub data_is : (r : Bool) → t ≡ true → y ≡ take 254 (drop 2 s) → x ≡ take 254 (drop size y) → r ≡ all (λ b. eqb b 0) x → r ≡ sound_data b size s
    data_is r z u v w =
        let l : length (drop size y) ≤ 254 = rw (length-drop, u, length-take) (omega arith) in
        let g : x ≡ drop size (take 254 (drop 2 s)) = v ∙ take_all 254 (drop size y) l ∙ rw u refl in
        w ∙ sym (two_parts h ∙ rw (← q, ← o, z, g) refl)

-- ---- block 0
module _ (a : List ℕ) (n : ℕ) where
  pub first_many : 4095 < n → false ≡ sound_first n a
  unfolding sound_first
  first_many h = rw (lt-leb (1 + n) 4096 (omega arith)) (by_test (eqb (length a) (256 * (1 + n))) (λ e. rw e refl) (λ e. rw e refl))

  pub first_off : (length a ≡ 256 * (1 + n) → ⊥) → false ≡ sound_first n a
  unfolding sound_first
  first_off h = rw (ne_eqb _ _ h) refl

  pub first_is : (v next : ℕ) (p block : List ℕ) (r : Bool) → n ≤ 4095 → length a ≡ 256 * (1 + n) → v ≡ get_or a 0 0 → next ≡ cond (eqb 0 n) 0 1 % 65536
      → block ≡ first_block v next (1 + n) → p ≡ take 256 (drop 0 a) → r ≡ same p block → r ≡ sound_first n a
  unfolding sound_first
  first_is v next p block r h e f g q l o =
      let m : next ≡ cond (eqb 0 n) 0 1 = g ∙ by_test (eqb 0 n) (λ e. rw e refl) (λ e. rw e refl) in
      o ∙ rw (eq-eqb _ _ e, le-leb (1 + n) 4096 (omega arith), l, q, f, m) refl

pub ruleset blocks = (allowed_is, entry_short, entry_not, entry_off, entry_misnamed, entry_is, links_are, name_are, blank_are, data_short, data_not, data_is, first_many, first_off, first_is, not-true, not-false, rules)
