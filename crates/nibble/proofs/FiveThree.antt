-- The 5-and-3 tables, and `data_sum`, `values_of`, `put_bytes`, `sector_data` over plain variables. Assumes nothing.
use mathlib.Core.Path.{◌≡◌, refl, sym, ap, ◌∙◌}
use mathlib.Core.Bool.{Bool}
use mathlib.Core.List.{List, [], ◌∷◌, ◌++◌}
use Prim.Native.Nat.{ℕ, ◌+◌, ◌-◌, ◌*◌, ◌/◌, ◌%◌, ◌≤◌, ◌<◌}
use native.Mathlib.Omega.{arith}
use borrow.Author.Rules.{rules}
use borrow.Author.Tests.{lt-ltb, le-ltb}
use lib.Dec.{eqb, eqb→eq, ltb, ltb→lt}
use lib.ListN.{length, set, get_or, drop, get_or-eq_default}
use Rattle.lists.specs.Fill.{tab, filled, placed}
use Rattle.lists.specs.Select.{any, filter}
use Rattle.lists.proofs.Laws.{Filling, fill_none, fill_step, fill_done, length_tab, get_or_tab}
use Rattle.lists.proofs.Put.{put_is_front}
use Rattle.lists.proofs.Placed.{placed_short, placed_fits}
use Rattle.lists.proofs.Split.{by_lt}
use Rattle.lists.proofs.Table.{test_at}
use Rattle.nibble.specs.Nibble.{place_in}
use Rattle.nibble.specs.Running.{run_at, looked}
use Rattle.nibble.specs.FiveThree.{two_zeros, disk_byte, disk_bytes, read_of53, val_at53, values_of53, top_of, base_of, three_of, bits_of, low_of, byte_of53, source_of, byte_from53, decode53, reads53}
use Rattle.nibble.proofs.RoundTrip.{place_none}
use Rattle.nibble.proofs.Runs.{sum_read, values_read}

-- ---- the tables
-- the 32 bytes
abbrev known : List ℕ
known = 0xAB ∷ 0xAD ∷ 0xAE ∷ 0xAF ∷ 0xB5 ∷ 0xB6 ∷ 0xB7 ∷ 0xBA ∷ 0xBB ∷ 0xBD ∷ 0xBE ∷ 0xBF ∷ 0xD6 ∷ 0xD7 ∷ 0xDA ∷ 0xDB ∷ 0xDD ∷ 0xDE ∷ 0xDF ∷ 0xEA ∷ 0xEB ∷ 0xED ∷ 0xEE ∷ 0xEF ∷ 0xF5 ∷ 0xF6 ∷ 0xF7 ∷ 0xFA ∷ 0xFB ∷ 0xFD ∷ 0xFE ∷ 0xFF ∷ []

-- the rule gives these, ..
pub bytes_are : disk_bytes ≡ known
unfolding disk_bytes disk_byte two_zeros any filter tab
bytes_are = refl

pub bytes_32 : length disk_bytes ≡ 32
bytes_32 = rw bytes_are refl

-- .. so what is read is a place among them
read_known : (b : ℕ) → read_of53 b ≡ place_in b 0 known
unfolding read_of53
read_known b = ap (place_in b 0) bytes_are

right : ℕ → ℕ → Bool
right k x = eqb x (place_in k 0 known)

small : ℕ → ℕ → Bool
small k x = ltb x 256

known_lt : (k : ℕ) → k < 32 → get_or known k 0 < 256
unfolding small
known_lt k h = ltb→lt (get_or known k 0) 256 (test_at small known tt k h)

-- the read table says of each number what the rule says
pub reads_at : (t : List ℕ) → t ≡ reads53 → (b : ℕ) → looked t b ≡ read_of53 b
unfolding reads53 right place_in looked
reads_at t e b =
    rw (e, read_known b)
    (by_lt b 256 (λ h. eqb→eq (get_or reads53 b 0) (place_in b 0 known) (test_at right reads53 tt b h))
    (λ h. get_or-eq_default reads53 0 {n = b} h ∙ sym (place_none b 0 known (λ k l q. omega (arith, known_lt k l)))))

-- where the high bits of a byte stand: byte r of the five that begin at 5 i
pub source_five : (i r : ℕ) → i < 51 → r < 5 → source_of (5 * i + r) ≡ 50 - i + 51 * r
unfolding source_of
source_five i r h l =
    let a : (5 * i + r) / 5 ≡ i = omega arith in
    let b : (5 * i + r) % 5 ≡ r = omega arith in
    rw (lt-ltb (5 * i + r) 255 (omega arith), a, b) refl

pub length_decode53 : (n : List ℕ) → length (decode53 n) ≡ 256
unfolding decode53
length_decode53 n = length_tab _ 256

-- ---- the read table in place of the rule
pub summed : (n : List ℕ) → run_at (looked reads53) n 410 ≡ val_at53 n 410
summed n = sum_read reads53 read_of53 (reads_at reads53 refl) 410 n

pub valued : (n : List ℕ) → tab (run_at (looked reads53) n) 411 ≡ values_of53 n
unfolding values_of53
valued n = values_read reads53 read_of53 (reads_at reads53 refl) 411 n

pub bits_lt : (place a b c : ℕ) → three_of place a b c < 8
unfolding three_of
bits_lt place a b c = omega arith

-- ---- Req 12 in its own words: the five bytes of k, which begin at 5 (50 - k), and byte 255
module _ (v : List ℕ) (k : ℕ) (h : k ≤ 50) where
  -- where byte r of the five has its high bits
  source_of_lem : (r : ℕ) → r < 5 → source_of (5 * (50 - k) + r) ≡ k + 51 * r
  source_of_lem r l = source_five (50 - k) r (omega arith) l ∙ omega arith

  pub five_123 : (r : ℕ) → r < 3 → byte_from53 v (5 * (50 - k) + r) ≡ base_of v (k + 51 * r) % 32 * 8 + top_of v (k + 51 * r) / 4 % 8
  unfolding byte_from53 byte_of53 low_of
  five_123 r l = rw (source_of_lem r (omega arith), lt-ltb (k + 51 * r) 153 (omega arith)) refl

  pub five_4 : byte_from53 v (5 * (50 - k) + 3) ≡ base_of v (k + 153) % 32 * 8 + bits_of 2 v k
  unfolding byte_from53 byte_of53 low_of
  five_4 =
      let e : k + 153 - 153 ≡ k = omega arith in
      rw (source_of_lem 3 (omega arith), le-ltb (k + 153) 153 (omega arith), lt-ltb (k + 153) 204 (omega arith), e) refl

  pub five_5 : byte_from53 v (5 * (50 - k) + 4) ≡ base_of v (k + 204) % 32 * 8 + bits_of 1 v k
  unfolding byte_from53 byte_of53 low_of
  five_5 =
      let e : k + 204 - 204 ≡ k = omega arith in
      rw (source_of_lem 4 (omega arith), le-ltb (k + 204) 153 (omega arith), le-ltb (k + 204) 204 (omega arith), lt-ltb (k + 204) 255 (omega arith), e) refl

pub last_byte : (v : List ℕ) → byte_from53 v 255 ≡ base_of v 255 % 32 * 8 + top_of v 153 % 8
unfolding byte_from53 byte_of53 low_of source_of
last_byte v = refl

-- ---- the five bytes that begin at 5 i
module _ (v : List ℕ) (i : ℕ) (h : i < 51) where
  -- where k is 50 - i
  begins : (r : ℕ) → 5 * (50 - (50 - i)) + r ≡ 5 * i + r
  begins r = omega arith

  pub of_three : (r b : ℕ) → r < 3 → b ≡ get_or v (154 + (50 - i + 51 * r)) 0 % 32 * 8 + get_or v (153 - (50 - i + 51 * r)) 0 / 4 % 8 → b ≡ byte_from53 v (5 * i + r)
  of_three r b l q = q ∙ sym (rw (← begins r) (five_123 v (50 - i) (omega arith) r l))

  pub of_fourth : (l b : ℕ) → l ≡ three_of 2 (get_or v (153 - (50 - i)) 0) (get_or v (153 - (50 - i + 51)) 0) (get_or v (153 - (50 - i + 102)) 0)
      → b ≡ get_or v (154 + (50 - i + 153)) 0 % 32 * 8 + l → b ≡ byte_from53 v (5 * i + 3)
  of_fourth l b e q = q ∙ sym (rw (← begins 3, e) (five_4 v (50 - i) (omega arith)))

  pub of_fifth : (l b : ℕ) → l ≡ three_of 1 (get_or v (153 - (50 - i)) 0) (get_or v (153 - (50 - i + 51)) 0) (get_or v (153 - (50 - i + 102)) 0)
      → b ≡ get_or v (154 + (50 - i + 204)) 0 % 32 * 8 + l → b ≡ byte_from53 v (5 * i + 4)
  of_fifth l b e q = q ∙ sym (rw (← begins 4, e) (five_5 v (50 - i) (omega arith)))

pub small_bits : (place a b c r : ℕ) → r ≡ three_of place a b c → r < 8
small_bits place a b c r e = rw e (bits_lt place a b c)

pub ruleset fives = (of_three, of_fourth, of_fifth, small_bits, rules)

-- ---- put_bytes: the first i groups of five are put in
pub record Grouped (v o₀ o : List ℕ) (i : ℕ) : Type 0 where
  pub count : i ≤ 51
  pub room : 256 ≤ length o₀
  pub fills : Filling (byte_from53 v) (5 * i) o₀ o

pub grouped_start : (v o : List ℕ) → 256 ≤ length o → Grouped v o o 0
grouped_start v o l = record { count = omega arith; room = l; fills = fill_none _ _ }

pub grouped_turn : (v o₀ o : List ℕ) (i a b c d e : ℕ) → Grouped v o₀ o i → i < 51 → a ≡ byte_from53 v (5 * i + 0) → b ≡ byte_from53 v (5 * i + 1) → c ≡ byte_from53 v (5 * i + 2)
    → d ≡ byte_from53 v (5 * i + 3) → e ≡ byte_from53 v (5 * i + 4) → Grouped v o₀ (set (set (set (set (set o (5 * i) a) (5 * i + 1) b) (5 * i + 2) c) (5 * i + 3) d) (5 * i + 4) e) (i + 1)
grouped_turn v o₀ o i a b c d e w h p₀ p₁ p₂ p₃ p₄ =
    let z : 5 * i + 0 ≡ 5 * i = omega arith in
    let e₁ : 5 * i + 1 + 1 ≡ 5 * i + 2 = omega arith in
    let e₂ : 5 * i + 2 + 1 ≡ 5 * i + 3 = omega arith in
    let e₃ : 5 * i + 3 + 1 ≡ 5 * i + 4 = omega arith in
    let e₄ : 5 * i + 4 + 1 ≡ 5 * (i + 1) = omega arith in
    let f₀ = fill_step w.fills (omega (arith, w.room)) (rw z at p₀) in
    let f₁ = rw e₁ at (fill_step f₀ (omega (arith, w.room)) p₁) in
    let f₂ = rw e₂ at (fill_step f₁ (omega (arith, w.room)) p₂) in
    let f₃ = rw e₃ at (fill_step f₂ (omega (arith, w.room)) p₃) in
    let f₄ = rw e₄ at (fill_step f₃ (omega (arith, w.room)) p₄) in
    record { count = omega arith; room = w.room; fills = f₄ }

-- the places of a turn are in the buffer
pub grouped_fits : (v o₀ o : List ℕ) (i r : ℕ) → Grouped v o₀ o i → i < 51 → r < 5 → 5 * i + r < length o
grouped_fits v o₀ o i r w h l = omega (arith, w.room, w.fills.long)

pub grouped_done : (v o₀ o : List ℕ) (i r : ℕ) → Grouped v o₀ o i → 51 ≤ i → r ≡ get_or v 409 0 % 32 * 8 + get_or v 0 0 % 8 → set o 255 r ≡ filled (byte_from53 v) 256 o₀
unfolding filled
grouped_done v o₀ o i r w h q =
    let z : 5 * i ≡ 255 = omega (arith, w.count) in
    let f : Filling (byte_from53 v) 255 o₀ o = rw z at w.fills in
    let g : Filling (byte_from53 v) 256 o₀ (set o 255 r) = fill_step f (omega (arith, w.room)) (q ∙ sym (last_byte v)) in
    fill_done 256 g (omega arith) (omega arith)

pub ruleset grouped = (grouped_start, grouped_turn, grouped_fits, grouped_done, rules)

-- ---- the returns of sector_data
pub sum_is : (n v : List ℕ) → v ≡ values_of53 n → get_or v 410 0 ≡ val_at53 n 410
unfolding values_of53
sum_is n v e = rw (e, get_or_tab (val_at53 n) 411 410 0 (omega arith)) refl

pub data_short : (n o : List ℕ) → length o < 256 → o ≡ placed 0 (decode53 n) o
data_short n o l = placed_short 0 (decode53 n) o (omega arith) (rw (length_decode53 n) (omega arith))

pub data_is : (n v o₀ o : List ℕ) → v ≡ values_of53 n → 256 ≤ length o₀ → o ≡ filled (byte_from53 v) 256 o₀ → o ≡ placed 0 (decode53 n) o₀
unfolding decode53 filled
data_is n v o₀ o e room f =
    let l : length (decode53 n) ≡ 256 = length_decode53 n in
    let d : o ≡ decode53 n ++ drop 256 o₀ = f ∙ rw e refl in
    placed_fits 0 (decode53 n) o₀ o (omega arith) (rw l (omega arith)) (put_is_front 256 d l room).is

pub ruleset unpacks = (data_short, data_is, sum_is, rules)
