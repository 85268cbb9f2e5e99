-- The 5-and-3 coding of a sector, as it is read: document 02, Req 12. A sector's 256 bytes are 410 values of five bits, t153 down to t0 and then b0 to b255; each is written as a
-- nibble of its XOR with the value before it, and the last value again is the sum.
use Rattle.std.specs.Prelude.{Bool, cond, not, ◌&&◌, List, [], ◌∷◌, ℕ, ◌+◌, ◌-◌, ◌*◌, ◌/◌, ◌%◌, ltb, eqb, get_or}
use Rattle.lists.specs.Fill.{tab, below}
use Rattle.lists.specs.Select.{any, filter}
use Rattle.nibble.specs.Nibble.{place_in}
use Rattle.nibble.specs.Running.{run_at}

-- ---- the bytes that are read
-- 2 to the power of k, k from 0 to 6, for the places of two neighbouring bits
abbrev pub powers : List ℕ
powers = 1 ∷ 2 ∷ 4 ∷ 8 ∷ 16 ∷ 32 ∷ 64 ∷ []

-- two zero bits in a row, among the eight
unfoldable pub two_zeros : ℕ → Bool
two_zeros b = any (λ p. eqb (b / p % 4) 0) powers

-- from ABh up, without D5h and those with two zero bits in a row
unfoldable pub disk_byte : ℕ → Bool
unfolding two_zeros
disk_byte b = not (ltb b 0xAB) && (not (eqb b 0xD5) && not (two_zeros b))

-- these bytes, ascending: there are 32 (proofs/FiveThree.antt, bytes-32)
unfoldable pub disk_bytes : List ℕ
unfolding disk_byte
disk_bytes = filter disk_byte (below 256)

-- the value of a nibble: its place among them, 0 to 31; all others read as 0
unfoldable pub read_of53 : ℕ → ℕ
unfolding disk_bytes
read_of53 b = place_in b 0 disk_bytes

-- ---- the values
-- value k of the nibbles: the running XOR of what is read. Past the end of n stands 0.
abbrev pub val_at53 : List ℕ → ℕ → ℕ
val_at53 n k = run_at read_of53 n k

-- all values, the sum's among them
unfoldable pub values_of53 : List ℕ → List ℕ
values_of53 n = tab (val_at53 n) 411

-- the first 154 values are t153 down to t0, ..
abbrev pub top_of : List ℕ → ℕ → ℕ
top_of v j = get_or v (153 - j) 0

-- .. the rest b0 to b255
abbrev pub base_of : List ℕ → ℕ → ℕ
base_of v j = get_or v (154 + j) 0

-- ---- the bytes
-- one bit (`place` 1: bit 0, 2: bit 1) of each of three values, the first's highest
unfoldable pub three_of : (place a b c : ℕ) → ℕ
three_of place a b c = a / place % 2 * 4 + b / place % 2 * 2 + c / place % 2

-- that of t at k, k + 51 and k + 102
abbrev pub bits_of : ℕ → List ℕ → ℕ → ℕ
bits_of place v k = three_of place (top_of v k) (top_of v (k + 51)) (top_of v (k + 102))

-- the low three bits of the byte whose high five are b at j. For j below 255 it is byte j / 51 (from 0) of the five of k = j % 51.
unfoldable pub low_of : List ℕ → ℕ → ℕ
low_of v j =
    cond (ltb j 153) (top_of v j / 4 % 8)
    (cond (ltb j 204) (bits_of 2 v (j - 153)) (cond (ltb j 255) (bits_of 1 v (j - 204)) (top_of v 153 % 8)))

-- that byte; of a value the low five bits count
unfoldable pub byte_of53 : List ℕ → ℕ → ℕ
byte_of53 v j = base_of v j % 32 * 8 + low_of v j

-- which b has the high bits of byte i: five bytes for each k from 50 down to 0, at k, k + 51, k + 102, k + 153, k + 204; then b255
unfoldable pub source_of : ℕ → ℕ
source_of i = cond (ltb i 255) (50 - i / 5 + 51 * (i % 5)) 255

-- byte i of the sector
unfoldable pub byte_from53 : List ℕ → ℕ → ℕ
byte_from53 v i = byte_of53 v (source_of i)

-- the 256 bytes
unfoldable pub decode53 : List ℕ → List ℕ
decode53 n = tab (byte_from53 (values_of53 n)) 256

-- ---- the table of the code
-- the value of each of the 256 bytes; that it is the rule is proved once, over the whole table (proofs/FiveThree.antt, reads_at)
unfoldable pub reads53 : List ℕ
reads53 = 0 ∷ 0 ∷ 0 ∷ 0 ∷ 0 ∷ 0 ∷ 0 ∷ 0 ∷ 0 ∷ 0 ∷ 0 ∷ 0 ∷ 0 ∷ 0 ∷ 0 ∷ 0 ∷ 0 ∷ 0 ∷ 0 ∷ 0 ∷ 0 ∷ 0 ∷ 0 ∷ 0 ∷ 0 ∷ 0 ∷ 0 ∷ 0 ∷ 0 ∷ 0 ∷ 0 ∷ 0 ∷ 0 ∷ 0 ∷ 0 ∷ 0 ∷ 0 ∷ 0 ∷ 0 ∷ 0 ∷ 0 ∷ 0 ∷ 0 ∷ 0 ∷ 0 ∷ 0 ∷ 0 ∷ 0 ∷ 0 ∷ 0 ∷ 0 ∷ 0 ∷ 0 ∷ 0 ∷ 0 ∷ 0 ∷ 0 ∷ 0 ∷ 0 ∷ 0 ∷ 0 ∷ 0 ∷ 0 ∷ 0 ∷ 0 ∷ 0 ∷ 0 ∷ 0 ∷ 0 ∷ 0 ∷ 0 ∷ 0 ∷ 0 ∷ 0 ∷ 0 ∷ 0 ∷ 0 ∷ 0 ∷ 0 ∷ 0 ∷ 0 ∷ 0 ∷ 0 ∷ 0 ∷ 0 ∷ 0 ∷ 0 ∷ 0 ∷ 0 ∷ 0 ∷ 0 ∷ 0 ∷ 0 ∷ 0 ∷ 0 ∷ 0 ∷ 0 ∷ 0 ∷ 0 ∷ 0 ∷ 0 ∷ 0 ∷ 0 ∷ 0 ∷ 0 ∷ 0 ∷ 0 ∷ 0 ∷ 0 ∷ 0 ∷ 0 ∷ 0 ∷ 0 ∷ 0 ∷ 0 ∷ 0 ∷ 0 ∷ 0 ∷ 0 ∷ 0 ∷ 0 ∷ 0 ∷ 0 ∷ 0 ∷ 0 ∷ 0 ∷ 0 ∷ 0 ∷ 0 ∷ 0 ∷ 0 ∷ 0 ∷ 0 ∷ 0 ∷ 0 ∷ 0 ∷ 0 ∷ 0 ∷ 0 ∷ 0 ∷ 0 ∷ 0 ∷ 0 ∷ 0 ∷ 0 ∷ 0 ∷ 0 ∷ 0 ∷ 0 ∷ 0 ∷ 0 ∷ 0 ∷ 0 ∷ 0 ∷ 0 ∷ 0 ∷ 0 ∷ 0 ∷ 0 ∷ 0 ∷ 0 ∷ 0 ∷ 0 ∷ 0 ∷ 0 ∷ 0 ∷ 0 ∷ 0 ∷ 0 ∷ 0 ∷ 0 ∷ 0 ∷ 0 ∷ 1 ∷ 2 ∷ 3 ∷ 0 ∷ 0 ∷ 0 ∷ 0 ∷ 0 ∷ 4 ∷ 5 ∷ 6 ∷ 0 ∷ 0 ∷ 7 ∷ 8 ∷ 0 ∷ 9 ∷ 10 ∷ 11 ∷ 0 ∷ 0 ∷ 0 ∷ 0 ∷ 0 ∷ 0 ∷ 0 ∷ 0 ∷ 0 ∷ 0 ∷ 0 ∷ 0 ∷ 0 ∷ 0 ∷ 0 ∷ 0 ∷ 0 ∷ 0 ∷ 0 ∷ 0 ∷ 0 ∷ 0 ∷ 12 ∷ 13 ∷ 0 ∷ 0 ∷ 14 ∷ 15 ∷ 0 ∷ 16 ∷ 17 ∷ 18 ∷ 0 ∷ 0 ∷ 0 ∷ 0 ∷ 0 ∷ 0 ∷ 0 ∷ 0 ∷ 0 ∷ 0 ∷ 19 ∷ 20 ∷ 0 ∷ 21 ∷ 22 ∷ 23 ∷ 0 ∷ 0 ∷ 0 ∷ 0 ∷ 0 ∷ 24 ∷ 25 ∷ 26 ∷ 0 ∷ 0 ∷ 27 ∷ 28 ∷ 0 ∷ 29 ∷ 30 ∷ 31 ∷ []
