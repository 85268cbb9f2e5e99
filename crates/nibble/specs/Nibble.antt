-- The 4-and-4 coding of a byte and the 6-and-2 coding of a sector: document 01, "Nibbles" under Modules. A sector's 256 bytes are 342 values of six bits; each is written as a
-- nibble of its XOR with the value before it, and the last value again is the sum.
use Rattle.std.specs.Prelude.{◌≡◌, cond, List, [], ◌∷◌, ℕ, suc, ◌+◌, ◌-◌, ◌*◌, ◌/◌, ◌%◌, ◌<◌, ltb, eqb, length, get_or}
use Rattle.std.specs.Int.Bits.{bit_xor, bit_and, bit_or}
use Rattle.lists.specs.Fill.{tab, before_of}
use Rattle.nibble.specs.Running.{run_at}
use Rattle.std.specs.Prelude.{Ok}
use Rattle.outcome.specs.declared.Refusal.TheVariants.{OffSize, DataSum}
use Rattle.outcome.specs.Outcome.{Outcome, ◌>>◌, require}

-- ---- 4-and-4
-- the byte of the two bytes a and b
abbrev pub of44 : ℕ → ℕ → ℕ
of44 a b = bit_and ((2 * a + 1) % 256) b

-- a byte as it is written, in two
abbrev pub four : ℕ → List ℕ
four v = bit_or (v / 2) 0xAA ∷ bit_or v 0xAA ∷ []

-- ---- the tables of 6-and-2
-- the write table: the nibble of each value (`NIBBLE_WRITE_TABLE_6_AND_2`)
unfoldable pub writes : List ℕ
writes = 0x96 ∷ 0x97 ∷ 0x9a ∷ 0x9b ∷ 0x9d ∷ 0x9e ∷ 0x9f ∷ 0xa6 ∷ 0xa7 ∷ 0xab ∷ 0xac ∷ 0xad ∷ 0xae ∷ 0xaf ∷ 0xb2 ∷ 0xb3 ∷ 0xb4 ∷ 0xb5 ∷ 0xb6 ∷ 0xb7 ∷ 0xb9 ∷ 0xba ∷ 0xbb ∷ 0xbc ∷ 0xbd ∷ 0xbe ∷ 0xbf ∷ 0xcb ∷ 0xcd ∷ 0xce ∷ 0xcf ∷ 0xd3 ∷ 0xd6 ∷ 0xd7 ∷ 0xd9 ∷ 0xda ∷ 0xdb ∷ 0xdc ∷ 0xdd ∷ 0xde ∷ 0xdf ∷ 0xe5 ∷ 0xe6 ∷ 0xe7 ∷ 0xe9 ∷ 0xea ∷ 0xeb ∷ 0xec ∷ 0xed ∷ 0xee ∷ 0xef ∷ 0xf2 ∷ 0xf3 ∷ 0xf4 ∷ 0xf5 ∷ 0xf6 ∷ 0xf7 ∷ 0xf9 ∷ 0xfa ∷ 0xfb ∷ 0xfc ∷ 0xfd ∷ 0xfe ∷ 0xff ∷ []

-- the nibble of a value
unfoldable pub write_of : ℕ → ℕ
unfolding writes
write_of v = get_or writes v 0

-- the place of b in a list whose first element counts i; 0 where it is in no place
unfoldable pub place_in : ℕ → ℕ → List ℕ → ℕ
place_in b i [] = 0
place_in b i (x ∷ xs) = cond (eqb b x) i (place_in b (suc i) xs)

-- the value of a nibble: the write table inverted, and zero elsewhere
unfoldable pub read_of : ℕ → ℕ
unfolding writes place_in
read_of b = place_in b 0 writes

-- the same as a table of all 256 bytes (`NIBBLE_READ_TABLE_6_AND_2`); that it is the same is proved once, over the whole table
unfoldable pub reads : List ℕ
reads = 0 ∷ 0 ∷ 0 ∷ 0 ∷ 0 ∷ 0 ∷ 0 ∷ 0 ∷ 0 ∷ 0 ∷ 0 ∷ 0 ∷ 0 ∷ 0 ∷ 0 ∷ 0 ∷ 0 ∷ 0 ∷ 0 ∷ 0 ∷ 0 ∷ 0 ∷ 0 ∷ 0 ∷ 0 ∷ 0 ∷ 0 ∷ 0 ∷ 0 ∷ 0 ∷ 0 ∷ 0 ∷ 0 ∷ 0 ∷ 0 ∷ 0 ∷ 0 ∷ 0 ∷ 0 ∷ 0 ∷ 0 ∷ 0 ∷ 0 ∷ 0 ∷ 0 ∷ 0 ∷ 0 ∷ 0 ∷ 0 ∷ 0 ∷ 0 ∷ 0 ∷ 0 ∷ 0 ∷ 0 ∷ 0 ∷ 0 ∷ 0 ∷ 0 ∷ 0 ∷ 0 ∷ 0 ∷ 0 ∷ 0 ∷ 0 ∷ 0 ∷ 0 ∷ 0 ∷ 0 ∷ 0 ∷ 0 ∷ 0 ∷ 0 ∷ 0 ∷ 0 ∷ 0 ∷ 0 ∷ 0 ∷ 0 ∷ 0 ∷ 0 ∷ 0 ∷ 0 ∷ 0 ∷ 0 ∷ 0 ∷ 0 ∷ 0 ∷ 0 ∷ 0 ∷ 0 ∷ 0 ∷ 0 ∷ 0 ∷ 0 ∷ 0 ∷ 0 ∷ 0 ∷ 0 ∷ 0 ∷ 0 ∷ 0 ∷ 0 ∷ 0 ∷ 0 ∷ 0 ∷ 0 ∷ 0 ∷ 0 ∷ 0 ∷ 0 ∷ 0 ∷ 0 ∷ 0 ∷ 0 ∷ 0 ∷ 0 ∷ 0 ∷ 0 ∷ 0 ∷ 0 ∷ 0 ∷ 0 ∷ 0 ∷ 0 ∷ 0 ∷ 0 ∷ 0 ∷ 0 ∷ 0 ∷ 0 ∷ 0 ∷ 0 ∷ 0 ∷ 0 ∷ 0 ∷ 0 ∷ 0 ∷ 0 ∷ 0 ∷ 0 ∷ 0 ∷ 0 ∷ 0 ∷ 0 ∷ 0 ∷ 0 ∷ 0 ∷ 0 ∷ 0 ∷ 0 ∷ 1 ∷ 0 ∷ 0 ∷ 2 ∷ 3 ∷ 0 ∷ 4 ∷ 5 ∷ 6 ∷ 0 ∷ 0 ∷ 0 ∷ 0 ∷ 0 ∷ 0 ∷ 7 ∷ 8 ∷ 0 ∷ 0 ∷ 0 ∷ 9 ∷ 10 ∷ 11 ∷ 12 ∷ 13 ∷ 0 ∷ 0 ∷ 14 ∷ 15 ∷ 16 ∷ 17 ∷ 18 ∷ 19 ∷ 0 ∷ 20 ∷ 21 ∷ 22 ∷ 23 ∷ 24 ∷ 25 ∷ 26 ∷ 0 ∷ 0 ∷ 0 ∷ 0 ∷ 0 ∷ 0 ∷ 0 ∷ 0 ∷ 0 ∷ 0 ∷ 0 ∷ 27 ∷ 0 ∷ 28 ∷ 29 ∷ 30 ∷ 0 ∷ 0 ∷ 0 ∷ 31 ∷ 0 ∷ 0 ∷ 32 ∷ 33 ∷ 0 ∷ 34 ∷ 35 ∷ 36 ∷ 37 ∷ 38 ∷ 39 ∷ 40 ∷ 0 ∷ 0 ∷ 0 ∷ 0 ∷ 0 ∷ 41 ∷ 42 ∷ 43 ∷ 0 ∷ 44 ∷ 45 ∷ 46 ∷ 47 ∷ 48 ∷ 49 ∷ 50 ∷ 0 ∷ 0 ∷ 51 ∷ 52 ∷ 53 ∷ 54 ∷ 55 ∷ 56 ∷ 0 ∷ 57 ∷ 58 ∷ 59 ∷ 60 ∷ 61 ∷ 62 ∷ 63 ∷ []

-- the two low bits, swapped
abbrev pub low : ℕ → ℕ
low b = b % 2 * 2 + b / 2 % 2

-- ---- encoding
-- value j of the sector d: the low bits of bytes j, j + 86, j + 172, or the high six of byte j - 86. Past the end of d stands 0, so value 342 is 0.
unfoldable pub value_of : List ℕ → ℕ → ℕ
value_of d j =
    cond (ltb j 86)
    (low (get_or d j 0) + low (get_or d (j + 86) 0) * 4 + low (get_or d (j + 172) 0) * 16)
    (get_or d (j - 86) 0 / 4)

-- value k against the one before it
unfoldable pub step_of : List ℕ → ℕ → ℕ
step_of d k = bit_xor (value_of d k) (before_of (value_of d) k)

-- nibble k. Nibble 342 is the sum: value 342 is 0, so it is value 341 as written.
unfoldable pub nibble_of : List ℕ → ℕ → ℕ
nibble_of d k = write_of (step_of d k)

-- the 342 nibbles and the sum
unfoldable pub encode : List ℕ → List ℕ
encode d = tab (nibble_of d) 343

-- what the encoder hands over; 1 where there are not 256 bytes
unfoldable pub encoded : List ℕ → Outcome (List ℕ)
encoded s = require (eqb (length s) 256) OffSize >> Ok (encode s)

-- ---- decoding
-- value k of the nibbles n: the running XOR of what is read. Past the end of n stands 0.
abbrev pub val_at : List ℕ → ℕ → ℕ
val_at n k = run_at read_of n k

-- all values, the sum's among them
unfoldable pub values_of : List ℕ → List ℕ
values_of n = tab (val_at n) 343

-- byte i of the values v, of which the low six bits count
unfoldable pub byte_from : List ℕ → ℕ → ℕ
byte_from v i =
    get_or v (i + 86) 0 % 64 * 4
    + cond (ltb i 86) (low (get_or v i 0)) (cond (ltb i 172) (low (get_or v (i - 86) 0 / 4)) (low (get_or v (i - 172) 0 / 16)))

-- the 256 bytes
unfoldable pub decode : List ℕ → List ℕ
decode n = tab (byte_from (values_of n)) 256

-- what the decoder hands over; 9 where the XOR with the sum nibble is not zero
unfoldable pub decoded : List ℕ → Outcome (List ℕ)
decoded n = require (eqb (val_at n 342) 0) DataSum >> Ok (decode n)

-- ---- what the steps of the decoder's code promise each other
-- value k of the values v with the two bits of each of its three pairs swapped
unfoldable pub pairs_at : List ℕ → ℕ → ℕ
pairs_at v k = low (get_or v k 0) + low (get_or v k 0 / 4) * 4 + low (get_or v k 0 / 16) * 16

-- ---- what the steps of the encoder's code promise each other
-- v holds the 86 values of the low bits of the sector d; each has six bits
pub record LowsOf (d v : List ℕ) : Type 0 where
  pub is : v ≡ tab (value_of d) 86
  pub small : (k : ℕ) → k < 86 → value_of d k < 64

-- v holds the 343 steps of the sector d; each has six bits
pub record StepsOf (d v : List ℕ) : Type 0 where
  pub is : v ≡ tab (step_of d) 343
  pub small : (k : ℕ) → k < 343 → step_of d k < 64
