-- The two editions of a nibble stream: DOS 3.3, 16 sectors a track in 6-and-2, and DOS 3.2, 13 in 5-and-3. Document 01, "Nibbles", "Fields" and "Unroll", and document 02, Req 12.
-- All that differs between the two stands here; the fields of a stream, a sector by its key and denibblize are defined once over the edition.
use Rattle.std.specs.Prelude.{cond, List, ℕ, ◌*◌, ◌%◌, eqb}
use Rattle.nibble.specs.Nibble.{val_at, decode}
use Rattle.nibble.specs.FiveThree.{val_at53, decode53}
use Rattle.fields.specs.declared.Edition.{Edition}
use Rattle.fields.specs.declared.Edition.TheVariants.{Sixteen, Thirteen}

-- the last byte of an address prologue
unfoldable pub mark_of : Edition → ℕ
mark_of Sixteen = 0x96
mark_of Thirteen = 0xB5

-- the nibbles of a data field, the sum among them
unfoldable pub nibbles_of : Edition → ℕ
nibbles_of Sixteen = 343
nibbles_of Thirteen = 411

-- the sectors of a track
unfoldable pub per_track : Edition → ℕ
per_track Sixteen = 16
per_track Thirteen = 13

-- the DOS sector of address sector p, of 16
unfoldable pub interleave : ℕ → ℕ
interleave p = cond (eqb p 15) 15 (7 * p % 15)

-- the DOS sector of address sector p: of 13 it is p itself
unfoldable pub dos_sector : Edition → ℕ → ℕ
dos_sector Sixteen p = interleave p
dos_sector Thirteen p = p

-- the XOR with the sum nibble
unfoldable pub sum_of : Edition → List ℕ → ℕ
sum_of Sixteen ns = val_at ns 342
sum_of Thirteen ns = val_at53 ns 410

-- the 256 bytes of a data field's nibbles
unfoldable pub data_of : Edition → List ℕ → List ℕ
data_of Sixteen ns = decode ns
data_of Thirteen ns = decode53 ns
