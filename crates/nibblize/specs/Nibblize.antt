-- A flat disk written as a nibble stream of 16 sectors a track. Document 01, "Nibble writer" under Modules.
use Rattle.std.specs.Prelude.{List, [], ◌∷◌, ◌++◌, ℕ, ◌/◌, ◌%◌, replicate}
use Rattle.std.specs.Int.Bits.{bit_xor}
use Rattle.lists.specs.Fill.{cats}
use Rattle.std.specs.Prelude.{Ok}
use Rattle.outcome.specs.Outcome.{Outcome, ◌>>◌}
use Rattle.disk.specs.Disk.{place, byte_of, bytes_of, sized}
use Rattle.disk.specs.Vtoc.{vtoc}
use Rattle.nibble.specs.Nibble.{four, encode}
use Rattle.fields.specs.Editions.{interleave}

-- an address as it is written
unfoldable pub address_writing : ℕ → ℕ → ℕ → List ℕ
address_writing v t p = 0xD5 ∷ 0xAA ∷ 0x96 ∷ four v ++ (four t ++ (four p ++ (four (bit_xor (bit_xor v t) p) ++ (0xDE ∷ 0xAA ∷ 0xEB ∷ []))))

-- a sector's data as they are written
unfoldable pub data_writing : List ℕ → List ℕ
data_writing bytes = 0xD5 ∷ 0xAA ∷ 0xAD ∷ encode bytes ++ (0xDE ∷ 0xAA ∷ 0xEB ∷ [])

-- one sector, without the gap before it, with any gap between its address and its data ..
unfoldable pub sector_spaced : List ℕ → ℕ → ℕ → ℕ → List ℕ → List ℕ
sector_spaced gap v t p bytes = address_writing v t p ++ (gap ++ data_writing bytes)

-- .. and with the writer's, 5 of FFh
unfoldable pub sector_writing : ℕ → ℕ → ℕ → List ℕ → List ℕ
sector_writing v t p bytes = sector_spaced (replicate 5 0xFF) v t p bytes

-- the bytes of the disk d that address sector k % 16 of track k / 16 holds
unfoldable pub held : List ℕ → ℕ → List ℕ
held d k = bytes_of 16 d (place (k / 16) (interleave (k % 16)))

-- that sector as it is written, with the gap before it, 48 of FFh: 416 bytes
unfoldable pub block : ℕ → List ℕ → ℕ → List ℕ
block v d k = replicate 48 0xFF ++ sector_writing v (k / 16) (k % 16) (held d k)

-- a flat disk as nibbles; the volume is the VTOC's
unfoldable pub nibblized : List ℕ → Outcome (List ℕ)
nibblized d = sized 16 d >> Ok (cats (block (byte_of 16 d vtoc 6) d) 560)
