-- The starred cases of document 01, "Trial discs", in its order, as one list of statements about the definitions. proofs/Starred.antt proves them.
use Rattle.std.specs.Prelude.{◌≡◌, true, List, [], ◌∷◌, ◌++◌, ℕ, length, take, drop, replicate}
use Rattle.lists.specs.Words.{word_at}
use Rattle.std.specs.Prelude.{Err}
use Rattle.outcome.specs.declared.Refusal.TheVariants.{OffDisc}
use Rattle.disk.specs.Disk.{place, on_disk}
use Rattle.disk.specs.Vtoc.{percent}
use Rattle.disk.specs.Window.{sector_in}
use Rattle.catalog.specs.Catalog.{shown}
use Rattle.files.specs.Contents.{File, bytes_in}
use Rattle.nibble.specs.Nibble.{of44, encode}
use Rattle.fields.specs.Editions.{interleave}
use Rattle.files.specs.Survey.{blocks}
use Rattle.archive.specs.Archive.{archive}

pub record Starred : Type 0 where
  -- 4-and-4: AA AA is 0; AA BB is 11h; FF FE is FEh
  pub four_AA_AA : of44 0xAA 0xAA ≡ 0
  pub four_AA_BB : of44 0xAA 0xBB ≡ 0x11
  pub four_FF_FE : of44 0xFF 0xFE ≡ 0xFE
  -- p 1 is DOS 7, 14 is 8, 15 is 15
  pub sector_1 : interleave 1 ≡ 7
  pub sector_14 : interleave 14 ≡ 8
  pub sector_15 : interleave 15 ≡ 15
  -- sector of zeros: 342 nibbles 96h, sum 96h
  pub zeros : encode (replicate 256 0) ≡ replicate 343 0x96
  -- zeros but last byte FFh: nibbles 83 and 84 EDh, nibble 341 FFh, sum FFh, others 96h
  pub last : encode (replicate 255 0 ++ (0xFF ∷ []))
      ≡ replicate 83 0x96 ++ (0xED ∷ 0xED ∷ []) ++ replicate 256 0x96 ++ (0xFF ∷ 0xFF ∷ [])
  -- used 13 is fill 2, 14 is 2 (3 before document 02, Req 04), 560 is 100; and 42 is 8
  pub fill_13 : percent 560 13 ≡ 2
  pub fill_14 : percent 560 14 ≡ 2
  pub fill_560 : percent 560 560 ≡ 100
  pub fill_42 : percent 560 42 ≡ 8
  -- name C1, then 29 of A0: "A"
  pub name_A : shown (0xC1 ∷ replicate 29 0xA0) ≡ 0x41 ∷ []
  -- thirty A0: length 0
  pub name_none : length (shown (replicate 30 0xA0)) ≡ 0
  -- 34/15 on disc; 35/0 and 34/16 are 3
  pub place_34_15 : on_disk 16 (place 34 15) ≡ true
  pub place_35_0 : (d : List ℕ) → length d ≡ 143360 → sector_in 16 d (place 35 0) ≡ Err OffDisc
  pub place_34_16 : (d : List ℕ) → length d ≡ 143360 → sector_in 16 d (place 34 16) ≡ Err OffDisc
  -- one sector, length 252: 252 bytes; 253: all 256
  pub length_252 : (s : List ℕ) → length s ≡ 256 → word_at s 2 ≡ 252 → (bytes_in 4 s ≡ take 252 (drop 4 s)) × (length (bytes_in 4 s) ≡ 252)
  pub length_253 : (s : List ℕ) → length s ≡ 256 → word_at s 2 ≡ 253 → bytes_in 4 s ≡ s
  -- empty roll, volume FEh: FE 00 00 01 00, 251 zeros
  pub empty : archive (record { volume = 0xFE; files = [] }) ≡ 0xFE ∷ 0 ∷ 0 ∷ 1 ∷ 0 ∷ replicate 251 0
  -- one entry, 254 data bytes: 3 blocks; 255: 4
  pub blocks_254 : (v : ℕ) (f : File) → length f.bytes ≡ 254 → blocks (record { volume = v; files = f ∷ [] }) ≡ 3
  pub blocks_255 : (v : ℕ) (f : File) → length f.bytes ≡ 255 → blocks (record { volume = v; files = f ∷ [] }) ≡ 4
