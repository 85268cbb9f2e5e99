-- A disk as a duplicator may write it: its sectors in some order, with gaps free of D5h, whole sector writings repeated or not. Document 02, Req 14.
use Rattle.std.specs.Prelude.{◌≡◌, true, List, [], ◌∷◌, ◌++◌, map, ℕ, ◌+◌, ◌/◌, ◌%◌, ◌<◌, length}
use Rattle.lists.specs.Every.{Every}
use Rattle.lists.specs.Select.{among, Apart}
use Rattle.fields.specs.Search.{Free}
use Rattle.nibblize.specs.Nibblize.{sector_spaced, held}

-- A sector writing on the track: the gap before it, which of the 560 it is, and the gap between its address and its data. Number k is address sector k % 16
-- of track k / 16. The nibble writer's gaps are 48 and 5 of FFh.
pub record Piece : Type 0 where
  pub before : List ℕ
  pub number : ℕ
  pub between : List ℕ

-- what a duplicator chooses: the volume in every address, the sector writings in their order, and the gap behind the last
pub record Layout : Type 0 where
  pub volume : ℕ
  pub pieces : List Piece
  pub behind : List ℕ

-- ---- the stream
-- a sector writing of the disk d under volume v: the address, the gap and the data, each as the nibble writer makes it
unfoldable pub writing_of : ℕ → List ℕ → Piece → List ℕ
writing_of v d x = sector_spaced x.between v (x.number / 16) (x.number % 16) (held d x.number)

-- the gap before each and its writing, one behind the other, and a last gap
unfoldable pub laid : ℕ → List ℕ → List Piece → List ℕ → List ℕ
laid v d [] behind = behind
laid v d (x ∷ xs) behind = x.before ++ (writing_of v d x ++ laid v d xs behind)

-- the stream that a layout makes of the disk d
abbrev pub stream_of : List ℕ → Layout → List ℕ
stream_of d y = laid y.volume d y.pieces y.behind

-- the lengths of gaps, addresses and data together: an address has 14 bytes, the data of a sector have 349
unfoldable pub length_of_parts : List Piece → ℕ
length_of_parts [] = 0
length_of_parts (x ∷ xs) = length x.before + (14 + length x.between + 349) + length_of_parts xs

-- ---- which layouts are meant
-- the sectors in the order in which they are written
abbrev pub order_of : List Piece → List ℕ
order_of = map (λ (x : Piece). x.number)

-- the gaps before a sector writing and in it are free of D5h
abbrev pub FreeGaps : Piece → Type 0
FreeGaps x = Free x.before × Free x.between

-- all gaps are, and the volume is a byte
pub record Spaced (y : Layout) : Type 0 where
  pub byte : y.volume < 256
  pub gaps : Every FreeGaps y.pieces
  pub last : Free y.behind

-- the 560 in some order: as many numbers below 560, no two the same
pub record Order (ks : List ℕ) : Type 0 where
  pub all : length ks ≡ 560
  pub apart : Apart ks
  pub numbers : Every (λ (k : ℕ). k < 560) ks

-- the same where some may be repeated: none is missing, and there is no other
pub record Covers (ks : List ℕ) : Type 0 where
  pub each : (k : ℕ) → k < 560 → among k ks ≡ true
  pub numbers : Every (λ (k : ℕ). k < 560) ks

-- s is made of the 560 sector writings of the disk d in some order, with gaps free of D5h, whole writings repeated or not
abbrev pub MadeOf : (d s : List ℕ) → Type 0
MadeOf d s = (y : Layout) × Spaced y × Covers (order_of y.pieces) × (s ≡ stream_of d y)
