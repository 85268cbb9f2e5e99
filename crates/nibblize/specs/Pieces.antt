-- A stream as any writer may lay it: sectors of one disk in any order, whole sectors repeated or not, gaps free of D5h (Req 14).
use mathlib.Core.Logic.{◌⊎◌}
use Rattle.std.specs.Prelude.{◌≡◌, List, [], ◌∷◌, ◌++◌, ℕ, ◌/◌, ◌%◌, ◌<◌}
use Rattle.fields.specs.Search.{Free}
use Rattle.nibblize.specs.Nibblize.{sector_spaced, held}

-- address sector key % 16 of track key / 16, the gap before it, and the gap between its address and its data (the writer's: 5 of FFh)
pub record Piece : Type 0 where
  pub gap : List ℕ
  pub middle : List ℕ
  pub key : ℕ

-- the pieces of the disk d under volume v, one behind the other, and a last gap
unfoldable pub laid : ℕ → List ℕ → List Piece → List ℕ → List ℕ
laid v d [] last = last
laid v d (x ∷ xs) last = x.gap ++ (sector_spaced x.middle v (x.key / 16) (x.key % 16) (held d x.key) ++ laid v d xs last)

-- each gap is free of D5h, and each key is of the disk
abbrev pub Sound : List Piece → Type 0
Sound [] = Unit {0}
Sound (x ∷ xs) = Free x.gap × Free x.middle × (x.key < 560) × Sound xs

-- sector k is among the pieces
abbrev pub Has : ℕ → List Piece → Type 0
Has k [] = ⊥
Has k (x ∷ xs) = (x.key ≡ k) ⊎ Has k xs
