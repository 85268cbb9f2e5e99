-- Two sectors of the document, by computation. Assumes nothing.
use mathlib.Core.Path.{◌≡◌, refl}
use mathlib.Core.List.{[], ◌∷◌, ◌++◌}
use lib.ListN.{replicate}
use Rattle.lists.specs.Fill.{tab, before_of}
use Rattle.nibble.specs.Nibble.{writes, write_of, value_of, step_of, nibble_of, encode}

pub zeros : encode (replicate 256 0) ≡ replicate 343 0x96
unfolding tab before_of writes write_of value_of step_of nibble_of encode
zeros = refl

pub last : encode (replicate 255 0 ++ (0xff ∷ []))
    ≡ replicate 83 0x96 ++ (0xed ∷ 0xed ∷ []) ++ replicate 256 0x96 ++ (0xff ∷ 0xff ∷ [])
unfolding tab before_of writes write_of value_of step_of nibble_of encode
last = refl
