-- What is encoded, and of what the decoder's answer depends. Assumes nothing.
use Rattle.std.specs.Prelude.{Ok}
use mathlib.Core.Path.{◌≡◌, refl}
use mathlib.Core.List.{List}
use Prim.Native.Nat.{ℕ}
use borrow.Author.Tests.{eq-eqb}
use lib.ListN.{length}
use Rattle.lists.proofs.Laws.{length_tab}
use Rattle.nibble.specs.Nibble.{encode, encoded, nibble_of, decode}

pub length_encode : (s : List ℕ) → length (encode s) ≡ 343
unfolding encode
length_encode s = length_tab (nibble_of s) 343

pub length_decode : (n : List ℕ) → length (decode n) ≡ 256
unfolding decode
length_decode n = length_tab _ 256

-- 256 bytes are encoded
pub encoded_given : (s : List ℕ) → length s ≡ 256 → encoded s ≡ Ok (encode s)
unfolding encoded
encoded_given s h = rw (eq-eqb _ _ h) refl
