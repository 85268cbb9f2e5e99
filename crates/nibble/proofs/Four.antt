-- 4-and-4 there and back. Assumes nothing.
use mathlib.Core.Path.{◌≡◌}
use Prim.Native.Nat.{ℕ, ◌/◌, ◌<◌}
use lib.Bits.{bit_or}
use lib.Dec.{eqb, eqb→eq}
use lib.ListN.{replicate}
use Rattle.lists.proofs.Table.{test_at}
use Rattle.nibble.specs.Nibble.{of44}

-- there and back, by computing the 256 bytes
pub four_back : (v : ℕ) → v < 256 → of44 (bit_or (v / 2) 0xAA) (bit_or v 0xAA) ≡ v
four_back v h = eqb→eq _ v (test_at (λ k x. eqb (of44 (bit_or (k / 2) 0xAA) (bit_or k 0xAA)) k) (replicate 256 0) tt v h)
