-- What is free of D5h: gaps, epilogues, nibbles, 4-and-4. Assumes nothing.
use mathlib.Core.Path.{◌≡◌}
use mathlib.Core.Bool.{Bool, not}
use mathlib.Core.List.{List, [], ◌∷◌, ◌++◌}
use Prim.Native.Nat.{ℕ, zero, suc, ◌<◌}
use native.Mathlib.Omega.{arith}
use lib.Dec.{T, eqb, T_not, eqb_refl}
use lib.ListN.{length, replicate, get_or-eq_default}
use Rattle.lists.proofs.Laws.{tab_all}
use Rattle.lists.proofs.Split.{by_lt}
use Rattle.lists.proofs.Table.{every, test_at}
use Rattle.nibble.specs.Nibble.{four, writes, write_of, nibble_of, encode}
use Rattle.fields.specs.Search.{Free}
use Rattle.fields.proofs.Marks.{free_nil}

-- two lists free of it, one behind the other
pub free_append : (a b : List ℕ) → Free a → Free b → Free (a ++ b)
free_append [] b h i k = i k
free_append (x ∷ a) b h i zero = h zero
free_append (x ∷ a) b h i (suc k) = free_append a b (λ j. h (suc j)) i k

-- a gap of one byte
pub free_replicate : (n v : ℕ) → (v ≡ 0xD5 → ⊥) → Free (replicate n v)
free_replicate zero v p k = free_nil k
free_replicate (suc n) v p zero = p
free_replicate (suc n) v p (suc k) = free_replicate n v p k

-- by a test of each byte, for a list that is written out
abbrev other : ℕ → ℕ → Bool
other k x = not (eqb x 0xD5)

-- the test says so
is_other_lem : (k x : ℕ) → T (other k x) → x ≡ 0xD5 → ⊥
is_other_lem k x t e = T_not (eqb x 0xD5) t (rw e (eqb_refl 0xD5))

-- each byte of g passes the test
pub free_test : (g : List ℕ) → T (every other 0 g) → Free g
free_test g t k e =
    by_lt k (length g) (λ h. is_other_lem k _ (test_at other g t k h) e) (λ h. omega (arith, get_or-eq_default g 0 {n = k} h))

-- what ends an address and the data
pub free_epilogue : Free (0xDE ∷ 0xAA ∷ 0xEB ∷ [])
free_epilogue = free_test (0xDE ∷ 0xAA ∷ 0xEB ∷ []) tt

-- a nibble of the write table
pub free_write : (v : ℕ) → write_of v ≡ 0xD5 → ⊥
unfolding writes write_of
free_write v = free_test writes tt v

-- what is written of a sector
pub free_encode : (d : List ℕ) → Free (encode d)
unfolding encode nibble_of
free_encode d = tab_all (λ (x : ℕ). x ≡ 0xD5 → ⊥) (nibble_of d) 343 (omega arith) (λ k. free_write _)

-- a byte in 4-and-4, by computing the 256 bytes
pub free_four : (v : ℕ) → v < 256 → Free (four v)
free_four v h = free_test (four v) (test_at (λ k x. every other 0 (four k)) (replicate 256 0) tt v h)
