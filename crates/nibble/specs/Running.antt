-- The running XOR of what is read of nibbles, over any rule of reading: document 01, "Nibbles", and document 02, Req 12 ("under the running XOR").
use Rattle.std.specs.Prelude.{List, ℕ, zero, suc, get_or}
use Rattle.std.specs.Int.Bits.{bit_xor}

-- value k of the nibbles n, each read by `read`. Past the end of n stands 0.
unfoldable pub run_at : (read : ℕ → ℕ) → List ℕ → ℕ → ℕ
run_at read n zero = read (get_or n zero 0)
run_at read n (suc k) = bit_xor (run_at read n k) (read (get_or n (suc k) 0))

-- what a table says of b; 0 past its end
unfoldable pub looked : List ℕ → ℕ → ℕ
looked table b = get_or table b 0
