-- `data_sum`, `values_of`, `pairs_of`, `put_bytes`, `sector_data` and `decode_sector` over plain variables. Assumes nothing.
use mathlib.Core.Path.{◌≡◌, refl, sym, ◌∙◌}
use mathlib.Core.Bool.{Bool}
use mathlib.Core.List.{List, ◌++◌}
use Prim.Native.Nat.{ℕ, ◌+◌, ◌-◌, ◌*◌, ◌/◌, ◌%◌, ◌≤◌, ◌<◌}
use native.Mathlib.Omega.{arith}
use borrow.Author.Rules.{rules}
use borrow.Author.Tests.{lt-ltb, le-ltb, eq-eqb, ne_eqb}
use lib.Dec.{eqb, eqb→eq, ltb, ltb→lt}
use lib.ListN.{length, set, get_or, drop, get_or-eq_default}
use Rattle.lists.specs.Fill.{tab, filled, placed}
use Rattle.lists.proofs.Laws.{Filling, fill_none, fill_again, fill_whole, get_or_tab}
use Rattle.lists.proofs.Put.{Put, put_is_front}
use Rattle.lists.proofs.Placed.{placed_short, placed_fits}
use Rattle.lists.proofs.Table.{test_at}
use Rattle.lists.proofs.Split.{by_lt}
use Rattle.std.specs.Prelude.{Ok, Err}
use Rattle.outcome.specs.declared.Refusal.TheVariants.{DataSum, TrayShort}
use Rattle.outcome.specs.Outcome.{Outcome, Hands}
use Rattle.outcome.proofs.Outcome.{hands_refused, hands_short, hands_over_lem}
use Rattle.nibble.specs.Running.{run_at, looked}
use Rattle.nibble.specs.Nibble.{writes, write_of, place_in, reads, low, read_of, val_at, values_of, pairs_at, byte_from, decode, decoded}
use Rattle.nibble.proofs.Callers.{length_decode}
use Rattle.nibble.proofs.RoundTrip.{read_other}
use Rattle.nibble.proofs.Ranges.{Ranged, step, next}
use Rattle.nibble.proofs.Runs.{sum_read, values_read}

-- ---- the table
right : ℕ → ℕ → Bool
right k x = eqb x (read_of k)

byte_right : ℕ → ℕ → Bool
byte_right k x = ltb x 256

-- each nibble of the write table is a byte
writes_lt : (v : ℕ) → v < 64 → write_of v < 256
unfolding writes write_of byte_right
writes_lt v h = ltb→lt (write_of v) 256 (test_at byte_right writes tt v h)

-- the read table says of each number what the rule says
pub reads_at : (t : List ℕ) → t ≡ reads → (b : ℕ) → looked t b ≡ read_of b
unfolding reads right writes place_in read_of looked
reads_at t e b =
    rw e
    (by_lt b 256 (λ h. eqb→eq (get_or reads b 0) (read_of b) (test_at right reads tt b h))
    (λ h. get_or-eq_default reads 0 {n = b} h ∙ sym (read_other b (λ v l q. omega (arith, writes_lt v l)))))

-- ---- pairs_of
module _ (v : List ℕ) where
  pub pairs_start : (o : List ℕ) → length o ≡ 86 → Ranged (pairs_at v) 86 o o 0 86 0
  pairs_start o h = record { lower = omega arith; upper = omega arith; room = omega arith; fills = fill_none _ _ }

  pub pairs_turn : (o₀ o : List ℕ) (k r : ℕ) → Ranged (pairs_at v) 86 o₀ o 0 86 k → k < 86
      → r ≡ low (get_or v k 0) + low (get_or v k 0 / 4) * 4 + low (get_or v k 0 / 16) * 16 → Ranged (pairs_at v) 86 o₀ (set o k r) 0 86 (k + 1)
  unfolding pairs_at
  pairs_turn o₀ o k r b h q = step r b h (omega arith) q

  pub pairs_done : (o₀ o : List ℕ) (k : ℕ) → length o₀ ≡ 86 → Ranged (pairs_at v) 86 o₀ o 0 86 k → 86 ≤ k → o ≡ tab (pairs_at v) 86
  pairs_done o₀ o k l b h = fill_whole 86 b.fills b.upper h l

pub ruleset paired = (pairs_start, pairs_turn, pairs_done, rules)

-- ---- the bytes: a loop for each range of places
pub bytes_start : (v o : List ℕ) → 256 ≤ length o → Ranged (byte_from v) 256 o o 0 86 0
bytes_start v o h = record { lower = omega arith; upper = omega arith; room = h; fills = fill_none _ _ }

-- the two low bits that a byte takes of a value
pairs_0 : (x : ℕ) → (low x + low (x / 4) * 4 + low (x / 16) * 16) % 4 ≡ low x
pairs_0 x = omega arith

pairs_1 : (x : ℕ) → (low x + low (x / 4) * 4 + low (x / 16) * 16) / 4 % 4 ≡ low (x / 4)
pairs_1 x = let e : (low x + low (x / 4) * 4 + low (x / 16) * 16) / 4 ≡ low (x / 4) + low (x / 16) * 4 = omega arith in rw e (omega arith)

pairs_2 : (x : ℕ) → (low x + low (x / 4) * 4 + low (x / 16) * 16) / 16 % 4 ≡ low (x / 16)
pairs_2 x = let e : (low x + low (x / 4) * 4 + low (x / 16) * 16) / 16 ≡ low (x / 16) = omega arith in rw e (omega arith)

-- what stands in the array of them
pairs_at_lem : (v p : List ℕ) (k : ℕ) → p ≡ tab (pairs_at v) 86 → k < 86 → get_or p k 0 ≡ low (get_or v k 0) + low (get_or v k 0 / 4) * 4 + low (get_or v k 0 / 16) * 16
unfolding pairs_at
pairs_at_lem v p k e h = rw e (get_or_tab (pairs_at v) 86 k 0 h)

pub turn_0 : (v p o₀ o : List ℕ) (i r : ℕ) → p ≡ tab (pairs_at v) 86 → Ranged (byte_from v) 256 o₀ o 0 86 i → i < 86
    → r ≡ get_or v (i + 86) 0 % 64 * 4 + get_or p i 0 % 4 → Ranged (byte_from v) 256 o₀ (set o i r) 0 86 (i + 1)
unfolding byte_from
turn_0 v p o₀ o i r e b h q = step r b h (omega arith) (q ∙ rw (lt-ltb i 86 h, pairs_at_lem v p i e h, pairs_0 (get_or v i 0)) refl)

pub next_1 : (v o₀ o : List ℕ) (i : ℕ) → Ranged (byte_from v) 256 o₀ o 0 86 i → 86 ≤ i → Ranged (byte_from v) 256 o o 86 172 i
next_1 v o₀ o i b h = next 172 b h (omega arith) (omega arith)

pub turn_1 : (v p o₀ o : List ℕ) (i r : ℕ) → p ≡ tab (pairs_at v) 86 → Ranged (byte_from v) 256 o₀ o 86 172 i → i < 172
    → r ≡ get_or v (i + 86) 0 % 64 * 4 + get_or p (i - 86) 0 / 4 % 4 → Ranged (byte_from v) 256 o₀ (set o i r) 86 172 (i + 1)
unfolding byte_from
turn_1 v p o₀ o i r e b h q =
    step r b h (omega arith) (q ∙ rw (le-ltb i 86 b.lower, lt-ltb i 172 h, pairs_at_lem v p (i - 86) e (omega (arith, b.lower)), pairs_1 (get_or v (i - 86) 0)) refl)

pub next_2 : (v o₀ o : List ℕ) (i : ℕ) → Ranged (byte_from v) 256 o₀ o 86 172 i → 172 ≤ i → Ranged (byte_from v) 256 o o 172 256 i
next_2 v o₀ o i b h = next 256 b h (omega arith) (omega arith)

pub turn_2 : (v p o₀ o : List ℕ) (i r : ℕ) → p ≡ tab (pairs_at v) 86 → Ranged (byte_from v) 256 o₀ o 172 256 i → i < 256
    → r ≡ get_or v (i + 86) 0 % 64 * 4 + get_or p (i - 172) 0 / 16 % 4 → Ranged (byte_from v) 256 o₀ (set o i r) 172 256 (i + 1)
unfolding byte_from
turn_2 v p o₀ o i r e b h q =
    step r b h (omega arith)
    (q ∙ rw (le-ltb i 86 (omega (arith, b.lower)), le-ltb i 172 b.lower, pairs_at_lem v p (i - 172) e (omega (arith, b.lower)), pairs_2 (get_or v (i - 172) 0)) refl)

pub bytes_done : (v o₀ o₁ o₂ o₃ : List ℕ) (i j k : ℕ) → Ranged (byte_from v) 256 o₀ o₁ 0 86 i → Ranged (byte_from v) 256 o₁ o₂ 86 172 j → Ranged (byte_from v) 256 o₂ o₃ 172 256 k → 256 ≤ k
    → o₃ ≡ filled (byte_from v) 256 o₀
bytes_done v o₀ o₁ o₂ o₃ i j k a b c h =
    let e : k ≡ 256 = omega (arith, c.upper) in
    let q : Filling (byte_from v) k o₀ o₃ =
    fill_again (fill_again a.fills b.fills (omega (arith, a.upper, b.lower)) (omega (arith, a.room, b.upper))) c.fills (omega (arith, b.upper, c.lower)) (omega (arith, a.room)) in
    rw e at q.is

pub ruleset byted = (bytes_start, turn_0, next_1, turn_1, next_2, turn_2, bytes_done, rules)

-- ---- the read table in place of the rule
pub summed : (n : List ℕ) → run_at (looked reads) n 342 ≡ val_at n 342
summed n = sum_read reads read_of (reads_at reads refl) 342 n

pub valued : (n : List ℕ) → tab (run_at (looked reads) n) 343 ≡ values_of n
unfolding values_of
valued n = values_read reads read_of (reads_at reads refl) 343 n

-- ---- the returns of decode_sector
pub sum_is : (n v : List ℕ) → v ≡ values_of n → get_or v 342 0 ≡ val_at n 342
unfolding values_of
sum_is n v e = rw (e, get_or_tab (val_at n) 343 342 0 (omega arith)) refl

pub bad : (n v o : List ℕ) (h : Outcome ℕ) → v ≡ values_of n → (get_or v 342 0 ≡ 0 → ⊥) → h ≡ Err DataSum → Hands (decoded n) o o h
unfolding decoded
bad n v o h e z q = hands_refused (decoded n) o DataSum (rw (← sum_is n v e, ne_eqb _ _ z) refl) h q

-- where the sum is right the bytes are given
pub decoded_given : (n : List ℕ) → val_at n 342 ≡ 0 → decoded n ≡ Ok (decode n)
unfolding decoded
decoded_given n z = rw (eq-eqb _ _ z) refl

pub short : (n v o : List ℕ) (h : Outcome ℕ) → v ≡ values_of n → get_or v 342 0 ≡ 0 → length o < 256 → h ≡ Err TrayShort → Hands (decoded n) o o h
short n v o h e z l q = hands_short (decoded n) o (decode n) (decoded_given n (sym (sum_is n v e) ∙ z)) (rw (length_decode n) l) h q

unpacked : (n v o₀ o : List ℕ) → v ≡ values_of n → o ≡ filled (byte_from v) 256 o₀ → o ≡ decode n ++ drop 256 o₀
unfolding decode filled
unpacked n v o₀ o e f = f ∙ rw e refl

-- ---- the returns of sector_data
pub data_short : (n o : List ℕ) → length o < 256 → o ≡ placed 0 (decode n) o
data_short n o l = placed_short 0 (decode n) o (omega arith) (rw (length_decode n) (omega arith))

pub data_is : (n v o₀ o : List ℕ) → v ≡ values_of n → 256 ≤ length o₀ → o ≡ filled (byte_from v) 256 o₀ → o ≡ placed 0 (decode n) o₀
data_is n v o₀ o e room f =
    let l : length (decode n) ≡ 256 = length_decode n in
    let p : Put 0 (decode n) o₀ o = put_is_front 256 (unpacked n v o₀ o e f) l room in
    placed_fits 0 (decode n) o₀ o (omega arith) (rw l (omega arith)) p.is

pub ruleset unpacks = (data_short, data_is, sum_is, rules)

pub done : (n v o₀ o : List ℕ) (h : Outcome ℕ) → v ≡ values_of n → get_or v 342 0 ≡ 0 → 256 ≤ length o₀ → o ≡ filled (byte_from v) 256 o₀
    → h ≡ Ok 256 → Hands (decoded n) o₀ o h
done n v o₀ o h e z room f q =
    let l : length (decode n) ≡ 256 = length_decode n in
    hands_over_lem (decoded n) o₀ o (decode n) (decoded_given n (sym (sum_is n v e) ∙ z)) (rw l room) (rw l (unpacked n v o₀ o e f)) h (rw l q)

pub ruleset decodes = (bad, short, done, rules)
