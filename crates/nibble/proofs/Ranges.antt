-- Loops one behind the other over one buffer, each for a range of its places. Assumes nothing.
use mathlib.Core.Path.{◌≡◌}
use mathlib.Core.List.{List}
use Prim.Native.Nat.{ℕ, ◌+◌, ◌≤◌, ◌<◌}
use native.Mathlib.Omega.{arith}
use lib.ListN.{length, set}
use Rattle.lists.proofs.Laws.{Filling, fill_step, fill_self}

-- places a to e are filled by a loop of their own, up to i; o₀ is the buffer as that loop began, and it has m places
pub record Ranged (f : ℕ → ℕ) (m : ℕ) (o₀ o : List ℕ) (a e i : ℕ) : Type 0 where
  pub lower : a ≤ i
  pub upper : i ≤ e
  pub room : m ≤ length o₀
  pub fills : Filling f i o₀ o

pub step : {f : ℕ → ℕ} {m : ℕ} {o₀ o : List ℕ} {a e i : ℕ} (r : ℕ) → Ranged f m o₀ o a e i → i < e → e ≤ m → r ≡ f i → Ranged f m o₀ (set o i r) a e (i + 1)
step r b h l q =
    record { lower = omega (arith, b.lower); upper = omega arith; room = b.room; fills = fill_step b.fills (omega (arith, b.room)) q }

-- the next range
pub next : {f : ℕ → ℕ} {m : ℕ} {o₀ o : List ℕ} {a e i : ℕ} (e' : ℕ) → Ranged f m o₀ o a e i → e ≤ i → e ≤ e' → e' ≤ m → Ranged f m o o e e' i
next e' b h l u =
    record { lower = h; upper = omega (arith, b.upper); room = omega (arith, b.room, b.fills.long); fills = fill_self b.fills (omega (arith, b.room, b.upper)) }
