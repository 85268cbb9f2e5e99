-- The running XOR over any rule of reading: its step, zeros behind the nibbles, `sum_with` and `put_values` over plain variables. Assumes nothing.
use mathlib.Core.Path.{◌≡◌, refl, sym, ap, ◌∙◌}
use mathlib.Core.List.{List}
use Prim.Native.Nat.{ℕ, zero, suc, ◌+◌, ◌%◌, ◌≤◌, ◌<◌}
use native.Mathlib.Omega.{arith}
use borrow.Author.Rules.{rules}
use lib.Bits.{bit_xor, xor_comm}
use lib.ListN.{length, set, get_or}
use Rattle.lists.specs.Fill.{tab, before_of, padded}
use Rattle.lists.proofs.Laws.{Filling, fill_none, fill_step, fill_whole, before_next, get_or_padded, tab_ext}
use Rattle.lists.proofs.Bits.{xor_assoc}
use Rattle.nibble.specs.Running.{run_at, looked}

-- one step
pub run_step : (read : ℕ → ℕ) (n : List ℕ) (k : ℕ) → run_at read n k ≡ bit_xor (before_of (run_at read n) k) (read (get_or n k 0))
unfolding before_of run_at
run_step read n zero = refl
run_step read n (suc k) = refl

-- zeros behind the nibbles change no value
pub run_padded : (read : ℕ → ℕ) (m : ℕ) (n : List ℕ) (k : ℕ) → run_at read (padded m n) k ≡ run_at read n k
unfolding run_at
run_padded read m n zero = rw (get_or_padded m n zero) refl
run_padded read m n (suc k) = rw (run_padded read m n k, get_or_padded m n (suc k)) refl

-- two rules that are one
pub run_same : (f g : ℕ → ℕ) → ((b : ℕ) → f b ≡ g b) → (n : List ℕ) (k : ℕ) → run_at f n k ≡ run_at g n k
unfolding run_at
run_same f g e n zero = e (get_or n zero 0)
run_same f g e n (suc k) = rw (run_same f g e n k, e (get_or n (suc k) 0)) refl

-- ---- two chains of the sum: l and r together are the values so far
four : (l m a b : ℕ) → bit_xor (bit_xor l a) (bit_xor m b) ≡ bit_xor (bit_xor (bit_xor l m) a) b
four l m a b =
    let e : bit_xor (bit_xor l a) m ≡ bit_xor (bit_xor l m) a = xor_assoc l a m ∙ ap (bit_xor l) (xor_comm a m) ∙ sym (xor_assoc l m a) in
    sym (xor_assoc (bit_xor l a) m b) ∙ rw e refl

pub record Chains (read : ℕ → ℕ) (n : List ℕ) (m l r k : ℕ) : Type 0 where
  pub count : k ≤ m
  pub even : k % 2 ≡ 0
  pub all : m % 2 ≡ 0
  pub both : bit_xor l r ≡ before_of (run_at read n) k

pub chains_start : (read : ℕ → ℕ) (n : List ℕ) (m : ℕ) → m % 2 ≡ 0 → Chains read n m 0 0 0
unfolding before_of
chains_start read n m e = record { count = omega arith; even = refl; all = e; both = refl }

pub chains_turn : (read : ℕ → ℕ) (n : List ℕ) (m l r k a b : ℕ) → Chains read n m l r k → k < m → a ≡ read (get_or n k 0) → b ≡ read (get_or n (k + 1) 0)
    → Chains read n m (bit_xor l a) (bit_xor r b) (k + 2)
chains_turn read n m l r k a b i h p q =
    let u : bit_xor (bit_xor l r) a ≡ run_at read n k = cc (run_step read n k, i.both) in
    let u' : bit_xor (bit_xor l r) a ≡ before_of (run_at read n) (k + 1) = before_next _ _ _ u in
    let w : bit_xor (bit_xor (bit_xor l r) a) b ≡ run_at read n (k + 1) = cc (run_step read n (k + 1)) in
    let w' : bit_xor (bit_xor (bit_xor l r) a) b ≡ before_of (run_at read n) (k + 1 + 1) = before_next (run_at read n) (k + 1) _ w in
    let e : k + 1 + 1 ≡ k + 2 = omega arith in
    record { count = omega (arith, i.even, i.all); even = omega (arith, i.even); all = i.all; both = four l r a b ∙ (rw e at w') }

pub sum_done : (read : ℕ → ℕ) (n : List ℕ) (m l r k a : ℕ) → Chains read n m l r k → m ≤ k → a ≡ read (get_or n m 0) → bit_xor (bit_xor l r) a ≡ run_at read n m
sum_done read n m l r k a i h p =
    let e : k ≡ m = omega (arith, i.count) in
    let u : bit_xor l r ≡ before_of (run_at read n) m = rw e at i.both in
    rw (u, p) (sym (run_step read n m))

pub ruleset sums = (chains_start, chains_turn, sum_done, rules)

-- ---- the values, into a buffer of m places: l is the last
pub record Vals (read : ℕ → ℕ) (n : List ℕ) (m : ℕ) (v₀ v : List ℕ) (l k : ℕ) : Type 0 where
  pub count : k ≤ m
  pub long : length v ≡ m
  pub last : l ≡ before_of (run_at read n) k
  pub fills : Filling (run_at read n) k v₀ v

pub start : (read : ℕ → ℕ) (n v : List ℕ) → Vals read n (length v) v v 0 0
unfolding before_of
start read n v = record { count = omega arith; long = refl; last = refl; fills = fill_none _ _ }

pub turn : (read : ℕ → ℕ) (n : List ℕ) (m : ℕ) (v₀ v : List ℕ) (l k r : ℕ) → Vals read n m v₀ v l k → k < length v → r ≡ read (get_or n k 0)
    → Vals read n m v₀ (set v k (bit_xor l r)) (bit_xor l r) (k + 1)
turn read n m v₀ v l k r i h e =
    let q : bit_xor l r ≡ run_at read n k = cc (run_step read n k, i.last) in
    let f : Filling (run_at read n) (k + 1) v₀ (set v k (bit_xor l r)) = fill_step i.fills (omega (arith, i.fills.long)) q in
    record { count = omega (arith, i.long); long = omega (arith, i.long); last = before_next _ _ _ q; fills = f }

pub vals_are : (read : ℕ → ℕ) (n : List ℕ) (v₀ v : List ℕ) (l k : ℕ) → Vals read n (length v₀) v₀ v l k → length v ≤ k → v ≡ tab (run_at read n) (length v₀)
vals_are read n v₀ v l k i h = fill_whole (length v₀) i.fills i.count (omega (arith, i.long)) (omega arith)

pub ruleset valued = (start, turn, vals_are, rules)

-- ---- nibbles of any length
-- the values of nibbles with zeros behind them
pub values_padded : (read : ℕ → ℕ) (m : ℕ) (n : List ℕ) (k : ℕ) → tab (run_at read (padded m n)) k ≡ tab (run_at read n) k
values_padded read m n k = tab_ext (run_at read (padded m n)) (run_at read n) k (λ j h. run_padded read m n j)

-- a table that says what a rule says
module _ (t : List ℕ) (read : ℕ → ℕ) (same : (b : ℕ) → looked t b ≡ read b) where
  pub sum_read : (k : ℕ) (n : List ℕ) → run_at (looked t) n k ≡ run_at read n k
  sum_read k n = run_same (looked t) read same n k

  pub values_read : (k : ℕ) (n : List ℕ) → tab (run_at (looked t) n) k ≡ tab (run_at read n) k
  values_read k n = tab_ext (run_at (looked t) n) (run_at read n) k (λ j h. run_same (looked t) read same n j)
