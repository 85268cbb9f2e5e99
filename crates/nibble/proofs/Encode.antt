-- `lows`, `steps` and `encode_sector` over plain variables. Their proof files are `search` of these rules at every need. Assumes nothing.
use mathlib.Core.Path.{◌≡◌, refl, sym, ap, ◌∙◌}
use mathlib.Core.Bool.{Bool}
use mathlib.Core.List.{List}
use Prim.Native.Nat.{ℕ, zero, suc, ◌+◌, ◌-◌, ◌*◌, ◌/◌, ◌%◌, ◌≤◌, ◌<◌}
use native.Mathlib.Omega.{arith}
use borrow.Author.Rules.{rules}
use borrow.Author.Tests.{ne_eqb}
use lib.Bits.{bit_xor, bit_and, and_le_r, xor_lt, xor_zero_r, xor_comm, xor_shr}
use lib.Dec.{eqb, eqb→eq}
use lib.ListN.{length, set, get_or, replicate, length-set, get_or-eq_default}
use Rattle.lists.specs.Fill.{tab, before_of}
use Rattle.lists.proofs.Split.{by_lt}
use Rattle.lists.proofs.Table.{test_at}
use Rattle.lists.proofs.Laws.{Filling, fill_none, fill_step, fill_done, fill_whole, get_or_tab}
use Rattle.nibble.specs.Nibble.{low, write_of, value_of, step_of, LowsOf, StepsOf, nibble_of, encoded, encode}
use Rattle.outcome.specs.declared.Refusal.TheVariants.{OffSize, TrayShort}
use Rattle.std.specs.Prelude.{Ok, Err}
use Rattle.outcome.specs.Outcome.{Outcome, Hands}
use Rattle.outcome.proofs.Outcome.{hands_refused, hands_short, hands_over_lem}
use Rattle.nibble.proofs.Callers.{length_encode, encoded_given}
use Rattle.nibble.proofs.RoundTrip.{value_low, value_high, low_0, low_4}

-- ---- the low bits of three bytes, swapped at once: a test of all 64 values
swaps : ℕ → ℕ → Bool
swaps k x = eqb (bit_and k 21 * 2 + bit_and (k / 2) 21) (low k + low (k / 4) * 4 + low (k / 16) * 16)

swap_is : (t : ℕ) → t < 64 → bit_and t 21 * 2 + bit_and (t / 2) 21 ≡ low t + low (t / 4) * 4 + low (t / 16) * 16
unfolding swaps
swap_is t h = eqb→eq _ _ (test_at swaps (replicate 64 0) tt t h)

low_mod : (a : ℕ) → low (a % 4) ≡ low a
low_mod a = let e : a % 4 + a / 4 * 4 ≡ a = omega arith in sym (rw e at (low_4 (a % 4) (a / 4)))

three_is : (x y z : ℕ) → x < 4 → y < 4 → z < 4
    → low (x + y * 4 + z * 16) + low ((x + y * 4 + z * 16) / 4) * 4 + low ((x + y * 4 + z * 16) / 16) * 16 ≡ low x + low y * 4 + low z * 16
three_is x y z p q r =
    let e : (x + y * 4 + z * 16) / 4 ≡ y + z * 4 = omega arith in
    let f : (x + y * 4 + z * 16) / 16 ≡ z = omega arith in
    rw (e, f, low_0 x y z, low_4 y z) refl

pub low6_is : (a b c m n : ℕ) → m ≡ bit_and (a % 4 + b % 4 * 4 + c % 4 * 16) 21 → n ≡ bit_and ((a % 4 + b % 4 * 4 + c % 4 * 16) / 2) 21
    → m * 2 + n ≡ low a + low b * 4 + low c * 16
low6_is a b c m n p q =
    rw (p, q, swap_is (a % 4 + b % 4 * 4 + c % 4 * 16) (omega arith), three_is (a % 4) (b % 4) (c % 4) (omega arith) (omega arith) (omega arith), low_mod a, low_mod b, low_mod c) refl

pub and_21 : (t : ℕ) → bit_and t 21 ≤ 21
and_21 t = and_le_r t 21

pub ruleset masked = (low6_is, and_21, rules)

-- ---- a local array of small elements, whose places a to e are filled by a loop of their own; old is the array as it began
pub record Part (f : ℕ → ℕ) (v : List ℕ) (n a e k : ℕ) : Type 0 where
  pub lower : a ≤ k
  pub upper : k ≤ e
  pub long : length v ≡ n
  pub small : (j : ℕ) → j < k → f j < 64
  pub old : List ℕ
  pub room : length old ≡ n
  pub fills : Filling f k old v

begin : {f : ℕ → ℕ} {v : List ℕ} {n : ℕ} (e : ℕ) → length v ≡ n → Part f v n 0 e 0
begin {f} {v} e h =
    record { lower = omega arith; upper = omega arith; long = h; small = λ j g. absurd (omega arith); old = v; room = h; fills = fill_none f v }

step : {f : ℕ → ℕ} {v : List ℕ} {n a e k : ℕ} (r : ℕ) → Part f v n a e k → k < e → e ≤ n → r ≡ f k → r < 64 → Part f (set v k r) n a e (k + 1)
step {f} {v} {n} {a} {e} {k} r i h m q l =
    record {
      lower = omega (arith, i.lower);
      upper = omega arith;
      long = length-set v k r ∙ i.long;
      small = λ j g. by_lt j k (λ p. i.small j p) (λ p. let u : j ≡ k = omega arith in rw (u, ← q) l);
      old = i.old;
      room = i.room;
      fills = fill_step i.fills (omega (arith, i.room)) q;
    }

next : {f : ℕ → ℕ} {v : List ℕ} {n a e k : ℕ} (a' e' : ℕ) → Part f v n a e k → a' ≤ k → k ≤ e' → Part f v n a' e' k
next a' e' i h l = record { lower = h; upper = l; long = i.long; small = i.small; old = i.old; room = i.room; fills = i.fills }

whole : {f : ℕ → ℕ} {v : List ℕ} {n a e k : ℕ} → Part f v n a e k → k ≡ n → v ≡ tab f n
whole {n = n} i h = fill_whole n i.fills (omega arith) (omega arith) i.room

-- ---- lows
pub lows_start : (s v : List ℕ) → length v ≡ 86 → Part (value_of s) v 86 0 84 0
lows_start s v h = begin 84 h

pub turn_3 : (s v : List ℕ) (k r : ℕ) → Part (value_of s) v 86 0 84 k → k < 84
    → r ≡ low (get_or s k 0) + low (get_or s (k + 86) 0) * 4 + low (get_or s (k + 172) 0) * 16 → r < 64 → Part (value_of s) (set v k r) 86 0 84 (k + 1)
turn_3 s v k r i h q l = step r i h (omega arith) (q ∙ sym (value_low s k (omega arith))) l

pub next_2 : (s v : List ℕ) (k : ℕ) → Part (value_of s) v 86 0 84 k → 84 ≤ k → Part (value_of s) v 86 84 86 k
next_2 s v k i h = next 84 86 i h (omega (arith, i.upper))

pub turn_2 : (s v : List ℕ) (k r : ℕ) → length s ≡ 256 → Part (value_of s) v 86 84 86 k → k < 86
    → r ≡ low (get_or s k 0) + low (get_or s (k + 86) 0) * 4 + low 0 * 16 → r < 64 → Part (value_of s) (set v k r) 86 84 86 (k + 1)
turn_2 s v k r n i h q l =
    let z : get_or s (k + 172) 0 ≡ 0 = get_or-eq_default s 0 {n = k + 172} (omega (arith, i.lower)) in
    step r i h (omega arith) (q ∙ sym (value_low s k (omega arith) ∙ rw z refl)) l

pub lows_done : (s v : List ℕ) (k : ℕ) → Part (value_of s) v 86 84 86 k → 86 ≤ k → LowsOf s v
lows_done s v k i h = record { is = whole i (omega (arith, i.upper)); small = λ j g. i.small j (omega arith) }

pub ruleset lowered = (lows_start, turn_3, next_2, turn_2, lows_done, rules)

-- ---- steps
step_suc : (s : List ℕ) (k : ℕ) → 1 ≤ k → step_of s k ≡ bit_xor (value_of s k) (value_of s (k - 1))
unfolding step_of before_of
step_suc s zero h = absurd (omega arith)
step_suc s (suc k) h = let e : suc k - 1 ≡ k = omega arith in rw e refl

low_at : (s l : List ℕ) (k : ℕ) → LowsOf s l → k < 86 → get_or l k 0 ≡ value_of s k
low_at s l k w h = rw w.is (get_or_tab (value_of s) 86 k 0 h)

high_at : (s : List ℕ) (k : ℕ) → 86 ≤ k → value_of s k ≡ get_or s (k - 86) 0 / 4
high_at s k h = let e : k - 86 + 86 ≡ k = omega arith in rw e at (value_high s (k - 86))

pub steps_start : (s l d : List ℕ) → LowsOf s l → length d ≡ 343 → Part (step_of s) (set d 0 (get_or l 0 0)) 343 1 86 1
unfolding step_of before_of
steps_start s l d w h =
    let q : get_or l 0 0 ≡ step_of s 0 = low_at s l 0 w (omega arith) ∙ sym (xor_zero_r (value_of s 0)) in
    let m : get_or l 0 0 < 64 = rw (low_at s l 0 w (omega arith)) (w.small 0 (omega arith)) in
    let b : Part (step_of s) d 343 0 86 0 = begin 86 h in
    next 1 86 (step (get_or l 0 0) b (omega arith) (omega arith) q m) (omega arith) (omega arith)

pub steps_low : (s l d : List ℕ) (k : ℕ) → LowsOf s l → Part (step_of s) d 343 1 86 k → k < 86
    → Part (step_of s) (set d k (bit_xor (get_or l k 0) (get_or l (k - 1) 0))) 343 1 86 (k + 1)
steps_low s l d k w i h =
    let a = low_at s l k w h in
    let b = low_at s l (k - 1) w (omega arith) in
    step _ i h (omega arith) (rw (a, b) (sym (step_suc s k i.lower))) (rw (a, b) (xor_lt 6 _ _ (w.small k h) (w.small (k - 1) (omega arith))))

pub steps_mid : (s l d : List ℕ) (k r : ℕ) → LowsOf s l → Part (step_of s) d 343 1 86 k → 86 ≤ k → r ≡ get_or s 0 0 / 4 → r < 64
    → Part (step_of s) (set d k (bit_xor (get_or l (k - 1) 0) r)) 343 87 342 (k + 1)
steps_mid s l d k r w i h q m =
    let e : k - 86 ≡ 0 = omega (arith, i.upper) in
    let a = low_at s l (k - 1) w (omega (arith, i.upper, i.lower)) in
    let b : r ≡ value_of s k = q ∙ sym (high_at s k h ∙ rw e refl) in
    let c : step_of s k ≡ bit_xor (value_of s k) (value_of s (k - 1)) = step_suc s k i.lower in
    let x : bit_xor (get_or l (k - 1) 0) r ≡ step_of s k = rw (a, b) (xor_comm (value_of s (k - 1)) (value_of s k) ∙ sym c) in
    let y : bit_xor (get_or l (k - 1) 0) r < 64 = rw a (xor_lt 6 _ _ (w.small (k - 1) (omega (arith, i.upper, i.lower))) m) in
    let j : Part (step_of s) d 343 1 343 k = next 1 343 i i.lower (omega (arith, i.upper)) in
    next 87 342 (step _ j (omega (arith, i.upper)) (omega arith) x y) (omega arith) (omega (arith, i.upper))

pub steps_high : (s d : List ℕ) (k r : ℕ) → Part (step_of s) d 343 87 342 k → k < 342
    → r ≡ bit_xor (get_or s (k - 86) 0) (get_or s (k - 87) 0) / 4 → r < 64 → Part (step_of s) (set d k r) 343 87 342 (k + 1)
steps_high s d k r i h q l =
    let e : k - 1 - 86 ≡ k - 87 = omega arith in
    let x : step_of s k ≡ bit_xor (get_or s (k - 86) 0 / 4) (get_or s (k - 87) 0 / 4) =
    step_suc s k (omega (arith, i.lower)) ∙ rw (high_at s k (omega (arith, i.lower)), high_at s (k - 1) (omega (arith, i.lower)), e) refl in
    step r i h (omega arith) (q ∙ xor_shr (get_or s (k - 86) 0) (get_or s (k - 87) 0) 2 ∙ sym x) l

-- value 342 is 0, so the last step is value 341
pub steps_done : (s d : List ℕ) (k r : ℕ) → length s ≡ 256 → Part (step_of s) d 343 87 342 k → 342 ≤ k → r ≡ get_or s 255 0 / 4 → r < 64
    → StepsOf s (set d 342 r)
steps_done s d k r n i h q l =
    let e : k ≡ 342 = omega (arith, i.upper) in
    let j : Part (step_of s) d 343 87 343 342 = rw e at (next 87 343 i i.lower (omega arith)) in
    let z : value_of s 342 ≡ 0 = high_at s 342 (omega arith) ∙ rw (get_or-eq_default s 0 {n = 256} (omega arith)) refl in
    let x : r ≡ step_of s 342 = q ∙ sym (step_suc s 342 (omega arith) ∙ rw (z, high_at s 341 (omega arith)) refl) in
    let p = step r j (omega arith) (omega arith) x l in
    record { is = whole p (omega arith); small = λ j g. p.small j (omega arith) }

pub ruleset stepped = (steps_start, steps_low, steps_mid, steps_high, steps_done, rules)

-- ---- encode_sector
pub record Outs (s o₀ o : List ℕ) (k : ℕ) : Type 0 where
  pub count : k ≤ 343
  pub fills : Filling (nibble_of s) k o₀ o

pub outs_start : (s o : List ℕ) → Outs s o o 0
outs_start s o = record { count = omega arith; fills = fill_none _ _ }

got : (s d : List ℕ) (k : ℕ) → StepsOf s d → k < 343 → get_or d k 0 ≡ step_of s k
got s d k w h = rw w.is (get_or_tab (step_of s) 343 k 0 h)

pub small : (s d : List ℕ) (k : ℕ) → StepsOf s d → k < 343 → get_or d k 0 < 64
small s d k w h = rw (got s d k w h) (w.small k h)

pub turn : (s d o₀ o : List ℕ) (k n : ℕ) → Outs s o₀ o k → k < 343 → 343 ≤ length o₀ → StepsOf s d
    → n ≡ write_of (get_or d k 0) → Outs s o₀ (set o k n) (k + 1)
unfolding nibble_of
turn s d o₀ o k n i h room w q =
    record { count = omega arith; fills = fill_step i.fills (omega arith) (q ∙ ap write_of (got s d k w h)) }

pub wrong : (s o : List ℕ) (h : Outcome ℕ) → (length s ≡ 256 → ⊥) → h ≡ Err OffSize → Hands (encoded s) o o h
unfolding encoded
wrong s o h n e = hands_refused (encoded s) o OffSize (rw (ne_eqb _ _ n) refl) h e

pub short : (s o : List ℕ) (h : Outcome ℕ) → length s ≡ 256 → length o < 343 → h ≡ Err TrayShort → Hands (encoded s) o o h
short s o h n l e = hands_short (encoded s) o (encode s) (encoded_given s n) (rw (length_encode s) l) h e

pub done : (s o₀ o : List ℕ) (k : ℕ) (h : Outcome ℕ) → length s ≡ 256 → 343 ≤ length o₀ → Outs s o₀ o k → 343 ≤ k → h ≡ Ok 343
    → Hands (encoded s) o₀ o h
unfolding encode
done s o₀ o k h n room i m e =
    let l : length (encode s) ≡ 343 = length_encode s in
    hands_over_lem (encoded s) o₀ o (encode s) (encoded_given s n) (rw l room) (rw l (fill_done 343 i.fills i.count m)) h (rw l e)

pub ruleset encodes = (outs_start, small, turn, wrong, short, done, rules)
