-- Sectors one behind the other: all of them joined, and one of them put in. Assumes nothing.
use mathlib.Core.Path.{◌≡◌, refl, sym, ap, ◌∙◌}
use mathlib.Core.List.{List, [], ◌∷◌, ◌++◌, flatten}
use Prim.Native.Nat.{ℕ, zero, suc, ◌+◌, ◌-◌, ◌*◌, ◌<◌, ◌≤◌}
use native.Mathlib.Omega.{arith}
use lib.ListN.{length, take, drop, length-drop, take-append-drop}
use lib.Seq.{drop-drop, drop_at, drop-append-add, take_at, take-take, take-append-le, drop-append-le, length-take-le}
use Rattle.lists.specs.Fill.{tab, put}
use Rattle.lists.proofs.Cuts.{drop_take}
use Rattle.std.specs.Prelude.{Ok, Err}
use Rattle.outcome.specs.Outcome.{Outcome, ◌>>=◌, each}

-- y in front of what o gives
join : (o : Outcome (List (List ℕ))) (y d : List ℕ) → (o >>= λ ss. Ok (flatten ss)) ≡ Ok d
    → ((o >>= λ ys. Ok (y ∷ ys)) >>= λ ss. Ok (flatten ss)) ≡ Ok (y ++ d)
unfolding flatten
join (Err r) y d e = cc
join (Ok ys) y d e = cc

-- where each call gives its 256 bytes of d, all together give d
pub each_joins : (f : ℕ → Outcome (List ℕ)) (h : ℕ → ℕ) (n : ℕ) (d : List ℕ) → length d ≡ 256 * n
    → ((k : ℕ) → k < n → f (h k) ≡ Ok (take 256 (drop (256 * k) d)))
    → (each f (tab h n) >>= λ ss. Ok (flatten ss)) ≡ Ok d
unfolding each tab flatten
each_joins f h zero [] l all = refl
each_joins f h zero (x ∷ d) l all = absurd (omega arith)
each_joins f h (suc n) d l all =
    let later : (k : ℕ) → k < n → f (h (suc k)) ≡ Ok (take 256 (drop (256 * k) (drop 256 d))) =
    λ k i. let e : 256 * suc k ≡ 256 + 256 * k = omega arith in all (suc k) (omega arith) ∙ rw (e, drop-drop) refl
    in
    rw (all zero (omega arith))
    (join (each f (tab (λ k. h (suc k)) n)) (take 256 d) (drop 256 d)
    (each_joins f (λ k. h (suc k)) n (drop 256 d) (length-drop 256 d ∙ omega arith) later)
    ∙ ap Ok (take-append-drop 256 d))

-- ---- L elements x put in from place `at`
module _ (at L : ℕ) (x d : List ℕ) (lx : length x ≡ L) (room : at + L ≤ length d) where
  -- there they stand, ..
  pub put_here : take L (drop at (put at x d)) ≡ x
  unfolding put
  put_here = rw (drop_at (take at d) (x ++ drop (at + length x) d) at (length-take-le at d (omega arith))) (take_at x (drop (at + length x) d) L lx)

  -- .. before them ..
  pub put_before : (b : ℕ) → b + L ≤ at → take L (drop b (put at x d)) ≡ take L (drop b d)
  unfolding put
  put_before b h =
      let r : List ℕ = x ++ drop (at + length x) d in
      let l : length (take at d) ≡ at = length-take-le at d (omega arith) in
      let m : length (drop b (take at d)) ≡ at - b = rw (length-drop, l) refl in
      ap (take L) (drop-append-le b (take at d) r (omega arith)) ∙ take-append-le L (drop b (take at d)) r (omega arith)
      ∙ rw (drop_take b at d) (take-take L (at - b) (drop b d) (omega arith))

  -- .. and behind them all is as it was
  pub put_behind : (b : ℕ) → at + L ≤ b → take L (drop b (put at x d)) ≡ take L (drop b d)
  unfolding put
  put_behind b h =
      let l : length (take at d) ≡ at = length-take-le at d (omega arith) in
      let e : b ≡ at + (length x + (b - (at + length x))) = omega arith in
      let m : ℕ = b - (at + length x) in
      let f : at + length x + m ≡ b = omega arith in
      ap (take L)
      (ap (λ (n : ℕ). drop n (take at d ++ (x ++ drop (at + length x) d))) e
      ∙ sym (drop-drop (length x + m) at (take at d ++ (x ++ drop (at + length x) d)))
      ∙ ap (drop (length x + m)) (drop_at (take at d) (x ++ drop (at + length x) d) at l)
      ∙ drop-append-add x (drop (at + length x) d) m ∙ drop-drop m (at + length x) d ∙ ap (λ (n : ℕ). drop n d) f)
