-- What does not go on, no longer file does: the sectors of a shorter one are sought first in the same order. Assumes nothing.
use mathlib.Core.Path.{◌≡◌, refl, sym, ap, ◌∙◌}
use mathlib.Core.Bool.{Bool, true, false}
use mathlib.Core.List.{List, [], ◌∷◌, ◌++◌}
use Prim.Native.Nat.{ℕ, ◌+◌, ◌<◌, ◌≤◌}
use native.Mathlib.Omega.{arith}
use lib.ListN.{length, take, drop, take-append-drop}
use lib.Seq.{ext_get_or, get_or-take, length-take-le}
use lib.Dec.{leb, ltb}
use borrow.Author.Tests.{leb-true, le-leb}
use Rattle.lists.proofs.Split.{by_test}
use Rattle.std.specs.Prelude.{Ok, Err}
use Rattle.outcome.specs.declared.Refusal.{Refusal}
use Rattle.outcome.specs.declared.Refusal.TheVariants.{NoSpace}
use Rattle.outcome.specs.Outcome.{Outcome, ◌>>=◌}
use Rattle.outcome.proofs.Outcome.{refused_given, map_refuses}
use Rattle.disk.specs.declared.Place.{Place}
use Rattle.amend.specs.Search.{take_one}
use Rattle.amend.specs.Save.{Part, sectors_in, data_for, lists_for, take_for}
use Rattle.allot.proofs.Flat.{take_run, flags, in_row, for_run, length_flags, flags_at}
use Rattle.forecast.specs.Forecast.{tried}

-- ---- the sectors of k bytes, in one run
abbrev flags_for : ℕ → List Bool
flags_for k = flags (lists_for (data_for k)) (data_for k) false

long_run : (k : ℕ) → length (flags_for k) ≡ lists_for (data_for k) + data_for k
long_run k = length_flags (lists_for (data_for k)) (data_for k) false (omega arith)

-- a longer file has those of a shorter one in front
flags_front : (k j : ℕ) → k ≤ j → take (length (flags_for k)) (flags_for j) ≡ flags_for k
flags_front k j h =
    let a = long_run k in
    let b = long_run j in
    let m : length (take (length (flags_for k)) (flags_for j)) ≡ length (flags_for k) = length-take-le (length (flags_for k)) (flags_for j) (omega arith) in
    ext_get_or false (take (length (flags_for k)) (flags_for j)) (flags_for k) m
    (λ i l.
    let u : i < length (flags_for k) = omega arith in
    get_or-take (length (flags_for k)) (flags_for j) i false u
    ∙ flags_at (lists_for (data_for j)) (data_for j) i false (omega arith) (omega arith) (omega arith)
    ∙ sym (flags_at (lists_for (data_for k)) (data_for k) i false (omega arith) (omega arith) (omega arith)))

flags_more : (k j : ℕ) → k ≤ j → flags_for j ≡ flags_for k ++ drop (length (flags_for k)) (flags_for j)
flags_more k j h =
    sym (take-append-drop (length (flags_for k)) (flags_for j)) ∙ ap (λ (l : List Bool). l ++ drop (length (flags_for k)) (flags_for j)) (flags_front k j h)

-- a sector in front of a run
abbrev in_front : Place → List Place × List ℕ → List Place × List ℕ
in_front p s = (p ∷ s.0, s.1)

module _ (n : ℕ) where
  -- a run that fails, fails with more behind it
  run_refused : (xs ys : List Bool) (d : List ℕ) (r : Refusal) → take_run n xs d ≡ Err r → take_run n (xs ++ ys) d ≡ Err r
  unfolding take_run
  run_refused [] ys d r h = absurd (refused_given (sym h))
  run_refused (x ∷ xs) ys d r h = go (take_one n x d) refl (run_refused xs ys)
    where
      go : (o : Outcome (Place × List ℕ)) → take_one n x d ≡ o → ((e : List ℕ) (q : Refusal) → take_run n xs e ≡ Err q → take_run n (xs ++ ys) e ≡ Err q)
          → take_run n (x ∷ (xs ++ ys)) d ≡ Err r
      go (Err q) e i = let z : Err q ≡ Err r = rw e at h in rw e z
      go (Ok p) e i =
          let z : (take_run n xs p.1 >>= λ s. Ok (in_front p.0 s)) ≡ Err r = rw e at h in
          rw (e, i p.1 r (map_refuses (in_front p.0) (take_run n xs p.1) z)) refl

  row_too : (o : Outcome (List Part × List ℕ)) (r : Refusal) → in_row o ≡ Err r → o ≡ Err r
  row_too o r h = map_refuses (λ (s : List Part × List ℕ). (sectors_in s.0, s.1)) o h

  take_longer : (k j : ℕ) → k ≤ j → (d : List ℕ) (r : Refusal) → take_for n k d ≡ Err r → take_for n j d ≡ Err r
  take_longer k j h d r e =
      let a : take_run n (flags_for k) d ≡ Err r = sym (for_run n k d) ∙ ap in_row e in
      row_too (take_for n j d) r
      (for_run n j d ∙ ap (λ (l : List Bool). take_run n l d) (flags_more k j h) ∙ run_refused (flags_for k) (drop (length (flags_for k)) (flags_for j)) d r a)

  -- a save that ends in 21, and a longer one
  pub tried_longer : (left k j : ℕ) → k ≤ j → (d : List ℕ) → tried n left k d ≡ Err NoSpace → tried n left j d ≡ Err NoSpace
  unfolding tried
  tried_longer left k j h d e =
      by_test (leb j 32768)
      (λ p.
      let q : leb k 32768 ≡ true = le-leb k 32768 (let u = leb-true j 32768 p in omega arith) in
      by_test (ltb 0 left)
      (λ t.
      let z : (take_for n k d >>= λ r. Ok r.1) ≡ Err NoSpace = rw (q, t) at e in
      rw (p, t, take_longer k j h d NoSpace (map_refuses (λ (r : List Part × List ℕ). r.1) (take_for n k d) z)) refl)
      (λ t. rw (p, t) refl))
      (λ p. rw p refl)
