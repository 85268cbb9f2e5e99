-- How many of the numbers below m pass a test. Assumes nothing.
use mathlib.Core.Path.{◌≡◌, refl, sym, ap, ◌∙◌}
use mathlib.Core.Bool.{Bool, true, false, cond, ◌&&◌}
use mathlib.Core.List.{List, [], ◌∷◌}
use Prim.Native.Nat.{ℕ, zero, suc, ◌+◌, ◌<◌, ◌≤◌}
use native.Mathlib.Nat.{add-zero, add-suc}
use native.Mathlib.Omega.{arith}
use lib.ListN.{length, length-append}
use Rattle.lists.specs.Fill.{tab, below}
use Rattle.lists.specs.Select.{filter, passing}
use Rattle.lists.proofs.Split.{by_test, by_lt}
use Rattle.lists.proofs.Laws.{tab_suc}
use Rattle.lists.proofs.Select.{filter_append}

-- what a test adds
abbrev pub one : Bool → ℕ
one b = cond b 1 0

module _ (test : ℕ → Bool) where
  -- of no numbers
  pub passing_none : passing test 0 ≡ 0
  unfolding passing filter tab
  passing_none = refl

  -- one number more
  pub passing_suc : (m : ℕ) → passing test (suc m) ≡ passing test m + one (test m)
  unfolding passing filter
  passing_suc m =
      let e : length (filter test (m ∷ [])) ≡ one (test m) = by_test (test m) (λ e. rw e refl) (λ e. rw e refl) in
      ap (λ (l : List ℕ). length (filter test l)) (tab_suc (λ k. k) m) ∙ ap length (filter_append test (below m) (m ∷ []))
      ∙ length-append (filter test (below m)) (filter test (m ∷ [])) ∙ ap (λ (k : ℕ). length (filter test (below m)) + k) e

-- two tests that agree
pub passing_same : (f g : ℕ → Bool) (m : ℕ) → ((k : ℕ) → k < m → f k ≡ g k) → passing f m ≡ passing g m
passing_same f g zero h = passing_none f ∙ sym (passing_none g)
passing_same f g (suc m) h =
    let i = passing_same f g m (λ k l. h k (omega arith)) in
    passing_suc f m ∙ rw (h m (omega arith), i) (sym (passing_suc g m))

-- two tests of which no number passes both, and one that joins them
pub passing_sum : (f g h : ℕ → Bool) (m : ℕ) → ((k : ℕ) → one (f k) + one (g k) ≡ one (h k)) → passing f m + passing g m ≡ passing h m
passing_sum f g h zero e = rw (passing_none f, passing_none g, passing_none h) refl
passing_sum f g h (suc m) e =
    let i = passing_sum f g h m e in
    let a = passing_suc f m in
    let b = passing_suc g m in
    let c = passing_suc h m in
    let s = e m in
    omega arith

-- no more pass two tests than one of them
pub passing_both : (f g : ℕ → Bool) (m : ℕ) → passing (λ k. f k && g k) m ≤ passing f m
passing_both f g zero = let a = passing_none (λ k. f k && g k) in omega arith
passing_both f g (suc m) =
    let i = passing_both f g m in
    let a = passing_suc (λ k. f k && g k) m in
    let b = passing_suc f m in
    let s : one (f m && g m) ≤ one (f m) =
    by_test (f m) (λ e. rw e (by_test (g m) (λ q. rw q (omega arith)) (λ q. rw q (omega arith)))) (λ e. rw e (omega arith)) in
    omega arith

-- all numbers pass, or none
pub passing_all : (m : ℕ) → passing (λ k. true) m ≡ m
passing_all zero = passing_none (λ k. true)
passing_all (suc m) = let i = passing_all m in let a = passing_suc (λ k. true) m in omega arith

module _ (test : ℕ → Bool) where
  pub passing_zero : (m : ℕ) → ((k : ℕ) → k < m → test k ≡ false) → passing test m ≡ 0
  passing_zero zero h = passing_none test
  passing_zero (suc m) h =
      let i = passing_zero m (λ k l. h k (omega arith)) in
      passing_suc test m ∙ rw (h m (omega arith), i) refl

  pub zero_passing : (m : ℕ) → passing test m ≡ 0 → (k : ℕ) → k < m → test k ≡ false
  zero_passing zero e k h = absurd (omega arith)
  zero_passing (suc m) e k h =
      by_test (test m) (λ t. absurd (let s : passing test (suc m) ≡ passing test m + 1 = passing_suc test m ∙ rw t refl in omega arith))
      (λ t.
      let s : passing test (suc m) ≡ passing test m + 0 = passing_suc test m ∙ rw t refl in
      by_lt k m (λ l. zero_passing m (omega arith) k l) (λ l. let q : k ≡ m = omega arith in rw q t))

  -- no more than there are, and where it is as many, each passes
  pub passing_few : (m : ℕ) → passing test m ≤ m
  passing_few zero = let a = passing_none test in omega arith
  passing_few (suc m) =
      let i = passing_few m in
      let a = passing_suc test m in
      let s : one (test m) ≤ 1 = by_test (test m) (λ e. rw e (omega arith)) (λ e. rw e (omega arith)) in
      omega arith

  pub all_passing : (m : ℕ) → passing test m ≡ m → (k : ℕ) → k < m → test k ≡ true
  all_passing zero e k h = absurd (omega arith)
  all_passing (suc m) e k h =
      let f = passing_few m in
      by_test (test m)
      (λ t.
      let s : passing test (suc m) ≡ passing test m + 1 = passing_suc test m ∙ rw t refl in
      by_lt k m (λ l. all_passing m (omega arith) k l) (λ l. let q : k ≡ m = omega arith in rw q t))
      (λ t. absurd (let s : passing test (suc m) ≡ passing test m + 0 = passing_suc test m ∙ rw t refl in omega arith))

-- ---- in two runs
pub passing_add : (test : ℕ → Bool) (m k : ℕ) → passing test (m + k) ≡ passing test m + passing (λ s. test (m + s)) k
passing_add test m zero = let z = passing_none (λ s. test (m + s)) in rw (add-zero m) (omega arith)
passing_add test m (suc k) =
    let i = passing_add test m k in
    let a = passing_suc test (m + k) in
    let b = passing_suc (λ s. test (m + s)) k in
    rw (add-suc m k) (omega arith)

-- .. of which the first is number 0 alone
pub passing_front : (test : ℕ → Bool) (m : ℕ) → passing test (suc m) ≡ one (test 0) + passing (λ j. test (suc j)) m
passing_front test zero = let a = passing_suc test 0 in let b = passing_none test in let c = passing_none (λ j. test (suc j)) in omega arith
passing_front test (suc m) =
    let i = passing_front test m in
    let a = passing_suc test (suc m) in
    let b = passing_suc (λ j. test (suc j)) m in
    omega arith
