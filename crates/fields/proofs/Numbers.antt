-- What holds of both editions, each by its two cases: the numbers, the order of the sectors on a track. Assumes nothing.
use mathlib.Core.Path.{◌≡◌, sym, ap, ◌∙◌}
use mathlib.Core.Bool.{cond}
use mathlib.Core.List.{List}
use Prim.Native.Nat.{ℕ, ◌+◌, ◌*◌, ◌/◌, ◌%◌, ◌≤◌, ◌<◌}
use native.Mathlib.Nat.{add-mul-mod_self_right}
use native.Mathlib.Omega.{arith}
use borrow.Author.Rules.{rules}
use borrow.Author.Tests.{eq-eqb, ne_eqb, eqb-true}
use lib.Dec.{eqb, ltb, eqb→eq, ltb→lt}
use lib.ListN.{get_or, replicate}
use Rattle.lists.specs.Fill.{tab}
use Rattle.lists.proofs.Laws.{get_or_tab}
use Rattle.lists.proofs.Split.{by_test, clash}
use Rattle.lists.proofs.Table.{test_at}
use Rattle.fields.specs.declared.Edition.{Edition}
use Rattle.fields.specs.declared.Edition.TheVariants.{Sixteen, Thirteen}
use Rattle.fields.specs.Editions.{mark_of, nibbles_of, per_track, interleave, dos_sector}

-- ---- the numbers
pub mark_some : (ed : Edition) → 0 < mark_of ed
unfolding mark_of
mark_some Sixteen = omega arith
mark_some Thirteen = omega arith

pub nibbles_small : (ed : Edition) → nibbles_of ed ≤ 411
unfolding nibbles_of
nibbles_small Sixteen = omega arith
nibbles_small Thirteen = omega arith

pub per_some : (ed : Edition) → 0 < per_track ed
unfolding per_track
per_some Sixteen = omega arith
per_some Thirteen = omega arith

pub per_small : (ed : Edition) → per_track ed ≤ 16
unfolding per_track
per_small Sixteen = omega arith
per_small Thirteen = omega arith

-- track and sector of a sector's number, and back
pub number_track : (ed : Edition) (t d : ℕ) → d < per_track ed → (per_track ed * t + d) / per_track ed ≡ t
unfolding per_track
number_track Sixteen t d h = omega arith
number_track Thirteen t d h = omega arith

pub number_sector : (ed : Edition) (t d : ℕ) → d < per_track ed → (per_track ed * t + d) % per_track ed ≡ d
unfolding per_track
number_sector Sixteen t d h = omega arith
number_sector Thirteen t d h = omega arith

pub number_whole : (ed : Edition) (j : ℕ) → per_track ed * (j / per_track ed) + j % per_track ed ≡ j
unfolding per_track
number_whole Sixteen j = omega arith
number_whole Thirteen j = omega arith

pub number_below : (ed : Edition) (t d : ℕ) → t ≤ 34 → d < per_track ed → per_track ed * t + d < 35 * per_track ed
unfolding per_track
number_below Sixteen t d h l = omega arith
number_below Thirteen t d h l = omega arith

-- ---- the order of the sectors on a track of 16, computed at its places
abbrev pub way_back : ℕ → ℕ
way_back s = cond (eqb s 15) 15 (13 * s % 15)

-- a DOS sector
pub interleave_lt : (p : ℕ) → p < 16 → interleave p < 16
unfolding interleave
interleave_lt p h = ltb→lt _ 16 (test_at (λ k x. ltb (interleave k) 16) (replicate 16 0) tt p h)

-- an address sector
pub way_lt : (s : ℕ) → s < 16 → way_back s < 16
way_lt s h = ltb→lt _ 16 (test_at (λ k x. ltb (way_back k) 16) (replicate 16 0) tt s h)

-- each DOS sector has its address sector
pub way_back_lem : (s : ℕ) → s < 16 → interleave (way_back s) ≡ s
unfolding interleave
way_back_lem s h = eqb→eq _ s (test_at (λ k x. eqb (interleave (way_back k)) k) (replicate 16 0) tt s h)

back : (p : ℕ) → p < 16 → way_back (interleave p) ≡ p
unfolding interleave
back p h = eqb→eq _ p (test_at (λ k x. eqb (way_back (interleave k)) k) (replicate 16 0) tt p h)

-- the table of dos_sectors says what the formula says: of the sixteen, and of the numbers past them
pub order_at : (t : List ℕ) (p : ℕ) → t ≡ tab interleave 16 → p < 16 → get_or t p 0 ≡ interleave p
order_at t p e h = rw e (get_or_tab interleave 16 p 0 h)

pub order_again : (t : List ℕ) (p : ℕ) → t ≡ tab interleave 16 → 16 ≤ p → get_or t (p % 15) 0 ≡ interleave p
unfolding interleave
order_again t p e h =
    let s : 7 * (p % 15) + 7 * (p / 15) * 15 ≡ 7 * p = omega arith in
    let f : 7 * (p % 15) % 15 ≡ 7 * p % 15 = sym (add-mul-mod_self_right (7 * (p % 15)) (7 * (p / 15)) 15) ∙ ap (λ (x : ℕ). x % 15) s in
    order_at t (p % 15) e (omega arith) ∙ rw (ne_eqb (p % 15) 15 (omega arith), ne_eqb p 15 (omega arith)) f

pub ruleset interleaves = (order_at, order_again, rules)

-- ---- and of both
pub dos_lt : (ed : Edition) (p : ℕ) → p < per_track ed → dos_sector ed p < per_track ed
unfolding per_track dos_sector
dos_lt Sixteen p h = interleave_lt p h
dos_lt Thirteen p h = h

pub same_sector : (ed : Edition) (p q : ℕ) → p < per_track ed → q < per_track ed → eqb p q ≡ eqb (dos_sector ed q) (dos_sector ed p)
unfolding per_track dos_sector
same_sector Sixteen p q hp hq =
    by_test (eqb p q) (λ t. t ∙ sym (eq-eqb (interleave q) (interleave p) (ap interleave (sym (eqb-true p q t)))))
    (λ t. t ∙ sym (ne_eqb (interleave q) (interleave p) (λ u. clash (sym t ∙ eq-eqb p q (sym (back p hp) ∙ ap way_back (sym u) ∙ back q hq)))))
same_sector Thirteen p q hp hq =
    by_test (eqb p q) (λ t. t ∙ sym (eq-eqb q p (sym (eqb-true p q t))))
    (λ t. t ∙ sym (ne_eqb q p (λ u. clash (sym t ∙ eq-eqb p q (sym u)))))
