-- Clean, as it is used: no place of the disk is held twice, and none that is held is free in the map. Assumes nothing.
use mathlib.Core.Path.{◌≡◌, refl}
use mathlib.Core.Bool.{true, false, ◌&&◌}
use mathlib.Core.Logic.{◌↔◌, ⊎_elim}
use mathlib.Core.List.{List, map}
use Prim.Native.Nat.{ℕ, ◌<◌, ◌≤◌}
use native.Mathlib.Omega.{arith}
use lib.Dec.{eqb, ltb}
use borrow.Author.Tests.{ltb-true, ltb-false, lt-ltb, le-ltb, eqb-true, eq-eqb}
use Rattle.lists.specs.Every.{Every}
use Rattle.lists.specs.Select.{among, Apart, passing}
use Rattle.lists.proofs.Split.{by_test, both_true, clash}
use Rattle.lists.proofs.Among.{among_here, among_there, among_cases}
use Rattle.lists.proofs.Passing.{zero_passing, passing_zero}
use Rattle.disk.specs.declared.Place.{Place}
use Rattle.disk.specs.Disk.{on_disk, number_of, place_of, sectors}
use Rattle.disk.proofs.Places.{number_small, same_place, place_number, number_place, on_place}
use Rattle.holders.specs.Holders.{held, shared, free, held_free, clean}
use Rattle.holders.proofs.Counting.{held_among, among_held, apart_held, held_apart}

-- ---- the places that hold
abbrev pub On : ℕ → List Place → Type 0
On n = Every (λ (p : Place). on_disk n p ≡ true)

-- a number among theirs is a sector's
pub on_among : (n k : ℕ) {l : List Place} → On n l → among k (map (number_of n) l) ≡ true → k < sectors n
unfolding among
on_among n k Every.none m = absurd (clash m)
on_among n k (Every.more {x = p} {xs = l} on e) m =
    ⊎_elim (λ q. rw q (number_small n p on)) (on_among n k e) (among_cases k (number_of n p) (map (number_of n) l) m)

-- what holds of each place among them
pub each_on : (n : ℕ) {P : Place → Type 0} {l : List Place} → On n l → ((p : Place) → on_disk n p ≡ true → among (number_of n p) (map (number_of n) l) ≡ true → P p)
    → Every P l
each_on n Every.none h = Every.none
each_on n (Every.more {x = p} {xs = l} on e) h =
    Every.more (h p on (among_here _ _)) (each_on n e (λ q o m. h q o (among_there _ _ _ m)))

pub on_each : (n : ℕ) {P : Place → Type 0} {l : List Place} → On n l → Every P l → (p : Place) → on_disk n p ≡ true → among (number_of n p) (map (number_of n) l) ≡ true → P p
unfolding among
on_each n Every.none Every.none p o m = absurd (clash m)
on_each n {P} (Every.more {x = q} {xs = l} on e) (Every.more f h) p o m =
    ⊎_elim (λ z. rw (same_place n p q o on z) f) (on_each n e h p o) (among_cases (number_of n p) (number_of n q) (map (number_of n) l) m)

-- ---- clean
module _ (n : ℕ) (d : List ℕ) (hs : List Place) where
  -- a place of the disk is held at most once, and not where the map calls it free
  pub record Clear : Type 0 where
    pub once : (p : Place) → on_disk n p ≡ true → held n hs (number_of n p) ≤ 1
    pub used : (p : Place) → on_disk n p ≡ true → 0 < held n hs (number_of n p) → free n d p ≡ false

  pub clean_clear : clean n d hs ≡ true → Clear
  unfolding clean shared held_free
  clean_clear e =
      let b = both_true (eqb (shared n hs) 0) (eqb (held_free n d hs) 0) e in
      record {
        once = λ p on.
            let t = zero_passing (λ k. ltb 1 (held n hs k)) (sectors n) (eqb-true _ _ b.0) (number_of n p) (number_small n p on) in
            let z = ltb-false 1 (held n hs (number_of n p)) t in
            omega arith;
        used = λ p on h.
            let t = zero_passing (λ k. ltb 0 (held n hs k) && free n d (place_of n k)) (sectors n) (eqb-true _ _ b.1) (number_of n p) (number_small n p on) in
            rw (lt-ltb 0 _ h, place_number n p on) at t;
      }

  pub clear_clean : Clear → clean n d hs ≡ true
  unfolding clean shared held_free
  clear_clean c =
      let a : passing (λ k. ltb 1 (held n hs k)) (sectors n) ≡ 0 =
      passing_zero (λ k. ltb 1 (held n hs k)) (sectors n)
      (λ k h. le-ltb 1 (held n hs k) (rw (number_place n k) at (c.once (place_of n k) (on_place n k h)))) in
      let b : passing (λ k. ltb 0 (held n hs k) && free n d (place_of n k)) (sectors n) ≡ 0 =
      passing_zero (λ k. ltb 0 (held n hs k) && free n d (place_of n k)) (sectors n)
      (λ k h.
      by_test (ltb 0 (held n hs k))
      (λ q. rw q (c.used (place_of n k) (on_place n k h) (rw (number_place n k) (ltb-true 0 (held n hs k) q))))
      (λ q. rw q refl)) in
      rw (eq-eqb _ _ a, eq-eqb _ _ b) refl

  -- clean, exactly where the holders are different from each other and none is free in the map
  pub clean_is_lem : On n hs → (clean n d hs ≡ true) ↔ (Apart (map (number_of n) hs) × Every (λ (p : Place). free n d p ≡ false) hs)
  clean_is_lem on = (
    λ e.
        let c = clean_clear e in (
          held_apart n hs (λ k m. let l = on_among n k on m in rw (number_place n k) at (c.once (place_of n k) (on_place n k l))),
          each_on n on (λ p h m. c.used p h (held_among n (number_of n p) hs m)),
        ),
    λ t.
        clear_clean
        (record {
          once = λ p h. apart_held n hs t.0 (number_of n p);
          used = λ p h l. on_each n on t.1 p h (among_held n (number_of n p) hs l);
        }),
  )
