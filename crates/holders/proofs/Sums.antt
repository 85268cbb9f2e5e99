-- How many of the counts are a number, and how many held sectors the map calls free. Assumes nothing.
use mathlib.Core.Path.{◌≡◌, refl, sym, ap, ◌∙◌}
use mathlib.Core.Bool.{Bool, true, false, cond, ◌&&◌}
use mathlib.Core.List.{List}
use Prim.Native.Nat.{ℕ, ◌+◌, ◌*◌, ◌-◌, ◌/◌, ◌%◌, ◌^◌, ◌<◌, ◌≤◌}
use native.Mathlib.Nat.{div-eq_of_lt, pow-le-pow_right}
use native.Mathlib.Numerals.{add-one}
use native.Mathlib.Omega.{arith}
use lib.ListN.{length, get_or, take, drop}
use lib.Seq.{get_or-take, get_or-drop}
use lib.Dec.{eqb, ltb}
use borrow.Author.Rules.{rules}
use borrow.Author.Tests.{eqb-true, le-ltb}
use Rattle.lists.specs.Select.{passing}
use Rattle.lists.proofs.Passing.{passing_suc, passing_same, passing_none, passing_add, passing_zero, all_passing}
use Rattle.lists.proofs.Split.{clash}
use Rattle.disk.specs.declared.Place.{Place}
use Rattle.disk.specs.Disk.{place, start}
use Rattle.disk.specs.Vtoc.{map_word}
use Rattle.disk.proofs.Numbers.{bytes_times}
use Rattle.disk.proofs.Places.{at_place}
use Rattle.holders.specs.Holders.{bit, free}
use Rattle.holders.specs.Tally.{is_held, is_free, is_free_in, Idle}

-- ---- a run of tests: m of the first k of them pass
module _ (test : ℕ → Bool) (total : ℕ) where
  pub record Counted (k m : ℕ) : Type 0 where
    pub count : k ≤ total
    pub small : m ≤ k
    pub is : m ≡ passing test k

  pub counted_none : Counted 0 0
  counted_none = record { count = omega arith; small = omega arith; is = sym (passing_none test) }

  turn : (k m r : ℕ) → Counted k m → k < total → r ≡ cond (test k) 1 0 → r ≤ 1 → Counted (k + 1) (m + r)
  turn k m r i h e s =
      record {
        count = omega arith;
        small = omega (arith, i.small);
        is = ap (λ (x : ℕ). x + r) i.is ∙ ap (λ (x : ℕ). passing test k + x) e ∙ sym (passing_suc test k) ∙ ap (passing test) (sym (add-one k));
      }

  pub counted_done : (k m : ℕ) → Counted k m → total ≤ k → m ≡ passing test total
  counted_done k m i h = let e : k ≡ total = omega (arith, i.count) in i.is ∙ ap (passing test) e

  pub counted_few : (k m : ℕ) → Counted k m → m ≤ total
  counted_few k m i = omega (arith, i.small, i.count)

  pub counted_fits : (k m r : ℕ) → Counted k m → r ≤ 1 → total ≤ 560 → m + r < 2 ^ 16
  counted_fits k m r i s t = omega (arith, i.small, i.count)

-- ---- counts that are a number
pub held_more : (c : List ℕ) (v total k m r : ℕ) → Counted (is_held c v) total k m → k < total → r ≡ cond (eqb (get_or c k 0) v) 1 0 → r ≤ 1
    → Counted (is_held c v) total (k + 1) (m + r)
unfolding is_held
held_more c v total k m r i h q s = turn (is_held c v) total k m r i h q s

pub held_in : (total k : ℕ) (c : List ℕ) → total ≤ length c → k < total → k < length c
held_in total k c l h = omega arith

pub ruleset counts = (counted_none, counted_done, counted_fits, held_more, held_in, rules)

-- ---- a sector in the map
-- a number of 16 bits has no bit from 16 on
pub bit_none : (w k : ℕ) → w < 65536 → 16 ≤ k → ltb k 16 ≡ eqb (bit k w) 1
unfolding bit
bit_none w k h l =
    let p : 2 ^ 16 ≤ 2 ^ k = pow-le-pow_right {n = 2} (omega arith) l in
    let z : w / 2 ^ k ≡ 0 = div-eq_of_lt (omega arith) in
    rw (z, le-ltb k 16 l) refl

pub bit_is : (w k : ℕ) → eqb (w / 2 ^ k % 2) 1 ≡ eqb (bit k w) 1
unfolding bit
bit_is w k = refl

pub is_free_lem : (n : ℕ) (d : List ℕ) (p : Place) (w low : ℕ) (b : Bool) → w ≡ map_word n d p.track.0 → low ≡ 16 - n → b ≡ eqb (bit (p.sector.0 + low) w) 1 → b ≡ free n d p
unfolding free
is_free_lem n d p w low b e l q = q ∙ rw (e, l) refl

pub ruleset maps = (bit_none, bit_is, is_free_lem, rules)

-- ---- a track of which no sector is held
pub idle_short : (n : ℕ) (c : List ℕ) (from : ℕ) → Idle n c from false
idle_short n c from = record { none = λ e. absurd (clash e) }

pub idle_is : (n : ℕ) (c : List ℕ) (from : ℕ) (x : List ℕ) (k : ℕ) → k ≡ passing (is_held x 0) n → x ≡ take n (drop from c) → Idle n c from (eqb k n)
unfolding is_held
idle_is n c from x k e q =
    record {
      none = λ h s l.
          let z : passing (is_held x 0) n ≡ n = sym e ∙ eqb-true k n h in
          let a : get_or x s 0 ≡ 0 = eqb-true _ _ (all_passing (is_held x 0) n z s l) in
          sym (ap (λ (y : List ℕ). get_or y s 0) q ∙ get_or-take n (drop from c) s 0 l ∙ get_or-drop from c s 0) ∙ a;
    }

pub ruleset idles = (idle_short, idle_is, rules)

-- ---- those of a track
module _ (n : ℕ) (d c : List ℕ) where
  pub track_idle : (t a : ℕ) (b : Bool) → Idle n c (a / 256) b → b ≡ true → a ≡ start n (place t 0) → 0 ≡ passing (is_free_in n d c t) n
  unfolding is_free_in
  track_idle t a b i h o =
      let e : a / 256 ≡ n * t = omega (arith, o) in
      sym
      (passing_zero (is_free_in n d c t) n
      (λ s l. let z : get_or c (n * t + s) 0 ≡ 0 = ap (λ (y : ℕ). get_or c (y + s) 0) (sym e) ∙ i.none h s l in rw z refl))

  -- m are met of the first s of track t, whose map is w, and whose sector 0 is number `from`
  pub record InTrack (t w low from s m : ℕ) : Type 0 where
    pub map : w ≡ map_word n d t
    pub bits : low ≡ 16 - n
    pub number : from ≡ n * t
    pub counted : Counted (is_free_in n d c t) n s m

  pub track_none : (t w low a : ℕ) → w ≡ map_word n d t → low ≡ 16 - n → a ≡ start n (place t 0) → InTrack t w low (a / 256) 0 0
  track_none t w low a e l o = record { map = e; bits = l; number = omega (arith, o); counted = counted_none (is_free_in n d c t) n }

  module _ (t w low from s m : ℕ) (i : InTrack t w low from s m) where
    pub track_more : (r : ℕ) (b : Bool) (x : ℕ) → r ≡ cond b 1 0 → b ≡ (ltb 0 x && eqb (bit (s + low) w) 1) → x ≡ get_or c (from + s) 0 → s < n → r ≤ 1
        → InTrack t w low from (s + 1) (m + r)
    unfolding is_free_in free
    track_more r b x v q z h u =
        record {
          map = i.map;
          bits = i.bits;
          number = i.number;
          counted = turn (is_free_in n d c t) n s m r i.counted h (v ∙ rw (q, z, i.map, i.bits, i.number) refl) u;
        }

    pub track_done : n ≤ s → m ≡ passing (is_free_in n d c t) n
    track_done h = counted_done (is_free_in n d c t) n s m i.counted h

    few : m ≤ n
    few = counted_few (is_free_in n d c t) n s m i.counted

    pub track_few : n < 256 → m ≤ 255
    track_few l = omega (arith, few)

    pub track_fits : (r : ℕ) → r ≤ 1 → n < 256 → m + r < 2 ^ 16
    track_fits r h l = omega (arith, few)

    pub number_fits : n < 256 → t < 256 → s < 256 → from + s < 2 ^ 64
    number_fits h l k = omega (arith, i.number, bytes_times n t h l)

  -- ---- those of the disk: m are met on the first t tracks
  pub record Tracks (t m : ℕ) : Type 0 where
    pub count : t ≤ 35
    pub small : m ≤ 255 * t
    pub is : m ≡ passing (is_free n d c) (n * t)

  pub tracks_none : Tracks 0 0
  tracks_none =
      let e : n * 0 ≡ 0 = omega arith in
      record { count = omega arith; small = omega arith; is = sym (ap (passing (is_free n d c)) e ∙ passing_none (is_free n d c)) }

  by_track : (t s : ℕ) → s < n → is_free n d c (n * t + s) ≡ is_free_in n d c t s
  unfolding is_free is_free_in
  by_track t s l = ap (λ (p : Place). ltb 0 (get_or c (n * t + s) 0) && free n d p) (at_place n t s l)

  pub tracks_more : (t m r : ℕ) → Tracks t m → t < 35 → r ≡ passing (is_free_in n d c t) n → r ≤ 255 → Tracks (t + 1) (m + r)
  tracks_more t m r i h e s =
      let a : passing (is_free n d c) (n * t + n) ≡ passing (is_free n d c) (n * t) + passing (λ s. is_free n d c (n * t + s)) n = passing_add (is_free n d c) (n * t) n in
      let b : passing (λ s. is_free n d c (n * t + s)) n ≡ passing (is_free_in n d c t) n = passing_same _ _ n (by_track t) in
      let x : m ≡ passing (is_free n d c) (n * t) = i.is in
      let y : m + r ≡ passing (is_free n d c) (n * t + n) = omega arith in
      let z : n * t + n ≡ n * (t + 1) = omega arith in
      record { count = omega arith; small = omega (arith, i.small); is = y ∙ ap (passing (is_free n d c)) z }

  pub tracks_done : (t m : ℕ) → Tracks t m → 35 ≤ t → m ≡ passing (is_free n d c) (35 * n)
  tracks_done t m i h =
      let e : t ≡ 35 = omega (arith, i.count) in
      let z : n * t ≡ 35 * n = rw e (omega arith) in
      i.is ∙ ap (passing (is_free n d c)) z

  pub tracks_fits : (t m r : ℕ) → Tracks t m → t < 35 → r ≤ 255 → m + r < 2 ^ 16
  tracks_fits t m r i h s = omega (arith, i.small, i.count)

pub ruleset tracks = (track_idle, track_none, track_more, track_done, track_few, track_fits, number_fits, tracks_none, tracks_more, tracks_done, tracks_fits, rules)
