-- The search in a copy of the VTOC, sector by sector, track by track and leg by leg. Assumes nothing.
use mathlib.Core.Path.{◌≡◌, refl, sym, ap, ◌∙◌}
use mathlib.Core.Bool.{Bool, true, false, cond, not, ◌&&◌}
use mathlib.Core.List.{List, [], ◌∷◌, ◌++◌, map, flat_map}
use mathlib.Core.Option.{Option, none, some}
use Rattle.std.specs.Prelude as rust
use Rattle.std.specs.Prelude.{Some, None, is_some, unwrap_or}
use Prim.Native.Nat.{ℕ, zero, suc, ◌+◌, ◌-◌, ◌/◌, ◌%◌, ◌^◌, ◌<◌, ◌≤◌}
use native.Mathlib.Omega.{arith}
use lib.ListN.{get_or}
use lib.Dec.{eqb, leb}
use borrow.Author.Rules.{rules}
use borrow.Author.Tests.{le-leb, lt-leb, eqb-true, eqb-false, not-true, not-false}
use Rattle.lists.specs.Fill.{tab, below}
use Rattle.lists.proofs.Split.{by_test, clash, and_false}
use Rattle.lists.proofs.Laws.{tab_ext}
use Rattle.lists.proofs.Chunks.{flat_map_append}
use Rattle.disk.specs.Disk.{place}
use Rattle.holders.specs.Holders.{bit}
use Rattle.amend.specs.Lines.{first_of}
use Rattle.amend.specs.Search.{Spot, up_from, down_from, to_edge, opposite, route, direction_of, track_of, spots_of}
use Rattle.amend.proofs.Lines.{map_is_tab}
use Rattle.allot.specs.declared.Found.{Found}
use Rattle.allot.specs.Table.{map_in, open_in, takable_in, seek_in}
use Rattle.allot.specs.Steps.{top_of, leg_in, found_at, as_found, Topped, Legged, Sought}
use Rattle.allot.proofs.Working.{or_else, first_append}

-- ---- a sector, and where a search begins
pub take_bit : (w s : ℕ) (later : Bool) → (eqb (w / 2 ^ s % 2) 1 && not (later && eqb s 0)) ≡ (eqb (bit s w) 1 && not (later && eqb s 0))
unfolding bit
take_bit w s later = refl

pub open_is : (T : List ℕ) (t b : ℕ) → b ≡ get_or T 1 0 → (not (eqb t 0) && (not (eqb t 17) && not (eqb t b))) ≡ open_in T t
unfolding open_in
open_is T t b e = rw e refl

pub last_on : (b : ℕ) → b ≤ 34 → b ≡ cond (leb b 34) b 17
last_on b h = rw (le-leb b 34 h) refl

pub last_off : (b : ℕ) → 34 < b → 17 ≡ cond (leb b 34) b 17
last_off b h = rw (lt-leb b 34 h) refl

pub ruleset tests = (take_bit, open_is, last_on, last_off, rules)

-- ---- a track: its sectors from k - 1 down are left
one_less : (k : ℕ) → suc k - 1 ≡ k
one_less k = omega arith

pub record Topping (T : List ℕ) (later : Bool) (t w k : ℕ) : Type 0 where
  pub count : k ≤ 16
  pub word : w ≡ map_in T t
  pub opened : open_in T t ≡ true
  pub rest : top_of T later t k ≡ top_of T later t 16

shut_none : (T : List ℕ) (later : Bool) (t k : ℕ) → open_in T t ≡ false → top_of T later t k ≡ None
unfolding top_of takable_in
shut_none T later t zero e = refl
shut_none T later t (suc k) e = rw (e, and_false (eqb (bit k (map_in T t)) 1)) (shut_none T later t k e)

pub top_shut : (T : List ℕ) (later : Bool) (t : ℕ) (b : Bool) → b ≡ open_in T t → b ≡ false → Topped T later t None
top_shut T later t b e z = record { is = sym (shut_none T later t 16 (sym e ∙ z)) }

pub top_start : (T : List ℕ) (later : Bool) (t w : ℕ) (b : Bool) → b ≡ open_in T t → b ≡ true → w ≡ map_in T t → Topping T later t w 16
top_start T later t w b e z q = record { count = omega arith; word = q; opened = sym e ∙ z; rest = refl }

-- the test of sector k is the code's
test_is : (T : List ℕ) (later : Bool) (t w k s : ℕ) → Topping T later t w k → takable_in T later (place t s) ≡ (eqb (bit s w) 1 && not (later && eqb s 0))
unfolding takable_in
test_is T later t w k s i = rw (i.opened, i.word) refl

pub top_hit : (T : List ℕ) (later : Bool) (t w k : ℕ) (c : Bool) → Topping T later t w k → 0 < k → c ≡ (eqb (bit (k - 1) w) 1 && not (later && eqb (k - 1) 0)) → c ≡ true
    → Topped T later t (Some (k - 1))
unfolding top_of
top_hit T later t w zero c i h e z = absurd (omega arith)
top_hit T later t w (suc k) c i h e z =
    let q : takable_in T later (place t k) ≡ true = test_is T later t w (suc k) k i ∙ sym (rw (one_less k) at e) ∙ z in
    record { is = ap Some (one_less k) ∙ (rw q refl) ∙ i.rest }

pub top_miss : (T : List ℕ) (later : Bool) (t w k : ℕ) (c : Bool) → Topping T later t w k → 0 < k → c ≡ (eqb (bit (k - 1) w) 1 && not (later && eqb (k - 1) 0)) → c ≡ false
    → Topping T later t w (k - 1)
unfolding top_of
top_miss T later t w zero c i h e z = absurd (omega arith)
top_miss T later t w (suc k) c i h e z =
    let q : takable_in T later (place t k) ≡ false = test_is T later t w (suc k) k i ∙ sym (rw (one_less k) at e) ∙ z in
    let r : top_of T later t k ≡ top_of T later t 16 = (rw q refl) ∙ i.rest in
    rw (one_less k) (record { count = omega (arith, i.count); word = i.word; opened = i.opened; rest = r })

pub top_none : (T : List ℕ) (later : Bool) (t w k : ℕ) → Topping T later t w k → k ≤ 0 → Topped T later t None
unfolding top_of
top_none T later t w k i h = let z : k ≡ 0 = omega arith in record { is = rw z at i.rest }

pub top_sector : (T : List ℕ) (later : Bool) (t w k : ℕ) → Topping T later t w k → 0 < k → k - 1 < 16
top_sector T later t w k i h = omega (arith, i.count)

pub ruleset tops = (top_shut, top_start, top_hit, top_miss, top_none, top_sector, not-true, not-false, rules)

-- ---- a leg, a track and then the others
module _ (T : List ℕ) (later : Bool) where
  abbrev test : Spot → Bool
  test q = takable_in T later q.place

  -- what a track has
  unfoldable track_in : (dir t : ℕ) → Option Spot
  track_in dir t = first_of test (spots_of 16 (record { track = t; direction = dir }))

  abbrev spot_at : (dir t : ℕ) → rust.Option ℕ → Option Spot
  spot_at dir t None = none
  spot_at dir t (Some s) = some (record { place = place t s; direction = dir })

  top_first : (dir t k : ℕ) → first_of test (map (λ s. record { place = place t s; direction = dir }) (down_from k)) ≡ spot_at dir t (top_of T later t (suc k))
  unfolding first_of down_from top_of
  top_first dir t zero = by_test (takable_in T later (place t 0)) (λ e. rw e refl) (λ e. rw e refl)
  top_first dir t (suc k) = by_test (takable_in T later (place t (suc k))) (λ e. rw e refl) (λ e. rw e (top_first dir t k))

  track_top : (dir t : ℕ) (k : rust.Option ℕ) → Topped T later t k → track_in dir t ≡ spot_at dir t k
  unfolding track_in spots_of
  track_top dir t k h = top_first dir t 15 ∙ ap (spot_at dir t) (sym h.is)

  track_found : (dir t : ℕ) (k : rust.Option ℕ) (s : ℕ) (o : Option Spot) → Topped T later t k → k ≡ Some s → as_found (or_else (track_in dir t) o) ≡ Some (found_at t s dir)
  track_found dir t k s o h n = rw (track_top dir t k h, n) refl

  track_none : (dir t : ℕ) (k : rust.Option ℕ) (o : Option Spot) → Topped T later t k → k ≡ None → or_else (track_in dir t) o ≡ o
  track_none dir t k o h e = rw (track_top dir t k h, e) refl

  -- the tracks above
  up_next : (t : ℕ) → t < 35 → up_from t ≡ t ∷ up_from (t + 1)
  unfolding up_from tab
  up_next t h =
      let e : 35 - t ≡ suc (35 - (t + 1)) = omega arith in
      let z : t + 0 ≡ t = omega arith in
      rw e
      (ap (λ (l : List ℕ). (t + 0) ∷ l)
      (map_is_tab (λ k. t + k) (λ k. suc k) (35 - (t + 1)) ∙ tab_ext (λ k. t + suc k) (λ k. t + 1 + k) (35 - (t + 1)) (λ k l. omega arith)
      ∙ sym (map_is_tab (λ k. t + 1 + k) (λ k. k) (35 - (t + 1))))
      ∙ ap (λ (x : ℕ). x ∷ map (λ k. t + 1 + k) (below (35 - (t + 1)))) z)

  up_end : (t : ℕ) → 35 ≤ t → up_from t ≡ []
  unfolding up_from tab
  up_end t h = let e : 35 - t ≡ 0 = omega arith in rw e refl

  leg_next : (t : ℕ) → t < 35 → leg_in T later 1 t ≡ or_else (track_in 1 t) (leg_in T later 1 (t + 1))
  unfolding leg_in track_in to_edge flat_map
  leg_next t h = rw (up_next t h) (first_append test (spots_of 16 (record { track = t; direction = 1 })) _)

  leg_end : (t : ℕ) → 35 ≤ t → leg_in T later 1 t ≡ none
  unfolding leg_in to_edge flat_map first_of
  leg_end t h = rw (up_end t h) refl

  -- the tracks below
  leg_down : (t : ℕ) → (t ≡ 0 → ⊥) → leg_in T later 255 t ≡ or_else (track_in 255 t) (leg_in T later 255 (t - 1))
  unfolding leg_in track_in to_edge down_from flat_map
  leg_down zero h = absurd (h refl)
  leg_down (suc t) h = rw (one_less t) (first_append test (spots_of 16 (record { track = suc t; direction = 255 })) _)

  leg_bottom : leg_in T later 255 0 ≡ or_else (track_in 255 0) none
  unfolding leg_in track_in to_edge down_from flat_map first_of
  leg_bottom = first_append test (spots_of 16 (record { track = 0; direction = 255 })) []

-- what is left of a leg decides it
pub record Left (T : List ℕ) (later : Bool) (dir first t : ℕ) : Type 0 where
  pub rest : leg_in T later dir t ≡ leg_in T later dir first

pub left_start : (T : List ℕ) (later : Bool) (dir first : ℕ) → Left T later dir first first
left_start T later dir first = record { rest = refl }

module _ (T : List ℕ) (later : Bool) (first t : ℕ) where
  pub up_hit : (k : rust.Option ℕ) (s : ℕ) (r : Found) → Left T later 1 first t → t < 35 → Topped T later t k → k ≡ Some s → r ≡ found_at t s 1 → Legged T later 1 first (Some r)
  up_hit k s r i h p n e = record { is = ap Some e ∙ sym (track_found T later 1 t k s _ p n) ∙ ap as_found (sym (leg_next T later t h) ∙ i.rest) }

  pub up_miss : (k : rust.Option ℕ) → Left T later 1 first t → t < 35 → Topped T later t k → k ≡ None → Left T later 1 first (t + 1)
  up_miss k i h p e = record { rest = sym (track_none T later 1 t k _ p e) ∙ sym (leg_next T later t h) ∙ i.rest }

  pub up_none : Left T later 1 first t → 35 ≤ t → Legged T later 1 first None
  up_none i h = record { is = ap as_found (sym (leg_end T later t h) ∙ i.rest) }

  down_split : (o : Option Spot) → o ≡ leg_in T later 255 t → (rest : Option Spot) × (o ≡ or_else (track_in T later 255 t) rest)
  down_split o e =
      by_test (eqb t 0) (λ z. (none, e ∙ bottom t (eqb-true t 0 z)))
      (λ z. (leg_in T later 255 (t - 1), e ∙ leg_down T later t (eqb-false t 0 z)))
    where
      bottom : (u : ℕ) → u ≡ 0 → leg_in T later 255 u ≡ or_else (track_in T later 255 u) none
      bottom u z = rw z (leg_bottom T later)

  pub down_hit : (k : rust.Option ℕ) (s : ℕ) (r : Found) → Left T later 255 first t → Topped T later t k → k ≡ Some s → r ≡ found_at t s 255 → Legged T later 255 first (Some r)
  down_hit k s r i p n e =
      let v = down_split (leg_in T later 255 t) refl in
      record { is = ap Some e ∙ sym (track_found T later 255 t k s v.0 p n) ∙ ap as_found (sym v.1 ∙ i.rest) }

  pub down_miss : (k : rust.Option ℕ) → Left T later 255 first t → Topped T later t k → k ≡ None → (t ≡ 0 → ⊥) → Left T later 255 first (t - 1)
  down_miss k i p e h = record { rest = sym (track_none T later 255 t k _ p e) ∙ sym (leg_down T later t h) ∙ i.rest }

  pub down_none : (k : rust.Option ℕ) → Left T later 255 first t → Topped T later t k → k ≡ None → t ≡ 0 → Legged T later 255 first None
  down_none k i p e z =
      let b : leg_in T later 255 t ≡ or_else (track_in T later 255 t) none = rw z (leg_bottom T later) in
      record { is = ap as_found (sym (track_none T later 255 t k none p e) ∙ sym b ∙ i.rest) }

pub leg_up : (T : List ℕ) (later up : Bool) (t : ℕ) (r : rust.Option Found) → Legged T later 1 t r → up ≡ true → Legged T later (cond up 1 255) t r
leg_up T later up t r h e = rw e h

pub leg_not : (T : List ℕ) (later up : Bool) (t : ℕ) (r : rust.Option Found) → Legged T later 255 t r → up ≡ false → Legged T later (cond up 1 255) t r
leg_not T later up t r h e = rw e h

pub ruleset legs = (left_start, up_hit, up_miss, up_none, down_hit, down_miss, down_none, leg_up, leg_not, rules)

-- ---- the legs of the route
way_is : (z : Bool) → ◌≡◌ {A = ℕ} (cond z 255 1) (cond (not z) 1 255)
way_is true = refl
way_is false = refl

other_is : (z : Bool) → opposite (cond z 255 1) ≡ cond (not (not z)) 1 255
other_is true = refl
other_is false = refl

module _ (T : List ℕ) (later : Bool) where
  in_legs : (last dir : ℕ) → last ≡ track_of (get_or T 48 0) → dir ≡ direction_of (get_or T 49 0)
      → seek_in T later ≡ or_else (leg_in T later dir last) (or_else (leg_in T later (opposite dir) 17) (leg_in T later dir 17))
  unfolding seek_in route leg_in
  in_legs last dir a b =
      rw (← a, ← b)
      (ap (first_of (test T later))
      (flat_map_append (spots_of 16) (to_edge dir last) (to_edge (opposite dir) 17 ++ to_edge dir 17)
      ∙ ap (λ (l : List Spot). flat_map (spots_of 16) (to_edge dir last) ++ l) (flat_map_append (spots_of 16) (to_edge (opposite dir) 17) (to_edge dir 17)))
      ∙ first_append (test T later) (flat_map (spots_of 16) (to_edge dir last)) (flat_map (spots_of 16) (to_edge (opposite dir) 17) ++ flat_map (spots_of 16) (to_edge dir 17))
      ∙ ap (or_else (first_of (test T later) (flat_map (spots_of 16) (to_edge dir last))))
      (first_append (test T later) (flat_map (spots_of 16) (to_edge (opposite dir) 17)) (flat_map (spots_of 16) (to_edge dir 17))))

  -- .. as the code has their directions
  legs_are : (last b : ℕ) → last ≡ track_of (get_or T 48 0) → b ≡ get_or T 49 0
      → seek_in T later
      ≡ or_else (leg_in T later (cond (not (eqb b 255)) 1 255) last)
      (or_else (leg_in T later (cond (not (not (eqb b 255))) 1 255) 17) (leg_in T later (cond (not (eqb b 255)) 1 255) 17))
  legs_are last b a e =
      let p = way_is (eqb b 255) in
      let q = other_is (eqb b 255) in
      in_legs last (direction_of b) a (ap direction_of e)
      ∙ (λ i. or_else (leg_in T later (p i) last) (or_else (leg_in T later (q i) 17) (leg_in T later (p i) 17)))

-- a leg that found something decides; one that found nothing leaves it to the others
found_first : (o o' : Option Spot) (r : rust.Option Found) → r ≡ as_found o → is_some r ≡ true → r ≡ as_found (or_else o o')
found_first none o' r e h = absurd (clash (sym (ap is_some e) ∙ h))
found_first (some q) o' r e h = e

found_next : (o o' : Option Spot) (r : rust.Option Found) → r ≡ as_found o → is_some r ≡ false → or_else o o' ≡ o'
found_next none o' r e h = refl
found_next (some q) o' r e h = absurd (clash (sym h ∙ ap is_some e))

module _ (T : List ℕ) (later : Bool) (a b last : ℕ) where
  abbrev one : Option Spot
  one = leg_in T later (cond (not (eqb b 255)) 1 255) last

  abbrev two : Option Spot
  two = leg_in T later (cond (not (not (eqb b 255))) 1 255) 17

  abbrev three : Option Spot
  three = leg_in T later (cond (not (eqb b 255)) 1 255) 17

  in_three : last ≡ cond (leb a 34) a 17 → a ≡ get_or T 48 0 → b ≡ get_or T 49 0 → or_else one (or_else two three) ≡ seek_in T later
  in_three l x y = sym (legs_are T later last b (l ∙ ap track_of x) y)

  pub seek_first : (r : rust.Option Found) (v : Bool) → Legged T later (cond (not (eqb b 255)) 1 255) last r → v ≡ is_some r → v ≡ true → last ≡ cond (leb a 34) a 17 → a ≡ get_or T 48 0 → b ≡ get_or T 49 0 → Sought T later r
  seek_first r v h d f l x y = record { is = found_first one (or_else two three) r h.is (sym d ∙ f) ∙ ap as_found (in_three l x y) }

  pub seek_second : (r s : rust.Option Found) (v w : Bool) → Legged T later (cond (not (eqb b 255)) 1 255) last r → v ≡ is_some r → v ≡ false
      → Legged T later (cond (not (not (eqb b 255))) 1 255) 17 s → w ≡ is_some s → w ≡ true → last ≡ cond (leb a 34) a 17 → a ≡ get_or T 48 0 → b ≡ get_or T 49 0 → Sought T later s
  seek_second r s v w h d f k c g l x y =
      let e : or_else two three ≡ seek_in T later = sym (found_next one (or_else two three) r h.is (sym d ∙ f)) ∙ in_three l x y in
      record { is = found_first two three s k.is (sym c ∙ g) ∙ ap as_found e }

  pub seek_third : (r s u : rust.Option Found) (v w : Bool) → Legged T later (cond (not (eqb b 255)) 1 255) last r → v ≡ is_some r → v ≡ false
      → Legged T later (cond (not (not (eqb b 255))) 1 255) 17 s → w ≡ is_some s → w ≡ false → Legged T later (cond (not (eqb b 255)) 1 255) 17 u
      → last ≡ cond (leb a 34) a 17 → a ≡ get_or T 48 0 → b ≡ get_or T 49 0 → Sought T later u
  seek_third r s u v w h d f k c g m l x y =
      let e : or_else two three ≡ seek_in T later = sym (found_next one (or_else two three) r h.is (sym d ∙ f)) ∙ in_three l x y in
      let q : three ≡ seek_in T later = sym (found_next two three s k.is (sym c ∙ g)) ∙ e in
      record { is = m.is ∙ ap as_found q }

pub ruleset seeks = (seek_first, seek_second, seek_third, rules)
