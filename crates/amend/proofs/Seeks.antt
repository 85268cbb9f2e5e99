-- What a search finds: a sector of the disk, free in the map, on an open track. Assumes nothing.
use mathlib.Core.Path.{◌≡◌, refl, sym, ◌∙◌}
use mathlib.Core.Bool.{Bool, true, false, not, ◌&&◌, cond}
use mathlib.Core.List.{List, [], ◌∷◌}
use mathlib.Core.Option.{Option, none, some}
use Prim.Native.Nat.{ℕ, zero, suc, ◌+◌, ◌-◌, ◌<◌, ◌≤◌}
use native.Mathlib.Omega.{arith}
use lib.Dec.{eqb, leb}
use borrow.Author.Tests.{leb-true, eqb-true, eqb-false, not-true}
use Rattle.lists.specs.Every.{Every}
use Rattle.lists.specs.Fill.{below}
use Rattle.lists.proofs.Split.{by_test, by_lt, both_true}
use Rattle.lists.proofs.Chunks.{every_append, every_tab, split_every}
use Rattle.lists.proofs.Every.{every_below, every_imp, every_map, map_every, every_flat_map, flat_map_every}
use Rattle.std.specs.Prelude.{Ok, Err}
use Rattle.outcome.specs.declared.Refusal.{Refusal}
use Rattle.outcome.specs.declared.Refusal.TheVariants.{NoSpace}
use Rattle.outcome.proofs.Outcome.{refused_given}
use Rattle.disk.specs.declared.Place.{Place}
use Rattle.disk.specs.Disk.{place, byte_of, on_disk}
use Rattle.disk.specs.Vtoc.{vtoc}
use Rattle.disk.proofs.Places.{on_track, on_sector, is_on}
use Rattle.holders.specs.Holders.{free}
use Rattle.amend.specs.Lines.{first_of, found, last_of}
use Rattle.amend.specs.Search.{Visit, Spot, up_from, down_from, to_edge, opposite, route, direction_of, track_of, spots_of, spots, open_track, takable, seek}

-- ---- the first of a list
module _ {A : Type 0} (test : A → Bool) where
  -- it passes, and has what all have
  pub first_found : {P : A → Type 0} {xs : List A} (x : A) → Every P xs → first_of test xs ≡ some x → (test x ≡ true) × P x
  unfolding first_of
  first_found {P} x Every.none e = absurd (let z : ◌≡◌ {A = ℕ} 0 1 = cc in omega arith)
  first_found {P} x (Every.more {x = y} p ps) e =
      by_test (test y) (λ q. let z : y ≡ x = let w : some y ≡ some x = rw q at e in cc in (rw z at q, rw z at p))
      (λ q. first_found x ps (rw q at e))

  -- none passes
  pub none_first : (xs : List A) → first_of test xs ≡ none → Every (λ (x : A). test x ≡ false) xs
  unfolding first_of
  none_first [] e = Every.none
  none_first (y ∷ xs) e =
      by_test (test y) (λ q. absurd (let w : some y ≡ none = rw q at e in let z : ◌≡◌ {A = ℕ} 0 1 = cc in omega arith))
      (λ q. Every.more q (none_first xs (rw q at e)))

-- two tests that agree on a list find the same
pub first_same : {A : Type 0} (f g : A → Bool) {xs : List A} → Every (λ (x : A). f x ≡ g x) xs → first_of f xs ≡ first_of g xs
unfolding first_of
first_same f g Every.none = refl
first_same f g (Every.more e es) = rw (e, first_same f g es) refl

-- .. and the same last
abbrev last_step : {A : Type 0} → Bool → A → Option A → Option A
last_step b x (some y) = some y
last_step b x none = cond b (some x) none

last_step_lem : {A : Type 0} (f : A → Bool) (x : A) (xs : List A) → last_of f (x ∷ xs) ≡ last_step (f x) x (last_of f xs)
unfolding last_of
last_step_lem f x xs = go (last_of f xs) refl
  where
    go : (o : Option _) → last_of f xs ≡ o → last_of f (x ∷ xs) ≡ last_step (f x) x o
    go none h = rw (h, last_of) refl
    go (some y) h = rw (h, last_of) refl

pub last_same : {A : Type 0} (f g : A → Bool) {xs : List A} → Every (λ (x : A). f x ≡ g x) xs → last_of f xs ≡ last_of g xs
unfolding last_of
last_same f g Every.none = refl
last_same f g (Every.more {x} {xs} q h) =
    let i = last_same f g h in
    last_step_lem f x xs ∙ (λ j. last_step (q j) x (i j)) ∙ sym (last_step_lem g x xs)

-- nothing was found
pub found_none : {A : Type 0} (o : Option A) (r q : Refusal) → found o r ≡ Err q → o ≡ none
found_none none r q e = refl
found_none (some x) r q e = absurd (refused_given (sym e))

-- what was found
pub found_given : {A : Type 0} (o : Option A) (r : Refusal) (x : A) → found o r ≡ Ok x → o ≡ some x
found_given none r x e = absurd (refused_given e)
found_given (some y) r x e = cc

-- ---- the tracks of a route
-- a track of the disk, and a direction
abbrev Tracked : Visit → Type 0
Tracked v = (v.track < 35) × (v.direction < 256)

down_small : (m t : ℕ) → t < m → Every (λ (u : ℕ). u < m) (down_from t)
unfolding down_from
down_small m zero h = Every.more h Every.none
down_small m (suc t) h = Every.more h (down_small m t (omega arith))

up_small : (t : ℕ) → Every (λ (u : ℕ). u < 35) (up_from t)
unfolding up_from
up_small t = every_map (λ k. t + k) (every_tab (λ k. t + k < 35) (λ k. k) (35 - t) (λ k h. omega arith))

edge_tracked : (dir t : ℕ) → dir < 256 → t < 35 → Every Tracked (to_edge dir t)
unfolding to_edge
edge_tracked dir t h l =
    let f : ℕ → Visit = λ u. record { track = u; direction = dir } in
    by_test (eqb dir 1) (λ e. rw e (every_map {P = Tracked} f (every_imp (λ u k. (k, h)) (up_small t))))
    (λ e. rw e (every_map {P = Tracked} f (every_imp (λ u k. (k, h)) (down_small 35 t l))))

route_tracked : (last dir : ℕ) → dir < 256 → last < 35 → Every Tracked (route last dir)
unfolding route
route_tracked last dir h l =
    let o : opposite dir < 256 = by_test (eqb dir 1) (λ e. rw e (omega arith)) (λ e. rw e (omega arith)) in
    every_append (edge_tracked dir last h l) (every_append (edge_tracked (opposite dir) 17 o (omega arith)) (edge_tracked dir 17 h (omega arith)))

-- ---- the sectors
module _ (n : ℕ) (d : List ℕ) (some' : 0 < n) where
  abbrev Spotted : Spot → Type 0
  Spotted q = (on_disk n q.place ≡ true) × (q.direction < 256)

  pub spots_spotted : Every Spotted (spots n d)
  unfolding spots spots_of
  spots_spotted =
      let b : ℕ = byte_of n d vtoc 48 in
      let c : ℕ = byte_of n d vtoc 49 in
      let t : track_of b < 35 = by_test (leb b 34) (λ e. let z = leb-true b 34 e in rw e (omega arith)) (λ e. rw e (omega arith)) in
      let k : direction_of c < 256 = by_test (eqb c 255) (λ e. rw e (omega arith)) (λ e. rw e (omega arith)) in
      every_flat_map (spots_of n)
      (every_imp
      (λ v w.
      every_map {P = Spotted} (λ (s : ℕ). record { place = place v.track s; direction = v.direction })
      (every_imp (λ s l. (is_on n v.track s w.0 l, w.1)) (down_small n (n - 1) (omega arith))))
      (route_tracked (track_of b) (direction_of c) k t))

  -- what a search finds
  pub record Sought (later : Bool) (q : Spot) : Type 0 where
    pub on : on_disk n q.place ≡ true
    pub dir : q.direction < 256
    pub was : free n d q.place ≡ true
    pub track0 : q.place.track.0 ≡ 0 → ⊥
    pub track17 : q.place.track.0 ≡ 17 → ⊥
    pub sector0 : later ≡ true → q.place.sector.0 ≡ 0 → ⊥

  later_passes : (later t : Bool) → not (later && t) ≡ true → later ≡ true → t ≡ false
  later_passes later t e h = not-true t (rw h at e)

  pub seek_takable : (later : Bool) (q : Spot) → seek n d later ≡ Ok q → (on_disk n q.place ≡ true) × (takable n d later q.place ≡ true)
  unfolding seek
  seek_takable later q e =
      let f = first_found (λ (s : Spot). takable n d later s.place) q spots_spotted (found_given _ NoSpace q e) in
      (f.1.0, f.0)

  pub seek_given : (later : Bool) (q : Spot) → seek n d later ≡ Ok q → Sought later q
  unfolding seek takable open_track
  seek_given later q e =
      let f = first_found (λ (s : Spot). takable n d later s.place) q spots_spotted (found_given _ NoSpace q e) in
      let a = both_true (free n d q.place) _ f.0 in
      let b = both_true (open_track n d q.place.track.0) _ a.1 in
      let c = both_true (not (eqb q.place.track.0 0)) _ b.0 in
      let g = both_true (not (eqb q.place.track.0 17)) _ c.1 in
      record {
        on = f.1.0;
        dir = f.1.1;
        was = a.0;
        track0 = eqb-false _ _ (not-true _ c.0);
        track17 = eqb-false _ _ (not-true _ g.0);
        sector0 = λ h. eqb-false _ _ (later_passes later _ b.1 h);
      }

-- ---- every sector of the disk is looked at
down_has : {P : ℕ → Type 0} (t u : ℕ) → u ≤ t → Every P (down_from t) → P u
unfolding down_from
down_has {P} zero u h (Every.more p e) = let z : 0 ≡ u = omega arith in rw z at p
down_has {P} (suc t) u h (Every.more p e) =
    by_lt u (suc t) (λ l. down_has t u (omega arith) e) (λ l. let z : suc t ≡ u = omega arith in rw z at p)

up_has : {P : ℕ → Type 0} (t u : ℕ) → t ≤ u → u < 35 → Every P (up_from t) → P u
unfolding up_from
up_has {P} t u h l e =
    let z : t + (u - t) ≡ u = omega arith in
    let w : P (t + (u - t)) = every_below (35 - t) (map_every {P = P} (λ k. t + k) (below (35 - t)) e) (u - t) (omega arith) in
    rw z at w

-- what holds of each visit holds of one to each track
module _ {P : Visit → Type 0} where
  edge_up : (t u : ℕ) → t ≤ u → u < 35 → Every P (to_edge 1 t) → (dir : ℕ) × P (record { track = u; direction = dir })
  unfolding to_edge
  edge_up t u h l e = (1, up_has {P = λ v. P (record { track = v; direction = 1 })} t u h l (map_every {P = P} (λ v. record { track = v; direction = 1 }) (up_from t) e))

  edge_down : (dir t u : ℕ) → eqb dir 1 ≡ false → u ≤ t → Every P (to_edge dir t) → (d : ℕ) × P (record { track = u; direction = d })
  unfolding to_edge
  edge_down dir t u q h e = (
    dir,
    down_has {P = λ v. P (record { track = v; direction = dir })} t u h
        (map_every {P = P} (λ v. record { track = v; direction = dir }) (down_from t) (rw q at e)),
  )

  route_has : (last dir u : ℕ) → u < 35 → Every P (route last dir) → (d : ℕ) × P (record { track = u; direction = d })
  unfolding route
  route_has last dir u l e =
      let s = (split_every (to_edge dir last) e).1 in
      let t = split_every (to_edge (opposite dir) 17) s in
      by_test (eqb dir 1)
      (λ q.
      let z : dir ≡ 1 = eqb-true dir 1 q in
      by_lt u 17 (λ h. edge_down 255 17 u refl (omega arith) (rw q at t.0)) (λ h. edge_up 17 u h l (rw z at t.1)))
      (λ q.
      by_lt u 17 (λ h. edge_down dir 17 u q (omega arith) t.1) (λ h. edge_up 17 u h l (rw q at t.0)))

-- a search that finds nothing: there is no sector that can be taken
pub seek_none : (n : ℕ) (d : List ℕ) (later : Bool) (r : Refusal) → seek n d later ≡ Err r → (p : Place) → on_disk n p ≡ true → takable n d later p ≡ false
unfolding seek spots spots_of
seek_none n d later r h p on =
    let none : first_of (λ (q : Spot). takable n d later q.place) (spots n d) ≡ none = found_none _ NoSpace r h in
    let e = none_first (λ (q : Spot). takable n d later q.place) (spots n d) none in
    let v = flat_map_every (spots_of n) (route (track_of (byte_of n d vtoc 48)) (direction_of (byte_of n d vtoc 49))) e in
    let t = route_has {P = λ v. Every (λ (q : Spot). takable n d later q.place ≡ false) (spots_of n v)} (track_of (byte_of n d vtoc 48)) (direction_of (byte_of n d vtoc 49)) p.track.0 (on_track n p on) v in
    let f : ℕ → Spot = λ s. record { place = place p.track.0 s; direction = t.0 } in
    let l = on_sector n p on in
    down_has {P = λ s. takable n d later (place p.track.0 s) ≡ false} (n - 1) p.sector.0 (omega arith)
    (map_every {P = λ (q : Spot). takable n d later q.place ≡ false} f (down_from (n - 1)) t.1)
