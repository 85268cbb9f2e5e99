-- The search on a disk is the search in its VTOC, and what it finds is a sector of the disk. Assumes nothing.
use mathlib.Core.Path.{◌≡◌, refl, ap}
use mathlib.Core.Bool.{Bool, true, false, cond, ◌&&◌}
use mathlib.Core.List.{List, flat_map}
use mathlib.Core.Option.{Option, some}
use Prim.Native.Nat.{ℕ, ◌+◌, ◌*◌, ◌-◌, ◌<◌}
use native.Mathlib.Omega.{arith}
use lib.ListN.{length, get_or}
use lib.Dec.{eqb, ltb, leb}
use borrow.Author.Tests.{leb-true}
use Rattle.lists.specs.Every.{Every}
use Rattle.lists.specs.Fill.{tab, below}
use Rattle.lists.specs.Select.{all}
use Rattle.lists.proofs.Split.{by_test, both_true}
use Rattle.lists.proofs.Select.{all_every}
use Rattle.lists.proofs.Every.{every_below, every_imp, every_flat_map}
use Rattle.outcome.specs.declared.Refusal.TheVariants.{NoSpace}
use Rattle.disk.specs.declared.Place.{Place}
use Rattle.disk.specs.Disk.{on_disk, sectors}
use Rattle.disk.proofs.Places.{on_track}
use Rattle.amend.specs.Lines.{found}
use Rattle.amend.specs.Search.{Visit, Spot, up_from, down_from, to_edge, route, direction_of, track_of, spots_of, spots, open_track, takable, seek}
use Rattle.amend.proofs.Seeks.{first_found, first_same}
use Rattle.allot.specs.Table.{open_in, takable_in, seek_in}
use Rattle.allot.proofs.Working.{with_table, table_byte, table_free}

-- ---- the sectors of a route are on the disk
abbrev near : Visit → Bool
near v = ltb v.track 35

-- of the 35 tracks and two directions from which it can go, all are tried
routes_near : all (λ last. all near (route last 1) && all near (route last 255)) (below 35) ≡ true
unfolding all tab route to_edge up_from down_from
routes_near = refl

route_near : (last : ℕ) (z : Bool) → last < 35 → Every (λ (v : Visit). near v ≡ true) (route last (cond z 255 1))
route_near last z h =
    let e = every_below {P = λ u. (all near (route u 1) && all near (route u 255)) ≡ true} 35 (all_every _ (below 35) routes_near) last h in
    let b = both_true (all near (route last 1)) (all near (route last 255)) e in
    pick z b.0 b.1
  where
    pick : (z : Bool) → all near (route last 1) ≡ true → all near (route last 255) ≡ true → Every (λ (v : Visit). near v ≡ true) (route last (cond z 255 1))
    pick true p q = all_every near (route last 255) q
    pick false p q = all_every near (route last 1) p

abbrev on_it : Spot → Bool
on_it q = on_disk 16 q.place

visit_on : (v : Visit) → near v ≡ true → all on_it (spots_of 16 v) ≡ true
unfolding all spots_of down_from on_disk
visit_on v e = rw e refl

pub route_on : (a b : ℕ) → Every (λ (q : Spot). on_disk 16 q.place ≡ true) (flat_map (spots_of 16) (route (track_of a) (direction_of b)))
route_on a b =
    let h : track_of a < 35 = by_test (leb a 34) (λ e. let z = leb-true a 34 e in rw e (omega arith)) (λ e. rw e (omega arith)) in
    every_flat_map (spots_of 16) (every_imp (λ v e. all_every on_it (spots_of 16 v) (visit_on v e)) (route_near (track_of a) (eqb b 255) h))

-- what is found
pub seek_on : (T : List ℕ) (later : Bool) (q : Spot) → seek_in T later ≡ some q → on_disk 16 q.place ≡ true
unfolding seek_in
seek_on T later q e = (first_found (λ (s : Spot). takable_in T later s.place) q (route_on (get_or T 48 0) (get_or T 49 0)) e).1

module _ (d : List ℕ) (size : length d ≡ 256 * sectors 16) (T : List ℕ) (long : length T ≡ 256) (later : Bool) where
  abbrev D : List ℕ
  D = with_table 16 (omega arith) d size T

  table_takable : (p : Place) → p.track.0 < 35 → takable 16 D later p ≡ takable_in T later p
  unfolding takable takable_in open_track open_in
  table_takable p h =
      let z : p.sector.0 + (16 - 16) ≡ p.sector.0 = omega arith in
      rw (table_free 16 (omega arith) d size T long p h, table_byte 16 (omega arith) d size T long 1 (omega arith), z) refl

  -- a search on the disk with the table T
  pub table_seek : seek 16 D later ≡ found (seek_in T later) NoSpace
  unfolding seek spots seek_in
  table_seek =
      rw (table_byte 16 (omega arith) d size T long 48 (omega arith), table_byte 16 (omega arith) d size T long 49 (omega arith))
      (ap (λ (o : Option Spot). found o NoSpace)
      (first_same (λ (q : Spot). takable 16 D later q.place) (λ (q : Spot). takable_in T later q.place)
      (every_imp (λ q on. table_takable q.place (on_track 16 q.place on)) (route_on (get_or T 48 0) (get_or T 49 0)))))
