-- For callers: the sectors of a save, taken on a disk, are those that were taken in a copy of its VTOC. Assumes nothing.
use mathlib.Core.Path.{◌≡◌, refl, sym, ap, ◌∙◌}
use mathlib.Core.Bool.{Bool, true, false, cond, not, ◌&&◌}
use mathlib.Core.List.{List, [], ◌∷◌, flat_map}
use mathlib.Core.Option.{Option, none, some}
use Prim.Native.Nat.{ℕ, zero, suc, ◌+◌, ◌*◌, ◌%◌, ◌<◌, ◌≤◌}
use native.Mathlib.Nat.{add-zero, zero-add}
use native.Mathlib.Omega.{arith}
use lib.ListN.{length, get_or, replicate, length-replicate}
use lib.Dec.{eqb, leb}
use borrow.Author.Tests.{eqb-true, leb-true}
use Rattle.lists.specs.Fill.{put, padded}
use Rattle.lists.proofs.Split.{by_test, both_true, clash}
use Rattle.lists.proofs.Put.{Put, length_put, put_is, put_none, put_more, put_zeros}
use Rattle.std.specs.Prelude.{Ok, Err}
use Rattle.outcome.specs.declared.Refusal.TheVariants.{NoSpace}
use Rattle.outcome.specs.Outcome.{Outcome}
use Rattle.outcome.proofs.Outcome.{refused_given}
use Rattle.disk.specs.declared.Place.{Place}
use Rattle.disk.specs.Disk.{start, bytes_of, sectors}
use Rattle.disk.specs.Vtoc.{vtoc}
use Rattle.disk.proofs.Places.{on_track, is_on, length_sector}
use Rattle.files.specs.Contents.{place_bytes}
use Rattle.amend.specs.Search.{Spot, take_one}
use Rattle.amend.specs.Save.{Part, sectors_in, take_for, data_for, lists_for}
use Rattle.allot.specs.Table.{taken_in, seek_in, Allotment, later_at, with_spot, take_next, take_all, allotted, Allotted}
use Rattle.allot.proofs.Working.{with_table, table_self, table_taken}
use Rattle.allot.proofs.Spots.{seek_on, table_seek}
use Rattle.allot.proofs.Taking.{length_taken, stays, all_is}
use Rattle.allot.proofs.Flat.{take_run, flags, in_row, for_run, length_flags, flags_at}

-- ---- the lengths stay
-- as long as T and P
pub record Long (T P : List ℕ) (a : Allotment) : Type 0 where
  pub table : length a.table ≡ length T
  pub places : length a.places ≡ length P

spot_long : (i : ℕ) (T P : List ℕ) (later : Bool) (o : Option Spot) → o ≡ seek_in T later → length T ≡ 256 → 2 * i + 2 ≤ length P → Long T P (with_spot i T P o)
spot_long i T P later none e l h = record { table = refl; places = refl }
spot_long i T P later (some q) e l h =
    record { table = length_taken T q l (seek_on T later q (sym e)) ∙ sym l; places = length_put (2 * i) (place_bytes q.place) P h }

all_long : (m : ℕ) (T P : List ℕ) → length T ≡ 256 → 2 * m ≤ length P → Long T P (take_all m T P)
unfolding take_all
all_long zero T P l h = record { table = refl; places = refl }
all_long (suc m) T P l h = next (take_all m T P) (all_long m T P l (omega arith))
  where
    next : (a : Allotment) → Long T P a → Long T P (take_next m a)
    next a i =
        let t : length a.table ≡ 256 = i.table ∙ l in
        let p : 2 * m + 2 ≤ length a.places = omega (arith, i.places) in
        let s = spot_long m a.table a.places (later_at m) (seek_in a.table (later_at m)) refl t p in
        by_test a.found (λ e. rw e (record { table = s.table ∙ i.table; places = s.places ∙ i.places })) (λ e. rw e (record { table = i.table; places = i.places }))

allotted_long : (m : ℕ) (T P : List ℕ) → Long T P (allotted m T P)
unfolding allotted
allotted_long m T P =
    by_test (eqb (length T) 256 && leb (2 * m) (length P))
    (λ e.
    let b = both_true (eqb (length T) 256) (leb (2 * m) (length P)) e in
    rw e (all_long m T P (eqb-true _ _ b.0) (leb-true _ _ b.1)))
    (λ e. rw e (record { table = refl; places = refl }))

module _ (m : ℕ) (T P T' P' : List ℕ) (r : Bool) (h : Allotted m T P T' P' r) where
  pub table_long : length T' ≡ length T
  table_long = ap (λ (a : Allotment). length a.table) h.is ∙ (allotted_long m T P).table

  pub places_long : length P' ≡ length P
  places_long = ap (λ (a : Allotment). length a.places) h.is ∙ (allotted_long m T P).places

-- ---- on the disk d with the table T
module _ (d : List ℕ) (size : length d ≡ 256 * sectors 16) where
  abbrev over : List ℕ → List ℕ
  over T = with_table 16 (omega arith) d size T

  -- one sector
  one_none : (T : List ℕ) (later : Bool) → length T ≡ 256 → seek_in T later ≡ none → take_one 16 later (over T) ≡ Err NoSpace
  unfolding take_one
  one_none T later l e = rw (table_seek d size T l later, e) refl

  one_some : (T : List ℕ) (later : Bool) (q : Spot) → length T ≡ 256 → seek_in T later ≡ some q → take_one 16 later (over T) ≡ Ok (q.place, over (taken_in 16 T q))
  unfolding take_one
  one_some T later q l e =
      rw (table_seek d size T l later, e)
      (ap (λ (x : List ℕ). Ok (q.place, x)) (table_taken 16 (omega arith) d size T l q (on_track 16 q.place (seek_on T later q e))))

  -- what a run comes to, from the places P with i of them kept
  record Ran (i : ℕ) (P : List ℕ) (o : Outcome (List Place × List ℕ)) (a : Allotment) : Type 0 where
    none' : a.found ≡ false → o ≡ Err NoSpace
    all' : a.found ≡ true → (ps : List Place) × (o ≡ Ok (ps, over a.table)) × Put (2 * i) (flat_map place_bytes ps) P a.places

  ran_same : (i : ℕ) (P : List ℕ) {o o' : Outcome (List Place × List ℕ)} {a a' : Allotment} → o ≡ o' → a ≡ a' → Ran i P o' a' → Ran i P o a
  ran_same i P p q r = rw (p, q) r

  module _ (T₀ P₀ : List ℕ) where
    ran_none : (i m : ℕ) (T P : List ℕ) (later : Bool) (bs : List Bool) → i < m → length T ≡ 256 → take_all i T₀ P₀ ≡ record { found = true; table = T; places = P } → later ≡ later_at i
        → seek_in T later ≡ none → Ran i P (take_run 16 (later ∷ bs) (over T)) (take_all m T₀ P₀)
    unfolding take_run take_all
    ran_none i m T P later bs h l t b e =
        let n : take_all (suc i) T₀ P₀ ≡ record { found = false; table = T; places = P } =
        ap (take_next i) t ∙ ap (λ (x : Bool). with_spot i T P (seek_in T x)) (sym b) ∙ ap (with_spot i T P) e in
        let s : take_all m T₀ P₀ ≡ record { found = false; table = T; places = P } = stays T₀ P₀ m (suc i) _ (omega arith) n refl in
        record {
          none' = λ f. rw (one_none T later l e) refl;
          all' = λ f. absurd (clash (ap (λ (a : Allotment). a.found) (sym s) ∙ f));
        }

    -- a sector in front of a run
    ran_some : (i : ℕ) (T P : List ℕ) (later : Bool) (bs : List Bool) (q : Spot) (a : Allotment) → length T ≡ 256 → 2 * i + 2 ≤ length P → seek_in T later ≡ some q
        → Ran (suc i) (put (2 * i) (place_bytes q.place) P) (take_run 16 bs (over (taken_in 16 T q))) a → Ran i P (take_run 16 (later ∷ bs) (over T)) a
    unfolding take_run flat_map
    ran_some i T P later bs q a l h e r =
        record {
          none' = λ f. rw (one_some T later q l e, r.none' f) refl;
          all' = λ f.
              let s = r.all' f in
              let p : Put (2 * i) (place_bytes q.place) P (put (2 * i) (place_bytes q.place) P) = put_is refl h in
              (q.place ∷ s.0, rw (one_some T later q l e, s.1) refl, put_more p s.2 (omega arith) (omega arith));
        }

    run_step : (bs : List Bool) (i : ℕ) (T P : List ℕ) (later : Bool) (o : Option Spot) → seek_in T later ≡ o → later ≡ later_at i → length T ≡ 256
        → 2 * (i + suc (length bs)) ≤ length P → take_all i T₀ P₀ ≡ record { found = true; table = T; places = P }
        → ((T' P' : List ℕ) → length T' ≡ 256 → 2 * (suc i + length bs) ≤ length P' → take_all (suc i) T₀ P₀ ≡ record { found = true; table = T'; places = P' }
        → Ran (suc i) P' (take_run 16 bs (over T')) (take_all (suc i + length bs) T₀ P₀))
        → Ran i P (take_run 16 (later ∷ bs) (over T)) (take_all (i + suc (length bs)) T₀ P₀)
    unfolding take_all
    run_step bs i T P later none e b l h t ih = ran_none i (i + suc (length bs)) T P later bs (omega arith) l t b e
    run_step bs i T P later (some q) e b l h t ih =
        let z : suc i + length bs ≡ i + suc (length bs) = omega arith in
        let P' : List ℕ = put (2 * i) (place_bytes q.place) P in
        let n : take_all (suc i) T₀ P₀ ≡ record { found = true; table = taken_in 16 T q; places = P' } =
        ap (take_next i) t ∙ ap (λ (x : Bool). with_spot i T P (seek_in T x)) (sym b) ∙ ap (with_spot i T P) e in
        let k : length P' ≡ length P = length_put (2 * i) (place_bytes q.place) P (omega arith) in
        let r = ih (taken_in 16 T q) P' (length_taken T q l (seek_on T later q e)) (omega arith) n in
        ran_some i T P later bs q (take_all (i + suc (length bs)) T₀ P₀) l (omega arith) e (rw z at r)

    run_is : (bs : List Bool) (i : ℕ) (T P : List ℕ) → length T ≡ 256 → 2 * (i + length bs) ≤ length P → take_all i T₀ P₀ ≡ record { found = true; table = T; places = P }
        → ((j : ℕ) → j < length bs → get_or bs j false ≡ later_at (i + j)) → Ran i P (take_run 16 bs (over T)) (take_all (i + length bs) T₀ P₀)
    unfolding take_run flat_map
    run_is [] i T P l h t b =
        rw (add-zero i, t)
        (record {
          none' = λ f. absurd (clash (sym f));
          all' = λ f. ([], refl, put_none (2 * i) P);
        })
    run_is (later ∷ bs) i T P l h t b =
        run_step bs i T P later (seek_in T later) refl (b 0 (omega arith) ∙ ap later_at (add-zero i)) l h t
        (λ T' P' l' h' t'.
        run_is bs (suc i) T' P' l' h' t'
        (λ j k. let z : i + suc j ≡ suc i + j = omega arith in b (suc j) (omega arith) ∙ ap later_at z))

-- ---- the sectors of a save, as runs and as parts
row_refused : (o : Outcome (List Part × List ℕ)) → in_row o ≡ Err NoSpace → o ≡ Err NoSpace
row_refused (Err q) e = let z : q ≡ NoSpace = cc in ap Err z
row_refused (Ok r) e = absurd (refused_given (sym e))

row_given : (o : Outcome (List Part × List ℕ)) (ps : List Place) (x : List ℕ) → in_row o ≡ Ok (ps, x)
    → (gs : List Part) × (o ≡ Ok (gs, x)) × (sectors_in gs ≡ ps)
row_given (Err q) ps x e = absurd (refused_given e)
row_given (Ok r) ps x e =
    let w : ◌≡◌ {A = List Place × List ℕ} (sectors_in r.0, r.1) (ps, x) = cc in
    let z : r.1 ≡ x = ap (λ (y : List Place × List ℕ). y.1) w in
    (r.0, ap (λ (y : List ℕ). Ok (r.0, y)) z, ap (λ (y : List Place × List ℕ). y.0) w)

-- sector i is a later list where its flag says so
flag_is : (k i : ℕ) → i < lists_for (data_for k) + data_for k → get_or (flags (lists_for (data_for k)) (data_for k) false) i false ≡ later_at i
flag_is k i h = flags_at (lists_for (data_for k)) (data_for k) i false (omega arith) (omega arith) h ∙ same (eqb i 0) (eqb (i % 123) 0)
  where
    same : (a b : Bool) → cond a false b ≡ (not a && b)
    same true b = refl
    same false b = refl

-- the places of a save have room in 262 bytes
pub places_fit : (k : ℕ) → k ≤ 32768 → 2 * (lists_for (data_for k) + data_for k) ≤ 262
places_fit k h = omega arith

-- ---- m sectors, for k bytes, were sought in the disk's VTOC, with n zeros for their places
module _ (d : List ℕ) (size : length d ≡ 256 * sectors 16) (k m n : ℕ) (T P T' P' : List ℕ) (r : Bool) (h : Allotted m T P T' P' r)
    (many : m ≡ lists_for (data_for k) + data_for k) (own : T ≡ bytes_of 16 d vtoc) (blank : P ≡ replicate n 0) (room : 2 * m ≤ n) where
  long : length T ≡ 256
  long = ap length own ∙ length_sector 16 d vtoc size (is_on 16 17 0 (omega arith) (omega arith))

  wide : 2 * m ≤ length P
  wide = let e : length P ≡ n = ap length blank ∙ length-replicate n 0 in omega arith

  ran : Ran d size 0 P (in_row (take_for 16 k d)) (take_all m T P)
  unfolding take_all
  ran =
      let fs : List Bool = flags (lists_for (data_for k)) (data_for k) false in
      let l : length fs ≡ lists_for (data_for k) + data_for k = length_flags (lists_for (data_for k)) (data_for k) false (omega arith) in
      let e : m ≡ 0 + length fs = many ∙ sym l ∙ sym (zero-add (length fs)) in
      let q : in_row (take_for 16 k d) ≡ take_run 16 fs (over d size T) =
      for_run 16 k d ∙ ap (take_run 16 fs) (sym (table_self 16 (omega arith) d size) ∙ ap (over d size) (sym own)) in
      ran_same d size 0 P q (ap (λ (x : ℕ). take_all x T P) e)
      (run_is d size T P fs 0 T P long (let w = wide in omega arith) refl (λ j b. flag_is k j (omega arith) ∙ ap later_at (sym (zero-add j))))

  is_all : record { found = r; table = T'; places = P' } ≡ take_all m T P
  is_all = h.is ∙ sym (all_is m T P long wide)

  -- not all were found
  pub allotted_none : r ≡ false → take_for 16 k d ≡ Err NoSpace
  allotted_none e = row_refused (take_for 16 k d) (ran.none' (sym (ap (λ (a : Allotment). a.found) is_all) ∙ e))

  -- all were: their places, as pairs of bytes with zeros behind them, and the disk with the table after
  pub allotted_all : r ≡ true
      → (gs : List Part) × (take_for 16 k d ≡ Ok (gs, put (start 16 vtoc) T' d)) × (P' ≡ padded n (flat_map place_bytes (sectors_in gs))) × (length T' ≡ 256)
  allotted_all e =
      let s = ran.all' (sym (ap (λ (a : Allotment). a.found) is_all) ∙ e) in
      let g = row_given (take_for 16 k d) s.0 (over d size (take_all m T P).table) s.1 in
      let t : (take_all m T P).table ≡ T' = sym (ap (λ (a : Allotment). a.table) is_all) in
      let p : P' ≡ (take_all m T P).places = ap (λ (a : Allotment). a.places) is_all in (
        g.0,
        g.1 ∙ ap (λ (x : List ℕ). Ok (g.0, put (start 16 vtoc) x d)) t,
        p ∙ put_zeros n blank s.2 ∙ ap (λ (ps : List Place). padded n (flat_map place_bytes ps)) (sym g.2),
        table_long m T P T' P' r h ∙ long,
      )
