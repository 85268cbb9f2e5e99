-- Sectors taken in a copy of the VTOC, one after the other, as code does it. Assumes nothing.
use mathlib.Core.Path.{◌≡◌, refl, sym, ap, ◌∙◌}
use mathlib.Core.Bool.{Bool, true, false, not, ◌&&◌}
use mathlib.Core.List.{List, [], ◌∷◌}
use mathlib.Core.Option.{Option, none, some}
use Rattle.std.specs.Prelude as rust
use Rattle.std.specs.Prelude.{Some, None, is_some, unwrap_or}
use Rattle.outcome.proofs.Outcome.{some_none}
use Prim.Native.Nat.{ℕ, zero, suc, ◌+◌, ◌*◌, ◌/◌, ◌%◌, ◌^◌, ◌<◌, ◌≤◌}
use native.Mathlib.Numerals.{add-one}
use native.Mathlib.Omega.{arith}
use lib.ListN.{length}
use lib.Dec.{eqb}
use borrow.Author.Rules.{rules}
use borrow.Author.Tests.{eq-eqb, ne_eqb, le-leb, lt-leb, not-true, not-false}
use Rattle.lists.specs.Fill.{put, placed}
use Rattle.lists.proofs.Split.{by_lt}
use Rattle.lists.proofs.Put.{length_put, placed_put}
use Rattle.disk.specs.Disk.{on_disk}
use Rattle.disk.proofs.Places.{on_track}
use Rattle.files.specs.Contents.{place_bytes}
use Rattle.amend.specs.Search.{Spot}
use Rattle.allot.specs.declared.Found.{Found}
use Rattle.allot.specs.Table.{marked_in, taken_in, mark_on, seek_in, Allotment, later_at, with_spot, take_next, take_all, allotted, Marked, Allotted}
use Rattle.allot.specs.Steps.{as_found, after_seek, Sought, Took}
use Rattle.allot.proofs.Working.{length_marked}
use Rattle.allot.proofs.Spots.{seek_on}

-- ---- one sector
pub length_taken : (T : List ℕ) (q : Spot) → length T ≡ 256 → on_disk 16 q.place ≡ true → length (taken_in 16 T q) ≡ 256
length_taken T q l on =
    let m = length_marked 16 T 0 q.place l (on_track 16 q.place on) in
    length_put 48 (q.place.track.0 ∷ q.direction ∷ []) (marked_in 16 T 0 q.place) (omega arith) ∙ m

pub length_after : (T : List ℕ) (later : Bool) (o : Option Spot) → o ≡ seek_in T later → length T ≡ 256 → length (after_seek T o) ≡ 256
length_after T later none e l = l
length_after T later (some q) e l = length_taken T q l (seek_on T later q (sym e))

taken_from : (T T₁ T₂ : List ℕ) (q : Spot) → length T ≡ 256 → on_disk 16 q.place ≡ true → T₁ ≡ mark_on T 0 q.place
    → T₂ ≡ placed 48 (q.place.track.0 ∷ q.direction ∷ []) T₁ → T₂ ≡ taken_in 16 T q
unfolding mark_on
taken_from T T₁ T₂ q l on a b =
    let m : T₁ ≡ marked_in 16 T 0 q.place = a ∙ rw (eq-eqb _ _ l, on) refl in
    let k : length T₁ ≡ 256 = ap length m ∙ length_marked 16 T 0 q.place l (on_track 16 q.place on) in
    (placed_put b (omega arith)).is ∙ ap (put 48 (q.place.track.0 ∷ q.direction ∷ [])) m

took_some' : (T T₁ T₂ : List ℕ) (later : Bool) (q : Found) (o : Option Spot) → o ≡ seek_in T later → Some q ≡ as_found o → Marked 0 q.place T T₁
    → T₂ ≡ placed 48 (q.place.track.0 ∷ q.direction ∷ []) T₁ → length T ≡ 256 → T₂ ≡ after_seek T o
took_some' T T₁ T₂ later q none e i m p l = absurd (some_none i)
took_some' T T₁ T₂ later q (some s) e i m p l =
    taken_from T T₁ T₂ s l (seek_on T later s (sym e)) (m.is ∙ ap (λ x. mark_on T 0 (unwrap_or x q).place) i)
    (p ∙ ap (λ x. placed 48 ((unwrap_or x q).place.track.0 ∷ (unwrap_or x q).direction ∷ []) T₁) i)

pub took_some : (T T₁ T₂ : List ℕ) (later : Bool) (f : rust.Option Found) (q : Found) → Sought T later f → f ≡ Some q → Marked 0 q.place T T₁
    → T₂ ≡ placed 48 (q.place.track.0 ∷ q.direction ∷ []) T₁ → length T ≡ 256 → Took T T₂ later (Some q)
took_some T T₁ T₂ later f q h e m p l = record { is = sym e ∙ h.is; table = took_some' T T₁ T₂ later q (seek_in T later) refl (sym e ∙ h.is) m p l }

pub ruleset taking_one = (took_some, rules)

-- ---- the sectors, i of m taken
pub record Taking (m : ℕ) (T₀ P₀ : List ℕ) (i : ℕ) (T P : List ℕ) : Type 0 where
  pub count : i ≤ m
  pub size : length T₀ ≡ 256
  pub room : 2 * m ≤ length P₀
  pub table : length T ≡ 256
  pub space : length P ≡ length P₀
  pub is : take_all i T₀ P₀ ≡ record { found = true; table = T; places = P }

pub take_start : (m : ℕ) (T P : List ℕ) → length T ≡ 256 → m ≤ length P / 2 → Taking m T P 0 T P
unfolding take_all
take_start m T P l h = record { count = omega arith; size = l; room = omega arith; table = l; space = refl; is = refl }

-- a call that takes nothing
pub take_other : (m : ℕ) (T P : List ℕ) → (length T ≡ 256 → ⊥) → Allotted m T P T P false
unfolding allotted
take_other m T P h = record { is = rw (ne_eqb _ _ h) refl }

pub take_narrow : (m : ℕ) (T P : List ℕ) → length T ≡ 256 → length P / 2 < m → Allotted m T P T P false
unfolding allotted
take_narrow m T P l h = record { is = rw (eq-eqb _ _ l, lt-leb (2 * m) (length P) (omega arith)) refl }

-- one more
spot_some : (i : ℕ) (T P T' P' : List ℕ) (q : Found) (o : Option Spot) → Some q ≡ as_found o → T' ≡ after_seek T o
    → P' ≡ put (2 * i) (q.place.track.0 ∷ q.place.sector.0 ∷ []) P → with_spot i T P o ≡ record { found = true; table = T'; places = P' }
spot_some i T P T' P' q none e t p = absurd (some_none e)
spot_some i T P T' P' q (some s) e t p =
    let z : put (2 * i) (place_bytes s.place) P ≡ P' = sym (p ∙ ap (λ x. put (2 * i) (place_bytes (unwrap_or x q).place) P) e) in
    let y : taken_in 16 T s ≡ T' = sym t in
    λ j. record { found = true; table = y j; places = z j }

spot_none : (i : ℕ) (T P T' : List ℕ) (o : Option Spot) → None ≡ as_found o → T' ≡ after_seek T o
    → with_spot i T P o ≡ record { found = false; table = T'; places = P }
spot_none i T P T' none e t = let y : T ≡ T' = sym t in λ j. record { found = false; table = y j; places = P }
spot_none i T P T' (some s) e t = absurd (some_none (sym e))

next_is : (m : ℕ) (T₀ P₀ : List ℕ) (i : ℕ) (T P : List ℕ) (b : Bool) → Taking m T₀ P₀ i T P → b ≡ later_at i → take_all (suc i) T₀ P₀ ≡ with_spot i T P (seek_in T b)
unfolding take_all
next_is m T₀ P₀ i T P b t e = ap (take_next i) t.is ∙ ap (λ (x : Bool). with_spot i T P (seek_in T x)) (sym e)

pub take_more : (m : ℕ) (T₀ P₀ : List ℕ) (i : ℕ) (T P T' P' : List ℕ) (b : Bool) (f : rust.Option Found) (q : Found) → Taking m T₀ P₀ i T P → i < m → Took T T' b f → f ≡ Some q
    → b ≡ (not (eqb i 0) && eqb (i % 123) 0) → P' ≡ placed (2 * i) (q.place.track.0 ∷ q.place.sector.0 ∷ []) P → Taking m T₀ P₀ (i + 1) T' P'
take_more m T₀ P₀ i T P T' P' b f q t h k v e p =
    let w = placed_put p (omega (arith, t.room, t.space)) in
    let s : take_all (i + 1) T₀ P₀ ≡ record { found = true; table = T'; places = P' } =
    rw (add-one i) (next_is m T₀ P₀ i T P b t e ∙ spot_some i T P T' P' q (seek_in T b) (sym v ∙ k.is) k.table w.is) in
    record {
      count = omega arith;
      size = t.size;
      room = t.room;
      table = ap length k.table ∙ length_after T b (seek_in T b) refl t.table;
      space = w.long ∙ t.space;
      is = s;
    }

-- where one was not found, all is as it was then
pub stays : (T P : List ℕ) (m i : ℕ) (a : Allotment) → i ≤ m → take_all i T P ≡ a → a.found ≡ false → take_all m T P ≡ a
unfolding take_all
stays T P zero i a h e f = let z : i ≡ 0 = omega arith in rw z at e
stays T P (suc m) i a h e f =
    by_lt m i (λ l. let z : i ≡ suc m = omega arith in rw z at e)
    (λ l. ap (take_next m) (stays T P m i a l e f) ∙ rw f refl)

pub all_is : (m : ℕ) (T P : List ℕ) → length T ≡ 256 → 2 * m ≤ length P → take_all m T P ≡ allotted m T P
unfolding allotted
all_is m T P l h = rw (eq-eqb _ _ l, le-leb (2 * m) (length P) h) refl

pub take_miss : (m : ℕ) (T₀ P₀ : List ℕ) (i : ℕ) (T P T' : List ℕ) (b : Bool) (f : rust.Option Found) → Taking m T₀ P₀ i T P → i < m → Took T T' b f → f ≡ None
    → b ≡ (not (eqb i 0) && eqb (i % 123) 0) → Allotted m T₀ P₀ T' P false
take_miss m T₀ P₀ i T P T' b f t h k v e =
    let n = next_is m T₀ P₀ i T P b t e ∙ spot_none i T P T' (seek_in T b) (sym v ∙ k.is) k.table in
    record { is = sym (stays T₀ P₀ m (suc i) _ (omega arith) n refl) ∙ all_is m T₀ P₀ t.size t.room }

pub take_done : (m : ℕ) (T₀ P₀ : List ℕ) (i : ℕ) (T P : List ℕ) → Taking m T₀ P₀ i T P → m ≤ i → Allotted m T₀ P₀ T P true
take_done m T₀ P₀ i T P t h =
    let z : i ≡ m = omega (arith, t.count) in
    record { is = sym t.is ∙ ap (λ (k : ℕ). take_all k T₀ P₀) z ∙ all_is m T₀ P₀ t.size t.room }

pub take_table : (m : ℕ) (T₀ P₀ : List ℕ) (i : ℕ) (T P : List ℕ) → Taking m T₀ P₀ i T P → length T ≡ 256
take_table m T₀ P₀ i T P t = t.table

pub take_fits : (m : ℕ) (T₀ P₀ : List ℕ) (i : ℕ) (T P : List ℕ) → Taking m T₀ P₀ i T P → i < m → length P * 1 < 2 ^ 63 → 2 * i < 2 ^ 64
take_fits m T₀ P₀ i T P t h l = omega (arith, t.room, t.space)

pub ruleset taking = (take_start, take_other, take_narrow, take_more, take_miss, take_done, take_table, take_fits, not-true, not-false, rules)
