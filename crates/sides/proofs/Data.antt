-- The data sectors of a side's files, and all other sectors that are held: no sector is both. Assumes nothing.
use mathlib.Core.Path.{◌≡◌, refl, sym, ap, subst, ◌∙◌}
use mathlib.Core.Bool.{true, false, cond}
use mathlib.Core.List.{List, [], ◌∷◌, ◌++◌, flat_map}
use Prim.Native.Nat.{ℕ, ◌+◌}
use native.Mathlib.Omega.{arith}
use lib.Dec.{eqb}
use borrow.Author.Tests.{eqb-true, eqb-false}
use Rattle.lists.specs.Every.{Every}
use Rattle.lists.proofs.Split.{by_test, both_true}
use Rattle.lists.proofs.Chunks.{every_append}
use Rattle.std.specs.Prelude.{Ok}
use Rattle.outcome.specs.Outcome.{Outcome, ◌>>=◌, each}
use Rattle.outcome.proofs.Outcome.{each_cons, each_same}
use Rattle.disk.specs.declared.Place.{Place}
use Rattle.disk.specs.Disk.{number_of}
use Rattle.catalog.specs.Catalog.{Entry, live, shown, entry_from, pages}
use Rattle.files.specs.Contents.{lists, pairs_of}
use Rattle.holders.specs.Holders.{with_pairs, sectors_of, held}
use Rattle.holders.proofs.Counting.{held_none, held_here, held_else, held_append}
use Rattle.holders.proofs.Clean.{On}
use Rattle.holders.proofs.Refusals.{sectors_given, split_pairs}
use Rattle.amend.specs.Lines.{starts}
use Rattle.amend.proofs.Frame.{Alike, lists_alike, all_pairs_alike}
use Rattle.amend.proofs.Lines.{line_holds}
use Rattle.amend.proofs.Reading.{Reading}
use Rattle.amend.proofs.Kept.{Changed, parts_of}
use Rattle.sides.specs.declared.Side.{Side}
use Rattle.sides.specs.Sides.{belongs, of_side}
use Rattle.sides.specs.Claims.{own_data_at, own_data}
use Rattle.lists.proofs.Every.{parted}
use Rattle.sides.proofs.Own.{pages_then, alikes}

module _ (n : ℕ) (d : List ℕ) where
  -- lists and their pairs
  with_held : (ls : List Place) (k : ℕ) → held n (flat_map (with_pairs n d) ls) k ≡ held n ls k + held n (flat_map (pairs_of n d) ls) k
  unfolding flat_map
  with_held [] k = let z = held_none n k in omega arith
  with_held (l ∷ ls) k =
      let i = with_held ls k in
      let a = held_append n k (l ∷ pairs_of n d l) (flat_map (with_pairs n d) ls) in
      let b = held_append n k (pairs_of n d l) (flat_map (pairs_of n d) ls) in
      by_test (eqb (number_of n l) k)
      (λ q. let x = held_here n k l (pairs_of n d l) (eqb-true _ _ q) in let y = held_here n k l ls (eqb-true _ _ q) in omega arith)
      (λ q. let x = held_else n k l (pairs_of n d l) (eqb-false _ _ q) in let y = held_else n k l ls (eqb-false _ _ q) in omega arith)

  module _ (s : Side) where
    -- what the line at x holds, without the data of the side's files
    unfoldable pub rest_at : ℕ → Outcome (List Place)
    rest_at x = cond (of_side s (entry_from d x)) (lists n d (entry_from d x)) (line_holds n d x)

    -- one line
    line_parts : (y : ℕ) (u : List Place) → line_holds n d y ≡ Ok u
        → (q : List Place) × (p : List Place) × (rest_at y ≡ Ok q) × (own_data_at n d s y ≡ Ok p) × ((k : ℕ) → held n u k ≡ held n q k + held n p k)
        × (On n u → On n q)
    unfolding rest_at own_data_at line_holds
    line_parts y u h =
        by_test (of_side s (entry_from d y))
        (λ t.
        let l = (both_true (live (entry_from d y)) (belongs s (shown (entry_from d y).raw)) t).0 in
        let g = sectors_given n d (entry_from d y) u (rw l at h) in (
          g.0,
          flat_map (pairs_of n d) g.0,
          rw t g.1,
          data_yes g.0 t g.1,
          λ k. ap (λ (v : List Place). held n v k) g.3 ∙ with_held g.0 k,
          λ e. (split_pairs n d g.0 (subst (On n) g.3 e)).0,
        ))
        (λ t. (u, [], rw t h, rw t refl, λ k. let z = held_none n k in omega arith, λ e. e))
      where
        data_yes : (ls : List Place) → of_side s (entry_from d y) ≡ true → lists n d (entry_from d y) ≡ Ok ls → own_data_at n d s y ≡ Ok (flat_map (pairs_of n d) ls)
        data_yes ls t g = rw (t, g) refl

    -- all lines
    pub record Divided (ys : List ℕ) (us : List (List Place)) : Type 0 where
      pub rest : List (List Place)
      pub data' : List (List Place)
      pub rest_is : each rest_at ys ≡ Ok rest
      pub data_is : each (own_data_at n d s) ys ≡ Ok data'
      pub sum : (k : ℕ) → held n (flat_map (λ t. t) us) k ≡ held n (flat_map (λ t. t) rest) k + held n (flat_map (λ t. t) data') k
      pub part : Every (On n) us → Every (On n) rest

    pub divide : (ys : List ℕ) (us : List (List Place)) → each (line_holds n d) ys ≡ Ok us → Divided ys us
    unfolding each flat_map
    divide [] us h =
        let z : us ≡ [] = cc in
        record { rest = []; data' = []; rest_is = refl; data_is = refl; sum = λ k. let w = held_none n k in rw z (omega arith); part = λ e. Every.none }
    divide (y ∷ ys) us h =
        let c = each_cons (line_holds n d) y ys us h in
        let l = line_parts y c.0 c.2 in
        let i = divide ys c.1 c.3 in
        record {
          rest = l.0 ∷ i.rest;
          data' = l.1 ∷ i.data';
          rest_is = one rest_at l.0 i.rest l.2 i.rest_is;
          data_is = one (own_data_at n d s) l.1 i.data' l.3 i.data_is;
          sum = λ k.
              let a = held_append n k c.0 (flat_map (λ t. t) c.1) in
              let b = held_append n k l.0 (flat_map (λ t. t) i.rest) in
              let e = held_append n k l.1 (flat_map (λ t. t) i.data') in
              let f = l.4 k in
              let g = i.sum k in
              ap (λ (v : List (List Place)). held n (flat_map (λ t. t) v) k) c.4 ∙ omega arith;
          part = λ e. let v = parted (subst (Every (On n)) c.4 e) in Every.more (l.5 v.0) (i.part v.1);
        }
      where
        one : {D : Type 0} (g : ℕ → Outcome D) (w : D) (l : List D) → g y ≡ Ok w → each g ys ≡ Ok l → each g (y ∷ ys) ≡ Ok (w ∷ l)
        one g w l m k = rw (m, k) refl

    pub data_is_lem : (ps : List Place) (ts : List (List Place)) → pages n d ≡ Ok ps → each (own_data_at n d s) (starts n ps) ≡ Ok ts → own_data n d s ≡ Ok (flat_map (λ t. t) ts)
    unfolding own_data
    data_is_lem ps ts p h = rw (p, h) refl

-- ---- one line changed
module _ (n : ℕ) (d e : List ℕ) (s : Side) where
  data_line : (y : ℕ) (u : List Place) → entry_from e y ≡ entry_from d y → Every (Alike n d e) u → line_holds n d y ≡ Ok u → own_data_at n e s y ≡ own_data_at n d s y
  unfolding line_holds own_data_at
  data_line y u q a h = go (entry_from d y) (entry_from e y) q h
    where
      go : (x z : Entry) → z ≡ x → cond (live x) (sectors_of n d x) (Ok []) ≡ Ok u
          → cond (of_side s z) (lists n e z >>= λ ls. Ok (flat_map (pairs_of n e) ls)) (Ok []) ≡ cond (of_side s x) (lists n d x >>= λ ls. Ok (flat_map (pairs_of n d) ls)) (Ok [])
      go x z p v =
          rw p
          (by_test (live x)
          (λ c.
          let g = sectors_given n d x u (rw c at v) in
          let w : Every (Alike n d e) g.0 = (split_pairs n d g.0 (rw g.3 at a)).0 in
          same g.0 g.1 (lists_alike n d e x g.0 w g.1) (all_pairs_alike n d e w))
          (λ c. rw c refl))
        where
          same : (ls : List Place) → lists n d x ≡ Ok ls → lists n e x ≡ Ok ls → flat_map (pairs_of n e) ls ≡ flat_map (pairs_of n d) ls
              → cond (of_side s x) (lists n e x >>= λ ls. Ok (flat_map (pairs_of n e) ls)) (Ok []) ≡ cond (of_side s x) (lists n d x >>= λ ls. Ok (flat_map (pairs_of n d) ls)) (Ok [])
          same ls i j k = rw (i, j, k) refl

  data_lines : {ys : List ℕ} (us : List (List Place)) → Every (λ (y : ℕ). entry_from e y ≡ entry_from d y) ys → Every (Every (Alike n d e)) us
      → each (line_holds n d) ys ≡ Ok us → Every (λ (y : ℕ). own_data_at n e s y ≡ own_data_at n d s y) ys
  data_lines us Every.none a h = Every.none
  data_lines us (Every.more {x} {xs} q qs) a h =
      let c = each_cons (line_holds n d) x xs us h in
      let v = parted (rw c.4 at a) in
      Every.more (data_line x c.0 q v.0 c.2) (data_lines c.1 qs v.1 c.3)

module _ (n : ℕ) (d e : List ℕ) (r : Reading n d) (a : List ℕ) (x : ℕ) (b : List ℕ) (c : Changed n d e r a x b) (s : Side)
    (was : of_side s (entry_from d x) ≡ false) (is : of_side s (entry_from e x) ≡ false) where
  data_none : (f : List ℕ) → of_side s (entry_from f x) ≡ false → own_data_at n f s x ≡ Ok []
  unfolding own_data_at
  data_none f h = rw h refl

  pub data_stays : own_data n e s ≡ own_data n d s
  unfolding own_data
  data_stays =
      let p = parts_of n d e r a x b c.split in
      let al = alikes n d e r a x b c s in
      let w : Every (λ (y : ℕ). own_data_at n e s y ≡ own_data_at n d s y) (a ++ x ∷ b) =
      every_append (data_lines n d e s p.ua c.before al.0 p.holds_a)
      (Every.more (data_none e is ∙ sym (data_none d was)) (data_lines n d e s p.ub c.after al.1 p.holds_b)) in
      rw (pages_then n d e r a x b c s, r.paged, c.split)
      (ap (λ (o : Outcome (List (List Place))). o >>= λ ts. Ok (flat_map (λ t. t) ts)) (each_same (own_data_at n e s) (own_data_at n d s) w))
