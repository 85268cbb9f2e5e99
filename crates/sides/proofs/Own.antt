-- What a side has on a disk, line by line, and on a disk in which one line changed. Assumes nothing.
use mathlib.Core.Path.{◌≡◌, refl, sym, ap, subst, ◌∙◌}
use mathlib.Core.Bool.{Bool, true, false, cond}
use mathlib.Core.List.{List, [], ◌∷◌, ◌++◌, flat_map}
use Prim.Native.Nat.{ℕ, ◌+◌}
use native.Mathlib.Omega.{arith}
use lib.ListN.{length}
use Rattle.lists.specs.Every.{Every}
use Rattle.lists.specs.Select.{filter}
use Rattle.lists.proofs.Split.{by_test}
use Rattle.lists.proofs.Select.{filter_no, filter_append, filter_every, filter_same}
use Rattle.lists.proofs.Chunks.{every_append, split_every, length_joined}
use Rattle.std.specs.Prelude.{Ok}
use Rattle.outcome.specs.Outcome.{Outcome, ◌>>=◌, each}
use Rattle.outcome.proofs.Outcome.{each_cons, each_also, each_same}
use Rattle.disk.specs.declared.Place.{Place}
use Rattle.catalog.specs.Catalog.{Entry, live, entry_from, pages}
use Rattle.holders.specs.Holders.{sectors_of}
use Rattle.amend.specs.Lines.{starts}
use Rattle.amend.proofs.Frame.{Alike, sectors_alike}
use Rattle.amend.proofs.Lines.{line_holds}
use Rattle.amend.proofs.Reading.{Reading, given_same}
use Rattle.amend.proofs.Change.{each_split, each_join}
use Rattle.amend.proofs.Kept.{Changed, parts_of, changed_pages}
use Rattle.amend.proofs.Mid.{LineKept}
use Rattle.lists.proofs.Every.{parted, every_flat_map, every_imp}
use Rattle.sides.specs.declared.Side.{Side}
use Rattle.sides.specs.Sides.{of_side, own_lines, own_at, own_sectors, held_by}
use Rattle.sides.specs.Claims.{KeptFor}

-- ---- one disk
module _ (n : ℕ) (d : List ℕ) (s : Side) where
  -- a line that is read: what the side holds there is what the line holds, or nothing
  pub own_is : (y : ℕ) (u : List Place) → line_holds n d y ≡ Ok u → own_at n d s y ≡ Ok (cond (of_side s (entry_from d y)) u [])
  unfolding line_holds own_at
  own_is y u h = go (entry_from d y) h
    where
      go : (x : Entry) → cond (live x) (sectors_of n d x) (Ok []) ≡ Ok u → cond (of_side s x) (sectors_of n d x) (Ok []) ≡ Ok (cond (of_side s x) u [])
      go x v =
          by_test (live x)
          (λ c. let k : sectors_of n d x ≡ Ok u = rw c at v in rw k (both (of_side s x)))
          (λ c. rw c refl)
        where
          both : (b : Bool) → ◌≡◌ {A = Outcome (List Place)} (cond b (Ok u) (Ok [])) (Ok (cond b u []))
          both true = refl
          both false = refl

  own_too : (y : ℕ) (u : List Place) → line_holds n d y ≡ Ok u → (t : List Place) × (own_at n d s y ≡ Ok t)
  own_too y u h = (cond (of_side s (entry_from d y)) u [], own_is y u h)

  pub sectors_are : (ps : List Place) (ts : List (List Place)) → pages n d ≡ Ok ps → each (own_at n d s) (starts n ps) ≡ Ok ts → own_sectors n d s ≡ Ok (flat_map (λ t. t) ts)
  unfolding own_sectors
  sectors_are ps ts p h = rw (p, h) refl

  -- all that it holds
  pub own_given : (r : Reading n d) → (ts : List (List Place)) × (each (own_at n d s) (starts n r.ps) ≡ Ok ts) × (own_sectors n d s ≡ Ok (flat_map (λ t. t) ts))
  own_given r =
      let t = each_also (line_holds n d) (own_at n d s) own_too (starts n r.ps) r.us r.holds in
      (t.0, t.1, sectors_are r.ps t.0 r.paged t.1)

  pub held_is : (ps : List Place) → own_sectors n d s ≡ Ok ps → held_by n d s ≡ Ok (length ps)
  unfolding held_by
  held_is ps h = rw h refl

  -- what holds of what lines hold holds of what it holds
  pub own_every : {P : Place → Type 0} (ys : List ℕ) (us ts : List (List Place)) → each (line_holds n d) ys ≡ Ok us → each (own_at n d s) ys ≡ Ok ts
      → Every (Every P) us → Every (Every P) ts
  unfolding each
  own_every {P} [] us ts h k e = let z : ts ≡ [] = cc in rw z Every.none
  own_every {P} (y ∷ ys) us ts h k e =
      let c = each_cons (line_holds n d) y ys us h in
      let f = each_cons (own_at n d s) y ys ts k in
      let v = parted (rw c.4 at e) in
      let z : f.0 ≡ cond (of_side s (entry_from d y)) c.0 [] = given_same f.2 (own_is y c.0 c.2) in
      subst (Every (Every P)) (sym f.4) (Every.more (subst (Every P) (sym z) (pick (of_side s (entry_from d y)) c.0 v.0)) (own_every ys c.1 f.1 c.3 f.3 v.1))
    where
      pick : (b : Bool) (u : List Place) → Every P u → Every P (cond b u [])
      pick true u w = w
      pick false u w = Every.none

-- ---- two disks
module _ (n : ℕ) (d e : List ℕ) (s : Side) where
  -- a line whose entry and sectors stay
  own_line : (y : ℕ) (u : List Place) → entry_from e y ≡ entry_from d y → Every (Alike n d e) u → line_holds n d y ≡ Ok u → own_at n e s y ≡ own_at n d s y
  unfolding line_holds own_at
  own_line y u q a h = go (entry_from d y) (entry_from e y) q h
    where
      go : (x z : Entry) → z ≡ x → cond (live x) (sectors_of n d x) (Ok []) ≡ Ok u
          → cond (of_side s z) (sectors_of n e z) (Ok []) ≡ cond (of_side s x) (sectors_of n d x) (Ok [])
      go x z p v =
          rw p
          (by_test (live x)
          (λ c. let k : sectors_of n d x ≡ Ok u = rw c at v in rw (sectors_alike n d e x u a k, k) refl)
          (λ c. rw c refl))

  own_lines_lem : {ys : List ℕ} (us : List (List Place)) → Every (λ (y : ℕ). entry_from e y ≡ entry_from d y) ys → Every (Every (Alike n d e)) us
      → each (line_holds n d) ys ≡ Ok us → Every (λ (y : ℕ). own_at n e s y ≡ own_at n d s y) ys
  own_lines_lem us Every.none a h = Every.none
  own_lines_lem us (Every.more {x} {xs} q qs) a h =
      let c = each_cons (line_holds n d) x xs us h in
      let v = parted (rw c.4 at a) in
      Every.more (own_line x c.0 q v.0 c.2) (own_lines_lem c.1 qs v.1 c.3)

-- ---- one line changed
module _ (n : ℕ) (d e : List ℕ) (r : Reading n d) (a : List ℕ) (x : ℕ) (b : List ℕ) (c : Changed n d e r a x b) (s : Side) where
  pub pages_then : pages n e ≡ Ok r.ps
  pages_then = changed_pages n d e r a x b c (parts_of n d e r a x b c.split)

  pub alikes : Every (Every (Alike n d e)) (parts_of n d e r a x b c.split).ua × Every (Every (Alike n d e)) (parts_of n d e r a x b c.split).ub
  alikes =
      let p = parts_of n d e r a x b c.split in
      let w = split_every p.ua (rw p.us_is at c.alike) in
      (w.0, (parted w.1).1)

  pub own_before : Every (λ (y : ℕ). own_at n e s y ≡ own_at n d s y) a
  own_before = let p = parts_of n d e r a x b c.split in own_lines_lem n d e s p.ua c.before alikes.0 p.holds_a

  pub own_after : Every (λ (y : ℕ). own_at n e s y ≡ own_at n d s y) b
  own_after = let p = parts_of n d e r a x b c.split in own_lines_lem n d e s p.ub c.after alikes.1 p.holds_b

  -- the line was not the side's, and is not
  module _ (was : of_side s (entry_from d x) ≡ false) (is : of_side s (entry_from e x) ≡ false) (keptA : Every (LineKept d e) a) (keptB : Every (LineKept d e) b) where
    sides_same : Every (λ (y : ℕ). of_side s (entry_from e y) ≡ of_side s (entry_from d y)) (a ++ x ∷ b)
    sides_same =
        every_append (every_imp (λ y q. ap (of_side s) q) c.before) (Every.more (is ∙ sym was) (every_imp (λ y q. ap (of_side s) q) c.after))

    lines_same : own_lines n e s ≡ own_lines n d s
    unfolding own_lines
    lines_same =
        rw (pages_then, r.paged, c.split)
        (ap Ok (filter_same (λ (y : ℕ). of_side s (entry_from e y)) (λ (y : ℕ). of_side s (entry_from d y)) sides_same))

    own_none : (f : List ℕ) → of_side s (entry_from f x) ≡ false → own_at n f s x ≡ Ok []
    unfolding own_at
    own_none f h = rw h refl

    sectors_same : own_sectors n e s ≡ own_sectors n d s
    unfolding own_sectors
    sectors_same =
        let w : Every (λ (y : ℕ). own_at n e s y ≡ own_at n d s y) (a ++ x ∷ b) = every_append own_before (Every.more (own_none e is ∙ sym (own_none d was)) own_after) in
        rw (pages_then, r.paged, c.split) (ap (λ (o : Outcome (List (List Place))). o >>= λ ts. Ok (flat_map (λ t. t) ts)) (each_same (own_at n e s) (own_at n d s) w))

    line_bytes_lem : (xs : List ℕ) → own_lines n d s ≡ Ok xs → Every (LineKept d e) xs
    unfolding own_lines
    line_bytes_lem xs h =
        let f : ℕ → Bool = λ y. of_side s (entry_from d y) in
        let z : Ok (filter (λ (y : ℕ). of_side s (entry_from d y)) (a ++ x ∷ b)) ≡ Ok xs = rw (r.paged, c.split) at h in
        let v : filter (λ (y : ℕ). of_side s (entry_from d y)) (a ++ x ∷ b) ≡ xs = cc in
        let w : filter (λ (y : ℕ). of_side s (entry_from d y)) (a ++ x ∷ b) ≡ filter (λ (y : ℕ). of_side s (entry_from d y)) a ++ filter (λ (y : ℕ). of_side s (entry_from d y)) b =
        filter_append (λ (y : ℕ). of_side s (entry_from d y)) a (x ∷ b)
        ∙ ap (λ (l : List ℕ). filter (λ (y : ℕ). of_side s (entry_from d y)) a ++ l) (filter_no (λ (y : ℕ). of_side s (entry_from d y)) x b was) in
        subst (Every (LineKept d e)) (sym w ∙ v)
        (every_append (filter_every (λ (y : ℕ). of_side s (entry_from d y)) keptA) (filter_every (λ (y : ℕ). of_side s (entry_from d y)) keptB))

    sector_bytes_lem : (ps : List Place) → own_sectors n d s ≡ Ok ps → Every (Alike n d e) ps
    sector_bytes_lem ps h =
        let g = own_given n d s r in
        let w = own_every n d s (starts n r.ps) r.us g.0 r.holds g.1 c.alike in
        subst (Every (Alike n d e)) (given_same g.2 h) (every_flat_map (λ t. t) w)

    pub kept_for : KeptFor n s d e
    kept_for = record { lines = lines_same; line_bytes = line_bytes_lem; sectors = sectors_same; sector_bytes = sector_bytes_lem }

  -- what the side held in the line, and what it holds there
  pub held_then : (t new : List Place) → own_at n d s x ≡ Ok t → own_at n e s x ≡ Ok new → (k : ℕ) → held_by n d s ≡ Ok k
      → (k' : ℕ) × (held_by n e s ≡ Ok k') × (k' + length t ≡ k + length new)
  held_then t new h h' k q =
      let g = own_given n d s r in
      let p = each_split (own_at n d s) a x b g.0 (ap (each (own_at n d s)) (sym c.split) ∙ g.1) in
      let tt' : p.1 ≡ t = given_same p.4 h in
      let j : each (own_at n e s) (a ++ x ∷ b) ≡ Ok (p.0 ++ new ∷ p.2) =
      each_join (own_at n e s) a x b p.0 new p.2 (each_same (own_at n e s) (own_at n d s) own_before ∙ p.3) h' (each_same (own_at n e s) (own_at n d s) own_after ∙ p.5) in
      let z : own_sectors n e s ≡ Ok (flat_map (λ t. t) (p.0 ++ new ∷ p.2)) = sectors_are n e s r.ps (p.0 ++ new ∷ p.2) pages_then (ap (each (own_at n e s)) c.split ∙ j) in
      let v : k ≡ length (flat_map (λ t. t) (p.0 ++ t ∷ p.2)) =
      given_same q (held_is n d s (flat_map (λ t. t) g.0) g.2) ∙ ap (λ (ts : List (List Place)). length (flat_map (λ t. t) ts)) (p.6 ∙ ap (λ (l : List Place). p.0 ++ l ∷ p.2) tt') in
      let l₁ = length_joined p.0 new p.2 in
      let l₂ = length_joined p.0 t p.2 in
      (length (flat_map (λ t. t) (p.0 ++ new ∷ p.2)), held_is n e s (flat_map (λ t. t) (p.0 ++ new ∷ p.2)) z, omega arith)
