-- Sectors taken one after the other: each was free in the map, so no holder has it, and none is taken twice. Assumes nothing.
use mathlib.Core.Path.{◌≡◌, refl, sym, ap, ◌∙◌}
use mathlib.Core.Bool.{Bool, true, false}
use mathlib.Core.List.{List, [], ◌∷◌, ◌++◌, map, flat_map}
use Prim.Native.Nat.{ℕ, zero, suc, ◌*◌, ◌-◌, ◌<◌, ◌≤◌, min}
use native.Mathlib.Omega.{arith}
use lib.ListN.{length, length-append}
use lib.Dec.{eqb}
use borrow.Author.Tests.{eqb-true, eqb-false}
use Rattle.lists.specs.Every.{Every}
use Rattle.lists.proofs.Split.{by_test, by_lt}
use Rattle.lists.proofs.Among.{unlike}
use Rattle.lists.proofs.Chunks.{every_append, split_every}
use Rattle.std.specs.Prelude.{Ok}
use Rattle.outcome.specs.Outcome.{Outcome}
use Rattle.outcome.proofs.Outcome.{gives}
use Rattle.disk.specs.declared.Place.{Place}
use Rattle.disk.specs.Disk.{number_of, on_disk, sectors}
use Rattle.disk.proofs.Places.{same_place}
use Rattle.holders.specs.Holders.{held, free}
use Rattle.holders.proofs.Counting.{held_none, held_here, held_else, held_append}
use Rattle.files.specs.Contents.{max_pairs}
use Rattle.amend.specs.Search.{Spot, seek, taken, take_one}
use Rattle.amend.specs.Save.{Part, take_data, take_parts, take_for, sectors_in, data_of, data_for, lists_for}
use Rattle.amend.proofs.Marks.{Remap, remap_none, remap_more, taken_remap, taken_same, taken_else}
use Rattle.amend.proofs.Seeks.{seek_given}

-- two pairs that are given
pub given_pair : {A B : Type 0} {a c : A} {b e : B} → ◌≡◌ {A = Outcome (A × B)} (Ok (a, b)) (Ok (c, e)) → (a ≡ c) × (b ≡ e)
given_pair {A} {B} {a} {c} {b} {e} h =
    let z : ◌≡◌ {A = A × B} (a, b) (c, e) = cc in
    (ap (λ (t : A × B). t.0) z, ap (λ (t : A × B). t.1) z)

-- a sector that a save may take: of the disk, not of track 0 or 17
pub record Taker (n : ℕ) (p : Place) : Type 0 where
  pub on : on_disk n p ≡ true
  pub track0 : p.track.0 ≡ 0 → ⊥
  pub track17 : p.track.0 ≡ 17 → ⊥

-- e is the disk d with the sectors ps taken
pub record Taking (n : ℕ) (d : List ℕ) (ps : List Place) (e : List ℕ) : Type 0 where
  pub remap : Remap n d e
  pub takes : Every (Taker n) ps
  pub once : (q : Place) → on_disk n q ≡ true → held n ps (number_of n q) ≤ 1
  pub was : (q : Place) → on_disk n q ≡ true → 0 < held n ps (number_of n q) → free n d q ≡ true
  pub now : (q : Place) → on_disk n q ≡ true → 0 < held n ps (number_of n q) → free n e q ≡ false
  pub other : (q : Place) → on_disk n q ≡ true → held n ps (number_of n q) ≡ 0 → free n e q ≡ free n d q

-- none, and one batch after the other
pub taking_none : (n : ℕ) (d : List ℕ) → Taking n d [] d
taking_none n d =
    record {
      remap = remap_none n d;
      takes = Every.none;
      once = λ q on. let z = held_none n (number_of n q) in omega arith;
      was = λ q on h. absurd (let z = held_none n (number_of n q) in omega arith);
      now = λ q on h. absurd (let z = held_none n (number_of n q) in omega arith);
      other = λ q on h. refl;
    }

-- held by the first, or by the second
by_held : {C : Type 0} (a b : ℕ) → (0 < a → C) → (a ≡ 0 → C) → C
by_held a b f g = by_lt 0 a f (λ h. g (omega arith))

pub taking_more : {n : ℕ} {d e f : List ℕ} {ps qs : List Place} → Taking n d ps e → Taking n e qs f → Taking n d (ps ++ qs) f
taking_more {n} {d} {e} {f} {ps} {qs} a b =
    record {
      remap = remap_more a.remap b.remap;
      takes = every_append a.takes b.takes;
      once = λ q on.
          let s = held_append n (number_of n q) ps qs in
          let x = a.once q on in
          let y = b.once q on in
          by_lt 0 (held n ps (number_of n q))
          (λ h.
          by_lt 0 (held n qs (number_of n q)) (λ l. absurd (unlike (a.now q on h) (b.was q on l))) (λ l. omega arith))
          (λ h. omega arith);
      was = λ q on h.
          let s = held_append n (number_of n q) ps qs in
          by_lt 0 (held n ps (number_of n q)) (a.was q on)
          (λ l. sym (a.other q on (omega arith)) ∙ b.was q on (omega arith));
      now = λ q on h.
          let s = held_append n (number_of n q) ps qs in
          by_lt 0 (held n qs (number_of n q)) (b.now q on)
          (λ l. b.other q on (omega arith) ∙ a.now q on (omega arith));
      other = λ q on h.
          let s = held_append n (number_of n q) ps qs in
          b.other q on (omega arith) ∙ a.other q on (omega arith);
    }

-- ---- lists with their data
-- m data sectors in lists of 122; a later list is in no sector 0
abbrev pub Shaped : ℕ → Bool → List Part → Type 0
Shaped m later [] = m ≡ 0
Shaped m later (g ∷ gs) = (length g.pairs ≡ min max_pairs m) × (later ≡ true → g.list.sector.0 ≡ 0 → ⊥) × Shaped (m - max_pairs) true gs

-- so there are m in all
pub shaped_data : (m : ℕ) (later : Bool) (gs : List Part) → Shaped m later gs → length (data_of gs) ≡ m
unfolding flat_map
shaped_data m later [] h = sym h
shaped_data m later (g ∷ gs) h = let i = shaped_data (m - max_pairs) true gs h.2 in let j = h.0 in rw length-append (omega arith)

module _ (n : ℕ) (some : 0 < n) (few : n ≤ 16) where
  -- one sector
  pub take_one_lem : (later : Bool) (d : List ℕ) (p : Place) (e : List ℕ) → length d ≡ 256 * sectors n → take_one n later d ≡ Ok (p, e)
      → Taking n d (p ∷ []) e × (later ≡ true → p.sector.0 ≡ 0 → ⊥)
  unfolding take_one
  take_one_lem later d p e size h =
      let g = gives (seek n d later) _ (p, e) h in
      let q : Spot = g.0 in
      let k = seek_given n d some later q g.1 in
      let z : (q.place ≡ p) × (taken n d q ≡ e) = given_pair g.2 in
      let a = z.0 in
      let b = z.1 in
      let one : (r : Place) → on_disk n r ≡ true → 0 < held n (q.place ∷ []) (number_of n r) → r ≡ q.place =
      λ r on l.
      by_test (eqb (number_of n q.place) (number_of n r)) (λ m. same_place n r q.place on k.on (sym (eqb-true _ _ m)))
      (λ m. let u = held_else n (number_of n r) q.place [] (eqb-false _ _ m) in let v = held_none n (number_of n r) in absurd (omega arith)) in
      let t : Taking n d (q.place ∷ []) (taken n d q) =
      record {
        remap = taken_remap n some few d size q k.on k.dir;
        takes = Every.more (record { on = k.on; track0 = k.track0; track17 = k.track17 }) Every.none;
        once = λ r on.
            let v = held_none n (number_of n r) in
            by_test (eqb (number_of n q.place) (number_of n r))
            (λ m. let u = held_here n (number_of n r) q.place [] (eqb-true _ _ m) in omega arith)
            (λ m. let u = held_else n (number_of n r) q.place [] (eqb-false _ _ m) in omega arith);
        was = λ r on l. rw (one r on l) k.was;
        now = λ r on l. rw (one r on l) (taken_same n some few d size q k.on);
        other = λ r on l.
            taken_else n some few d size q k.on r
            (λ m. let u = held_here n (number_of n r) q.place [] (sym m) in omega arith);
      } in
      (rw (a, b) at t, rw a at k.sector0)

  -- some data sectors
  pub take_data_lem : (m : ℕ) (d : List ℕ) (ps : List Place) (e : List ℕ) → length d ≡ 256 * sectors n → take_data n m d ≡ Ok (ps, e)
      → Taking n d ps e × (length ps ≡ m)
  unfolding take_data
  take_data_lem zero d ps e size h =
      let z : ([] ≡ ps) × (d ≡ e) = given_pair h in
      let a = z.0 in
      let b = z.1 in
      (rw (← b, ← a) (taking_none n d), rw (← a) refl)
  take_data_lem (suc m) d ps e size h =
      let g = gives (take_one n false d) _ (ps, e) h in
      let r : Place × List ℕ = g.0 in
      let o = (take_one_lem false d r.0 r.1 size g.1).0 in
      let k = gives (take_data n m r.1) _ (ps, e) g.2 in
      let s : List Place × List ℕ = k.0 in
      let i = take_data_lem m r.1 s.0 s.1 (o.remap.size ∙ size) k.1 in
      let z : (r.0 ∷ s.0 ≡ ps) × (s.1 ≡ e) = given_pair k.2 in
      let a = z.0 in
      let b = z.1 in
      let l = i.1 in
      (rw (a, b) at (taking_more o i.0), rw (← a) (ap suc l))

  -- what is known of parts that were taken
  abbrev TookParts : List ℕ → (k m : ℕ) → Bool → List Part → List ℕ → Type 0
  TookParts d k m later gs e = Taking n d (sectors_in gs) e × Shaped m later gs × (length gs ≡ k)

  as_given : (d : List ℕ) (k m : ℕ) (later : Bool) (gs hs : List Part) (e f : List ℕ) → hs ≡ gs → f ≡ e → TookParts d k m later hs f → TookParts d k m later gs e
  as_given d k m later gs hs e f p q t = rw (← p, ← q) t

  -- lists, each with its data
  pub take_parts_lem : (k m : ℕ) (later : Bool) (d : List ℕ) (gs : List Part) (e : List ℕ) → length d ≡ 256 * sectors n → m ≤ 122 * k
      → take_parts n k m later d ≡ Ok (gs, e) → Taking n d (sectors_in gs) e × Shaped m later gs × (length gs ≡ k)
  unfolding take_parts flat_map
  take_parts_lem zero m later d gs e size l h =
      let z : ([] ≡ gs) × (d ≡ e) = given_pair h in
      (rw (← z.1, ← z.0) (taking_none n d), rw (← z.0) (omega arith), rw (← z.0) refl)
  take_parts_lem (suc k) m later d gs e size l h =
      let g = gives (take_one n later d) _ (gs, e) h in
      let r : Place × List ℕ = g.0 in
      let o = take_one_lem later d r.0 r.1 size g.1 in
      let size₁ : length r.1 ≡ 256 * sectors n = o.0.remap.size ∙ size in
      let b = gives (take_data n (min max_pairs m) r.1) _ (gs, e) g.2 in
      let s : List Place × List ℕ = b.0 in
      let i = take_data_lem (min max_pairs m) r.1 s.0 s.1 size₁ b.1 in
      let size₂ : length s.1 ≡ 256 * sectors n = i.0.remap.size ∙ size₁ in
      let c = gives (take_parts n k (m - max_pairs) true s.1) _ (gs, e) b.2 in
      let t : List Part × List ℕ = c.0 in
      let j = take_parts_lem k (m - max_pairs) true s.1 t.0 t.1 size₂ (omega arith) c.1 in
      let one : Part = record { list = r.0; pairs = s.0 } in
      let z : (one ∷ t.0 ≡ gs) × (t.1 ≡ e) = given_pair c.2 in
      let a = j.2 in
      as_given d (suc k) m later gs (one ∷ t.0) e t.1 z.0 z.1
      (taking_more (taking_more o.0 i.0) j.0, (i.1, o.1, j.1), ap suc a)

  -- ---- the sectors of a save: lists first, then data
  -- each is held as often in either order
  pub in_order : (gs : List Part) (k : ℕ) → held n (map (λ (g : Part). g.list) gs ++ data_of gs) k ≡ held n (sectors_in gs) k
  unfolding flat_map
  in_order [] k = refl
  in_order (g ∷ gs) k =
      let ls : List Place = map (λ (h : Part). h.list) gs in
      let i = in_order gs k in
      let a = held_append n k ls (data_of gs) in
      let b = held_append n k (g.list ∷ ls) (g.pairs ++ data_of gs) in
      let c = held_append n k g.pairs (data_of gs) in
      let e = held_append n k (g.list ∷ g.pairs) (sectors_in gs) in
      by_test (eqb (number_of n g.list) k)
      (λ q.
      let x = held_here n k g.list ls (eqb-true _ _ q) in
      let y = held_here n k g.list g.pairs (eqb-true _ _ q) in
      omega arith)
      (λ q.
      let x = held_else n k g.list ls (eqb-false _ _ q) in
      let y = held_else n k g.list g.pairs (eqb-false _ _ q) in
      omega arith)

  -- .. and may be taken
  pub order_takes : (gs : List Part) → Every (Taker n) (sectors_in gs) → Every (Taker n) (map (λ (g : Part). g.list) gs) × Every (Taker n) (data_of gs)
  unfolding flat_map
  order_takes [] e = (Every.none, Every.none)
  order_takes (g ∷ gs) (Every.more t e) =
      let s = split_every g.pairs e in
      let i = order_takes gs s.1 in
      (Every.more t i.0, every_append s.0 i.1)

  pub take_for_lem : (k : ℕ) (d : List ℕ) (gs : List Part) (e : List ℕ) → length d ≡ 256 * sectors n → take_for n k d ≡ Ok (gs, e)
      → Taking n d (sectors_in gs) e × Shaped (data_for k) false gs × (length gs ≡ lists_for (data_for k))
  unfolding take_for
  take_for_lem k d gs e size h = take_parts_lem (lists_for (data_for k)) (data_for k) false d gs e size (omega arith) h
