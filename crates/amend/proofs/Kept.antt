-- A clean disk: its pages and the sectors of its lines are apart from each other, from the VTOC, and from what is free in the map. A disk that changed
-- in one line, in the map and in sectors that were free is read so. Assumes nothing.
use mathlib.Core.Path.{◌≡◌, refl, sym, ap, ◌∙◌}
use mathlib.Core.Bool.{true, false}
use mathlib.Core.Logic.{◌⊎◌, inl, inr}
use mathlib.Core.List.{List, [], ◌∷◌, ◌++◌, map, flat_map}
use mathlib.Core.Option.{Option}
use Prim.Native.Nat.{ℕ, ◌+◌, ◌<◌, ◌≤◌}
use native.Mathlib.Omega.{arith}
use lib.ListN.{length}
use Rattle.lists.specs.Every.{Every}
use Rattle.lists.specs.Select.{among, Apart}
use Rattle.lists.proofs.Split.{by_test}
use Rattle.lists.proofs.Among.{not_among}
use Rattle.lists.proofs.Chunks.{every_append, flat_map_append, split_every}
use Rattle.lists.proofs.Every.{every_imp}
use Rattle.std.specs.Prelude.{Ok}
use Rattle.outcome.specs.Outcome.{each}
use Rattle.outcome.proofs.Outcome.{each_all}
use Rattle.disk.specs.declared.Place.{Place}
use Rattle.disk.specs.Disk.{number_of, on_disk, byte_of}
use Rattle.disk.specs.Vtoc.{vtoc}
use Rattle.disk.proofs.Chain.{walk_found}
use Rattle.catalog.specs.Catalog.{live, entry_from, sound_page, next_page, pages}
use Rattle.catalog.proofs.Order.{pages_given}
use Rattle.files.specs.Contents.{File}
use Rattle.holders.specs.Holders.{held, free}
use Rattle.holders.proofs.Counting.{held_none, held_here, held_append, held_among}
use Rattle.holders.proofs.Clean.{On, Clear, each_on}
use Rattle.holders.proofs.Refusals.{sectors_on, pages_on, joined_on}
use Rattle.amend.specs.Lines.{starts, line_at}
use Rattle.amend.proofs.Frame.{Alike}
use Rattle.amend.proofs.Lines.{line_holds, starts_of}
use Rattle.amend.proofs.Reading.{Reading}
use Rattle.amend.proofs.Change.{Plain, PageStays, each_split, each_join, two_runs, line_stays, page_stays, pages_stay}

-- of each list that was joined
pub unjoin : {P : Place → Type 0} (us : List (List Place)) → Every P (flat_map (λ t. t) us) → Every (Every P) us
unfolding flat_map
unjoin [] e = Every.none
unjoin (u ∷ us) e = let s = split_every u e in Every.more s.0 (unjoin us s.1)

-- a sector of a line, or a page
pub record Sector (n : ℕ) (d : List ℕ) (q : Place) : Type 0 where
  pub on : on_disk n q ≡ true
  pub not_vtoc : number_of n q ≡ number_of n vtoc → ⊥
  pub used : free n d q ≡ false

module _ (n : ℕ) (z : 0 < n) (d : List ℕ) (r : Reading n d) where
  -- how often a sector is held: by the VTOC, by a page, by a line
  pub held_by : (k : ℕ) → held n (vtoc ∷ r.ps ++ flat_map (λ t. t) r.us) k ≡ held n (vtoc ∷ []) k + held n r.ps k + held n (flat_map (λ t. t) r.us) k
  held_by k =
      let a = held_append n k (vtoc ∷ r.ps) (flat_map (λ t. t) r.us) in
      let b = held_append n k (vtoc ∷ []) r.ps in
      omega arith

  vtoc_held : held n (vtoc ∷ []) (number_of n vtoc) ≡ 1
  vtoc_held = let a = held_here n (number_of n vtoc) vtoc [] refl in let b = held_none n (number_of n vtoc) in omega arith

  -- what lines hold is on the disk
  hold_on : (x : ℕ) (u : List Place) → line_holds n d x ≡ Ok u → On n u
  unfolding line_holds
  hold_on x u h =
      by_test (live (entry_from d x)) (λ q. sectors_on n d (entry_from d x) u (rw q at h))
      (λ q. let y : Ok [] ≡ Ok u = rw q at h in let w : u ≡ [] = cc in rw w Every.none)

  pub lines_on_lem : On n (flat_map (λ t. t) r.us)
  lines_on_lem = joined_on n d (each_all (line_holds n d) (On n) hold_on (starts n r.ps) r.us r.holds)

  -- a place that a line or a page holds
  sector_at_lem : (q : Place) → on_disk n q ≡ true → 0 < held n r.ps (number_of n q) + held n (flat_map (λ t. t) r.us) (number_of n q) → Sector n d q
  sector_at_lem q on h =
      let s = held_by (number_of n q) in
      record {
        on = on;
        not_vtoc = λ e.
            let v : held n (vtoc ∷ []) (number_of n q) ≡ 1 = rw e vtoc_held in
            let o = r.clear.once q on in
            omega arith;
        used = r.clear.used q on (omega arith);
      }

  pub line_sectors_lem : Every (Every (Sector n d)) r.us
  line_sectors_lem =
      unjoin r.us
      (each_on n {P = Sector n d} lines_on_lem
      (λ q on m. sector_at_lem q on (let h = held_among n (number_of n q) (flat_map (λ t. t) r.us) m in omega arith)))

  pub page_sectors : Every (Sector n d) r.ps
  page_sectors =
      each_on n {P = Sector n d} (pages_on n d r.ps r.paged)
      (λ q on m. sector_at_lem q on (let h = held_among n (number_of n q) r.ps m in omega arith))

  -- .. and stands in the list
  pub page_sectors_in : Every (λ (q : Place). Sector n d q × (among (number_of n q) (map (number_of n) r.ps) ≡ true)) r.ps
  page_sectors_in =
      each_on n {P = λ q. Sector n d q × (among (number_of n q) (map (number_of n) r.ps) ≡ true)} (pages_on n d r.ps r.paged)
      (λ q on m. (sector_at_lem q on (let h = held_among n (number_of n q) r.ps m in omega arith), m))

  -- no line holds a page
  pub lines_pages : Every (Every (λ (q : Place). among (number_of n q) (map (number_of n) r.ps) ≡ false)) r.us
  lines_pages =
      unjoin r.us
      (each_on n {P = λ q. among (number_of n q) (map (number_of n) r.ps) ≡ false} lines_on_lem
      (λ q on m.
      not_among (number_of n q) (map (number_of n) r.ps)
      (λ k.
      let a = held_among n (number_of n q) r.ps k in
      let b = held_among n (number_of n q) (flat_map (λ t. t) r.us) m in
      let s = held_by (number_of n q) in
      let o = r.clear.once q on in
      omega arith)))

  -- the pages are apart
  pub pages_apart : Apart (map (number_of n) r.ps)
  pages_apart = (walk_found n (sound_page n d) (next_page n d) _ [] _ r.ps (pages_given n d r.ps r.paged).1).apart

-- ---- a disk e that reads as d but for one line
module _ (n : ℕ) (d e : List ℕ) (r : Reading n d) (a : List ℕ) (x : ℕ) (b : List ℕ) where
  -- what is asked of it
  pub record Changed : Type 0 where
    pub size : length e ≡ length d
    pub head : (k : ℕ) → k < 48 → byte_of n e vtoc k ≡ byte_of n d vtoc k
    pub table : (k : ℕ) → 50 ≤ k → k < 56 → byte_of n e vtoc k ≡ byte_of n d vtoc k
    pub split : starts n r.ps ≡ a ++ x ∷ b
    pub before : Every (λ (y : ℕ). entry_from e y ≡ entry_from d y) a
    pub after : Every (λ (y : ℕ). entry_from e y ≡ entry_from d y) b
    pub plain : Plain e x
    pub links : Every (λ (p : Place). (byte_of n e p 1 ≡ byte_of n d p 1) × (byte_of n e p 2 ≡ byte_of n d p 2)) r.ps
    pub alike : Every (Every (Alike n d e)) r.us

  -- the lines of d, in three parts
  pub record Parts : Type 0 where
    pub ua : List (List Place)
    pub u : List Place
    pub ub : List (List Place)
    pub la : List (Option File)
    pub l : Option File
    pub lb : List (Option File)
    pub us_is : r.us ≡ ua ++ u ∷ ub
    pub ls_is : r.ls ≡ la ++ l ∷ lb
    pub holds_a : each (line_holds n d) a ≡ Ok ua
    pub holds_x : line_holds n d x ≡ Ok u
    pub holds_b : each (line_holds n d) b ≡ Ok ub
    pub files_a : each (line_at n d) a ≡ Ok la
    pub files_x : line_at n d x ≡ Ok l
    pub files_b : each (line_at n d) b ≡ Ok lb

  pub parts_of : starts n r.ps ≡ a ++ x ∷ b → Parts
  parts_of s =
      let h = each_split (line_holds n d) a x b r.us (ap (each (line_holds n d)) (sym s) ∙ r.holds) in
      let f = each_split (line_at n d) a x b r.ls (ap (each (line_at n d)) (sym s) ∙ r.files) in
      record {
        ua = h.0;
        u = h.1;
        ub = h.2;
        la = f.0;
        l = f.1;
        lb = f.2;
        us_is = h.6;
        ls_is = f.6;
        holds_a = h.3;
        holds_x = h.4;
        holds_b = h.5;
        files_a = f.3;
        files_x = f.4;
        files_b = f.5;
      }

  module _ (c : Changed) (p : Parts) where
    -- each page stays
    pages_stays : (qs : List Place) → Every (λ (y : ℕ). (entry_from e y ≡ entry_from d y) ⊎ Plain e y) (starts n qs)
        → Every (λ (p : Place). (byte_of n e p 1 ≡ byte_of n d p 1) × (byte_of n e p 2 ≡ byte_of n d p 2)) qs → Every (PageStays n d e) qs
    unfolding starts flat_map
    pages_stays [] h Every.none = Every.none
    pages_stays (q ∷ qs) h (Every.more l ls) =
        let s = split_every (starts_of n q) h in
        Every.more (page_stays n d e q l.0 l.1 s.0) (pages_stays qs s.1 ls)

    pub changed_pages : pages n e ≡ Ok r.ps
    changed_pages =
        let t : Every (λ (y : ℕ). (entry_from e y ≡ entry_from d y) ⊎ Plain e y) (a ++ x ∷ b) =
        every_append (every_imp (λ y q. inl q) c.before) (Every.more (inr c.plain) (every_imp (λ y q. inl q) c.after)) in
        pages_stay n d e r.ps c.size c.head c.table (pages_stays r.ps (rw c.split t) c.links) r.paged

    -- the other lines read as before
    parts_alike : Every (Every (Alike n d e)) p.ua × Every (Every (Alike n d e)) (p.u ∷ p.ub)
    parts_alike = split_every p.ua (rw p.us_is at c.alike)

    tail_alike : {v : List Place} {vs : List (List Place)} → Every (Every (Alike n d e)) (v ∷ vs) → Every (Every (Alike n d e)) vs
    tail_alike (Every.more h t) = t

    runs : (u' : List Place) (l' : Option File) → line_holds n e x ≡ Ok u' → line_at n e x ≡ Ok l'
        → (each (line_holds n e) (starts n r.ps) ≡ Ok (p.ua ++ u' ∷ p.ub)) × (each (line_at n e) (starts n r.ps) ≡ Ok (p.la ++ l' ∷ p.lb))
    runs u' l' h f =
        let ra = two_runs (line_holds n d) (line_holds n e) (line_at n d) (line_at n e) (line_stays n d e) p.ua p.la c.before parts_alike.0 p.holds_a p.files_a in
        let rb = two_runs (line_holds n d) (line_holds n e) (line_at n d) (line_at n e) (line_stays n d e) p.ub p.lb c.after (tail_alike parts_alike.1) p.holds_b p.files_b in (
          ap (each (line_holds n e)) c.split ∙ each_join (line_holds n e) a x b p.ua u' p.ub ra.0 h rb.0,
          ap (each (line_at n e)) c.split ∙ each_join (line_at n e) a x b p.la l' p.lb ra.1 f rb.1,
        )

    -- so e is a clean disk with that line changed
    pub changed_reading : (u' : List Place) (l' : Option File) → line_holds n e x ≡ Ok u' → line_at n e x ≡ Ok l'
        → Clear n e (vtoc ∷ r.ps ++ flat_map (λ t. t) (p.ua ++ u' ∷ p.ub))
        → (t : Reading n e) × (t.ls ≡ p.la ++ l' ∷ p.lb)
    changed_reading u' l' h f k =
        let s = runs u' l' h f in (
          record {
            ps = r.ps;
            us = p.ua ++ u' ∷ p.ub;
            ls = p.la ++ l' ∷ p.lb;
            paged = changed_pages;
            holds = s.0;
            files = s.1;
            clear = k;
          },
          refl,
        )

    -- how often a sector is held then
    pub changed_held : (u' : List Place) (k : ℕ)
        → held n (vtoc ∷ r.ps ++ flat_map (λ t. t) (p.ua ++ u' ∷ p.ub)) k + held n p.u k
        ≡ held n (vtoc ∷ r.ps ++ flat_map (λ t. t) r.us) k + held n u' k
    unfolding flat_map
    changed_held u' k =
        let A : List Place = flat_map (λ t. t) p.ua in
        let B : List Place = flat_map (λ t. t) p.ub in
        let e₁ : flat_map (λ t. t) (p.ua ++ u' ∷ p.ub) ≡ A ++ (u' ++ B) = flat_map_append (λ t. t) p.ua (u' ∷ p.ub) in
        let e₂ : flat_map (λ t. t) r.us ≡ A ++ (p.u ++ B) = ap (flat_map (λ t. t)) p.us_is ∙ flat_map_append (λ t. t) p.ua (p.u ∷ p.ub) in
        let h : List Place = vtoc ∷ r.ps in
        let a₁ = held_append n k h (A ++ (u' ++ B)) in
        let a₂ = held_append n k h (A ++ (p.u ++ B)) in
        let b₁ = held_append n k A (u' ++ B) in
        let b₂ = held_append n k A (p.u ++ B) in
        let c₁ = held_append n k u' B in
        let c₂ = held_append n k p.u B in
        rw (e₁, e₂) (omega arith)
