-- Two disks that differ in the data sectors of one side's files alone: where the one is clean the other is, line by line the same but for these bytes.
-- Assumes nothing.
use mathlib.Core.Path.{◌≡◌, refl, sym, ap, subst, ◌∙◌}
use mathlib.Core.Bool.{true, false, cond}
use mathlib.Core.Logic.{inl}
use mathlib.Core.List.{List, [], ◌∷◌, map, flat_map}
use mathlib.Core.Option.{Option, none, some}
use Prim.Native.Nat.{ℕ, ◌+◌, ◌-◌, ◌/◌, ◌<◌}
use native.Mathlib.Omega.{arith}
use lib.ListN.{length, get_or}
use Rattle.lists.specs.Every.{Every}
use Rattle.lists.specs.Select.{among}
use Rattle.lists.proofs.Split.{by_test}
use Rattle.lists.proofs.Among.{not_among}
use Rattle.std.specs.Prelude.{Ok}
use Rattle.outcome.specs.Outcome.{each}
use Rattle.outcome.proofs.Outcome.{each_cons, each_also, each_same}
use Rattle.disk.specs.declared.Place.{Place}
use Rattle.disk.specs.Disk.{start, number_of, on_disk}
use Rattle.disk.specs.Vtoc.{vtoc}
use Rattle.disk.proofs.Places.{on_track, is_on}
use Rattle.catalog.specs.Catalog.{Entry, live, entry_from, pages}
use Rattle.files.specs.Contents.{File, file_of, lists, pairs_of}
use Rattle.files.proofs.Order.{file_with, file_gives}
use Rattle.holders.specs.Holders.{sectors_of, held}
use Rattle.holders.proofs.Counting.{held_here, held_append, held_among}
use Rattle.holders.proofs.Clean.{each_on}
use Rattle.holders.proofs.Refusals.{sectors_given, sectors_give, pages_on}
use Rattle.amend.specs.Lines.{starts, in_use, line_at}
use Rattle.amend.proofs.Puts.{byte_same, sector_ext}
use Rattle.amend.proofs.Frame.{Alike, entry_same, lists_alike, all_pairs_alike, all_with_alike, sectors_alike}
use Rattle.amend.proofs.Lines.{Within, line_holds, page_within, starts_each}
use Rattle.amend.proofs.Reading.{Reading, given_same}
use Rattle.amend.proofs.Change.{page_stays, pages_stay}
use Rattle.amend.proofs.Kept.{unjoin, lines_on_lem}
use Rattle.lists.proofs.Every.{every_flat_map, every_imp, parted}
use Rattle.amend.proofs.Saves.{free_same}
use Rattle.sides.specs.declared.Side.{Side}
use Rattle.sides.specs.Sides.{of_side}
use Rattle.sides.proofs.Data.{rest_at, Divided, divide}

module _ (n : ℕ) (z : 0 < n) (d e : List ℕ) (r : Reading n d) (s : Side) (size : length e ≡ length d) where
  module _ (outside : (i : ℕ) → among (i / 256) (map (number_of n) (flat_map (λ t. t) (divide n d s (starts n r.ps) r.us r.holds).data')) ≡ false → get_or e i 0 ≡ get_or d i 0) where
    abbrev D : Divided n d s (starts n r.ps) r.us
    D = divide n d s (starts n r.ps) r.us r.holds

    abbrev ps' : List Place
    ps' = flat_map (λ t. t) D.data'

    -- a sector that is held otherwise is not one of them
    pub apart : (q : Place) → on_disk n q ≡ true → 0 < held n (vtoc ∷ r.ps) (number_of n q) + held n (flat_map (λ t. t) D.rest) (number_of n q)
        → among (number_of n q) (map (number_of n) ps') ≡ false
    apart q on h =
        not_among (number_of n q) (map (number_of n) ps')
        (λ m.
        let a = held_among n (number_of n q) ps' m in
        let b = D.sum (number_of n q) in
        let c = held_append n (number_of n q) (vtoc ∷ r.ps) (flat_map (λ t. t) r.us) in
        let o = r.clear.once q on in
        omega arith)

    -- .. so it is the same on both
    stays : (q : Place) → among (number_of n q) (map (number_of n) ps') ≡ false → Alike n d e q
    stays q a =
        sector_ext n d e q size
        (λ k h.
        let w : (start n q + k) / 256 ≡ number_of n q = omega arith in
        outside (start n q + k) (ap (λ (j : ℕ). among j (map (number_of n) ps')) w ∙ a))

    pub vtoc_apart : among (number_of n vtoc) (map (number_of n) ps') ≡ false
    vtoc_apart = apart vtoc (is_on n 17 0 (omega arith) z) (let h = held_here n (number_of n vtoc) vtoc r.ps refl in omega arith)

    pub vtoc_alike : Alike n d e vtoc
    vtoc_alike = stays vtoc vtoc_apart

    page_alike : Every (Alike n d e) r.ps
    page_alike =
        each_on n {P = Alike n d e} (pages_on n d r.ps r.paged)
        (λ q on m.
        stays q
        (apart q on
        (let h = held_among n (number_of n q) r.ps m in
        let c = held_append n (number_of n q) (vtoc ∷ []) r.ps in
        omega arith)))

    rest_alike : Every (Every (Alike n d e)) D.rest
    rest_alike =
        unjoin D.rest
        (each_on n {P = Alike n d e} (every_flat_map (λ t. t) (D.part (unjoin r.us (lines_on_lem n z d r))))
        (λ q on m. stays q (apart q on (let h = held_among n (number_of n q) (flat_map (λ t. t) D.rest) m in omega arith))))

    -- ---- the lines
    line_entry : (p : Place) (y : ℕ) → Alike n d e p → Within n p y → entry_from e y ≡ entry_from d y
    line_entry p y a w =
        entry_same d e size y
        (λ k h.
        let u = w.low in
        let v = w.high in
        let j : ℕ = y + k - start n p in
        let q : y + k ≡ start n p + j = omega arith in
        ap (λ (i : ℕ). get_or e i 0) q ∙ byte_same n d e p a j (omega arith) ∙ ap (λ (i : ℕ). get_or d i 0) (sym q))

    pub entries_same : Every (λ (y : ℕ). entry_from e y ≡ entry_from d y) (starts n r.ps)
    entries_same = every_imp (λ y t. line_entry t.0 y t.1 t.2) (starts_each n d page_alike)

    pub pages_same : pages n e ≡ Ok r.ps
    pages_same =
        pages_stay n d e r.ps size (λ k h. byte_same n d e vtoc vtoc_alike k (omega arith)) (λ k h l. byte_same n d e vtoc vtoc_alike k (omega arith))
        (every_imp
        (λ p a.
        page_stays n d e p (byte_same n d e p a 1 (omega arith)) (byte_same n d e p a 2 (omega arith))
        (every_imp (λ y w. inl (line_entry p y a w)) (page_within n p)))
        page_alike)
        r.paged

    -- ---- what they hold
    holds_line : (y : ℕ) (u q : List Place) → entry_from e y ≡ entry_from d y → Every (Alike n d e) q → line_holds n d y ≡ Ok u → rest_at n d s y ≡ Ok q
        → line_holds n e y ≡ line_holds n d y
    unfolding rest_at line_holds
    holds_line y u q same a h k = go (entry_from d y) (entry_from e y) same h k
      where
        go : (x w : Entry) → w ≡ x → cond (live x) (sectors_of n d x) (Ok []) ≡ Ok u
            → cond (of_side s x) (lists n d x) (cond (live x) (sectors_of n d x) (Ok [])) ≡ Ok q
            → cond (live w) (sectors_of n e w) (Ok []) ≡ cond (live x) (sectors_of n d x) (Ok [])
        go x w p v t =
            rw p
            (by_test (live x)
            (λ l.
            let b : sectors_of n d x ≡ Ok u = rw l at v in
            rw l
            (by_test (of_side s x)
            (λ c.
            let g = sectors_given n d x u b in
            let i : lists n d x ≡ Ok q = rw c at t in
            let f : Every (Alike n d e) g.0 = subst (Every (Alike n d e)) (given_same i g.1) a in
            sectors_give n e x g.0 (lists_alike n d e x g.0 f g.1) (rw (all_pairs_alike n d e f) g.2) ∙ ap Ok (all_with_alike n d e f ∙ sym g.3) ∙ sym b)
            (λ c.
            let j : cond (live x) (sectors_of n d x) (Ok []) ≡ Ok q = rw c at t in
            let i : sectors_of n d x ≡ Ok q = rw l at j in
            sectors_alike n d e x q a i ∙ sym i)))
            (λ l. rw l refl))

    holds_lines : {ys : List ℕ} (us qs : List (List Place)) → Every (λ (y : ℕ). entry_from e y ≡ entry_from d y) ys → Every (Every (Alike n d e)) qs
        → each (line_holds n d) ys ≡ Ok us → each (rest_at n d s) ys ≡ Ok qs → Every (λ (y : ℕ). line_holds n e y ≡ line_holds n d y) ys
    holds_lines us qs Every.none a h k = Every.none
    holds_lines us qs (Every.more {x} {xs} p ps) a h k =
        let c = each_cons (line_holds n d) x xs us h in
        let f = each_cons (rest_at n d s) x xs qs k in
        let v = parted (subst (Every (Every (Alike n d e))) f.4 a) in
        Every.more (holds_line x c.0 f.0 p v.0 c.2 f.2) (holds_lines c.1 f.1 ps v.1 c.3 f.3)

    pub holds_same : Every (λ (y : ℕ). line_holds n e y ≡ line_holds n d y) (starts n r.ps)
    holds_same = holds_lines r.us D.rest entries_same rest_alike r.holds D.rest_is

    file_one : (y : ℕ) (f : File) → in_use e y ≡ true → file_of n e (entry_from e y) ≡ Ok f → line_at n e y ≡ Ok (some f)
    unfolding line_at
    file_one y f c h = rw (c, h) refl

    -- a line that holds its sectors has a file
    file_too : (y : ℕ) (u : List Place) → line_holds n e y ≡ Ok u → (l : Option File) × (line_at n e y ≡ Ok l)
    unfolding line_holds line_at
    file_too y u h =
        by_test (in_use e y)
        (λ c.
        let g = sectors_given n e (entry_from e y) u (rw c at h) in
        (some (file_with n e (entry_from e y) (flat_map (pairs_of n e) g.0)), file_one y (file_with n e (entry_from e y) (flat_map (pairs_of n e) g.0)) c (file_gives n e (entry_from e y) g.0 g.1 g.2)))
        (λ c. (none, rw c refl))

    -- the other disk is clean too
    pub twin : (t : Reading n e) × (t.ps ≡ r.ps) × (t.us ≡ r.us)
    twin =
        let h : each (line_holds n e) (starts n r.ps) ≡ Ok r.us = each_same (line_holds n e) (line_holds n d) holds_same ∙ r.holds in
        let f = each_also (line_holds n e) (line_at n e) file_too (starts n r.ps) r.us h in (
          record {
            ps = r.ps;
            us = r.us;
            ls = f.0;
            paged = pages_same;
            holds = h;
            files = f.1;
            clear =
                record {
                  once = r.clear.once;
                  used = λ q on k. free_same n d e vtoc_alike q (on_track n q on) ∙ r.clear.used q on k;
                };
          },
          refl,
          refl,
        )
