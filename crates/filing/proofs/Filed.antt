-- What `write_file` writes is what a save writes: its lists and its data sectors, each in its place. Assumes nothing.
use mathlib.Core.Path.{◌≡◌, refl, sym, ap, ◌∙◌}
use mathlib.Core.Bool.{Bool, true, false}
use mathlib.Core.List.{List, [], ◌∷◌, ◌++◌, flat_map, append-nil}
use Prim.Native.Nat.{ℕ, zero, suc, ◌+◌, ◌*◌, ◌-◌, ◌/◌, ◌<◌, ◌≤◌}
use native.Mathlib.Nat.{zero-add}
use native.Mathlib.Omega.{arith}
use lib.ListN.{length, get_or, take, drop, length-append, length-take, get_or-append, get_or-eq_default}
use lib.Seq.{get_or-append-add, get_or-take, get_or-drop, ext_get_or, drop-drop}
use lib.Dec.{leb}
use borrow.Author.Tests.{le-leb}
use Rattle.lists.specs.Every.{Every}
use Rattle.lists.specs.Fill.{padded, put, placed}
use Rattle.lists.proofs.Split.{by_lt, by_test}
use Rattle.lists.proofs.Laws.{length_padded, get_or_padded}
use Rattle.lists.proofs.Chunks.{split_every, every_append, flat_map_append}
use Rattle.lists.proofs.Placed.{length_placed}
use Rattle.lists.proofs.Put.{placed_put}
use Rattle.disk.specs.declared.Place.{Place}
use Rattle.disk.specs.Disk.{place, start, on_disk, sectors}
use Rattle.files.specs.Contents.{place_bytes}
use Rattle.files.proofs.PairCalls.{length_two}
use Rattle.records.specs.Records.{file_record}
use Rattle.amend.specs.Save.{Part, Write, data_for, lists_for, first_list, sectors_in, data_of, list_sector, list_writes, data_writes, written, file_writes}
use Rattle.amend.proofs.Puts.{sector_fits}
use Rattle.amend.proofs.Takes.{Shaped, shaped_data}
use Rattle.amend.proofs.Writes.{length_list, list_front}
use Rattle.amend.proofs.Pairs.{track_at, sector_at_lem}
use Rattle.filing.specs.Filing.{place_in, list_in, with_lists, data_in, with_data, filed}

-- ---- lengths
module _ (P : List ℕ) where
  length_lists : (j : ℕ) (d : List ℕ) → length (with_lists P j d) ≡ length d
  unfolding with_lists
  length_lists zero d = refl
  length_lists (suc j) d = length_placed _ _ (with_lists P j d) ∙ length_lists j d

  length_data : (s : List ℕ) (k : ℕ) (d : List ℕ) → length (with_data P s k d) ≡ length d
  unfolding with_data
  length_data s zero d = refl
  length_data s (suc k) d = length_placed _ _ (with_data P s k d) ∙ length_data s k d

-- the disk stays as long as it was
pub filed_long : (P : List ℕ) (address : ℕ) (bytes d : List ℕ) → length (filed P address bytes d) ≡ length d
unfolding filed
filed_long P address bytes d =
    by_test (leb (length bytes) 32768)
    (λ e. rw e (length_data P _ (data_for (length bytes)) _ ∙ length_lists P (lists_for (data_for (length bytes))) d))
    (λ e. rw e refl)

-- ---- parts whose sectors are all on the disk, m data sectors in lists of 122
record Fit (m : ℕ) (gs : List Part) : Type 0 where
  pub later : Bool
  pub shape : Shaped m later gs
  pub count : length gs ≡ lists_for m
  pub on : Every (λ (p : Place). on_disk 16 p ≡ true) (sectors_in gs)

-- the first list
first_on : (g : Part) (gs : List Part) → Every (λ (p : Place). on_disk 16 p ≡ true) (sectors_in (g ∷ gs)) → on_disk 16 g.list ≡ true
unfolding flat_map
first_on g gs (Every.more h e) = h

-- all data
data_on : (gs : List Part) → Every (λ (p : Place). on_disk 16 p ≡ true) (sectors_in gs) → Every (λ (p : Place). on_disk 16 p ≡ true) (data_of gs)
unfolding flat_map
data_on [] e = Every.none
data_on (g ∷ gs) (Every.more h e) = let s = split_every g.pairs e in every_append s.0 (data_on gs s.1)

-- a list has at most 122 pairs, and 122 where another follows
pairs_few : (m : ℕ) (g : Part) (gs : List Part) → Fit m (g ∷ gs) → length g.pairs ≤ 122
pairs_few m g gs f = omega (arith, f.shape.0)

pairs_full : (m : ℕ) (g h : Part) (gs : List Part) → Fit m (g ∷ h ∷ gs) → length g.pairs ≡ 122
pairs_full m g h gs f = omega (arith, f.shape.0, f.count)

some_full : (m : ℕ) (g : Part) (gs : List Part) → Fit m (g ∷ gs) → 0 < length (data_of gs) → length g.pairs ≡ 122
unfolding flat_map
some_full m g [] f h = absurd (omega arith)
some_full m g (g' ∷ gs) f h = pairs_full m g g' gs f

-- what holds of all parts holds of those behind the first
fit_tail : (m : ℕ) (g : Part) (gs : List Part) → Fit m (g ∷ gs) → Fit (m - 122) gs
unfolding flat_map
fit_tail m g gs f =
    record {
      later = true;
      shape = f.shape.2;
      count = omega (arith, f.count);
      on = (split_every (g.list ∷ g.pairs) f.on).1;
    }

-- the places from byte 246 * j on are those of gs
record Behind (P : List ℕ) (j : ℕ) (gs : List Part) : Type 0 where
  pub is : (i : ℕ) → get_or P (246 * j + i) 0 ≡ get_or (flat_map place_bytes (sectors_in gs)) i 0

module _ (P : List ℕ) where
  -- place i of them
  behind_place : (j : ℕ) (gs : List Part) → Behind P j gs → (i k : ℕ) → k ≡ 123 * j + i → place_in P k ≡ get_or (sectors_in gs) i (place 0 0)
  behind_place j gs b i k e =
      let x : 2 * k ≡ 246 * j + 2 * i = omega arith in
      let y : 2 * k + 1 ≡ 246 * j + (2 * i + 1) = omega arith in
      let t : get_or P (2 * k) 0 ≡ (get_or (sectors_in gs) i (place 0 0)).track.0 = ap (λ (n : ℕ). get_or P n 0) x ∙ b.is (2 * i) ∙ track_at (sectors_in gs) i in
      let s : get_or P (2 * k + 1) 0 ≡ (get_or (sectors_in gs) i (place 0 0)).sector.0 = ap (λ (n : ℕ). get_or P n 0) y ∙ b.is (2 * i + 1) ∙ sector_at_lem (sectors_in gs) i in
      λ a. place (t a) (s a)

  -- byte 2 + i of a list's places is byte i of its pairs
  behind_pairs : (m j : ℕ) (g : Part) (gs : List Part) → Fit m (g ∷ gs) → Behind P j (g ∷ gs) → (i : ℕ) → i < 244
      → get_or P (246 * j + 2 + i) 0 ≡ get_or (flat_map place_bytes g.pairs) i 0
  unfolding flat_map
  behind_pairs m j g [] f b i h =
      let e : 246 * j + 2 + i ≡ 246 * j + suc (suc i) = omega arith in
      rw e (b.is (suc (suc i)) ∙ rw (append-nil g.pairs) refl)
  behind_pairs m j g (g' ∷ gs) f b i h =
      let e : 246 * j + 2 + i ≡ 246 * j + suc (suc i) = omega arith in
      let rest : List Place = sectors_in (g' ∷ gs) in
      let l = length_two g.pairs in
      let l' = pairs_full m g g' gs f in
      rw e
      (b.is (suc (suc i)) ∙ ap (λ (t : List ℕ). get_or t i 0) (flat_map_append place_bytes g.pairs rest)
      ∙ get_or-append (flat_map place_bytes g.pairs) (flat_map place_bytes rest) 0 i (omega arith))

  -- behind a list and its pairs stand the next parts
  behind_next : (m j : ℕ) (g : Part) (gs : List Part) → Fit m (g ∷ gs) → Behind P j (g ∷ gs) → Behind P (suc j) gs
  unfolding flat_map
  behind_next m j g [] f b =
      record {
        is = λ i.
            let e : 246 * suc j + i ≡ 246 * j + (246 + i) = omega arith in
            let here : List Place = sectors_in (g ∷ []) in
            let l = length_two here in
            let n = length-append (g.list ∷ g.pairs) [] in
            rw e (b.is (246 + i) ∙ get_or-eq_default (flat_map place_bytes here) 0 {n = 246 + i} (omega (arith, pairs_few m g [] f)));
      }
  behind_next m j g (g' ∷ gs) f b =
      record {
        is = λ i.
            let rest : List Place = sectors_in (g' ∷ gs) in
            let here : List ℕ = flat_map place_bytes (g.list ∷ g.pairs) in
            let l : length here ≡ 246 = length_two (g.list ∷ g.pairs) ∙ omega (arith, pairs_full m g g' gs f) in
            let e : 246 * suc j + i ≡ 246 * j + (length here + i) = omega arith in
            rw e
            (b.is (length here + i) ∙ ap (λ (t : List ℕ). get_or t (length here + i) 0) (flat_map_append place_bytes (g.list ∷ g.pairs) rest)
            ∙ get_or-append-add here (flat_map place_bytes rest) i 0);
      }

-- the first of some parts
first_of : (gs : List Part) → get_or (sectors_in gs) 0 (place 0 0) ≡ first_list gs
unfolding flat_map
first_of [] = refl
first_of (g ∷ gs) = refl

-- ---- the bytes of a list
-- equal but for zeros at the end
same_padded : (F x y : List ℕ) → length F ≡ 12 → length x ≤ 244 → length y ≤ 244 → ((i : ℕ) → i < 244 → get_or x i 0 ≡ get_or y i 0)
    → padded 256 (F ++ x) ≡ padded 256 (F ++ y)
same_padded F x y l a b h =
    let lx : length (padded 256 (F ++ x)) ≡ 256 = length_padded 256 (F ++ x) (rw length-append (omega arith)) in
    let ly : length (padded 256 (F ++ y)) ≡ 256 = length_padded 256 (F ++ y) (rw length-append (omega arith)) in
    ext_get_or 0 (padded 256 (F ++ x)) (padded 256 (F ++ y)) (lx ∙ sym ly)
    (λ i c.
    get_or_padded 256 (F ++ x) i
    ∙ by_lt i 12 (λ s. get_or-append F x 0 i (omega arith) ∙ sym (get_or-append F y 0 i (omega arith)))
    (λ s.
    let e : i ≡ length F + (i - 12) = omega arith in
    rw e (get_or-append-add F x (i - 12) 0 ∙ h (i - 12) (omega arith) ∙ sym (get_or-append-add F y (i - 12) 0)))
    ∙ sym (get_or_padded 256 (F ++ y) i))

module _ (P : List ℕ) where
  list_same : (m j : ℕ) (g : Part) (gs : List Part) → Fit m (g ∷ gs) → Behind P j (g ∷ gs) → list_in P j ≡ list_sector (first_list gs) (122 * j) g.pairs
  unfolding list_in list_sector
  list_same m j g gs f b =
      let n : place_in P (123 * (j + 1)) ≡ first_list gs = behind_place P (suc j) gs (behind_next P m j g gs f b) 0 (123 * (j + 1)) (omega arith) ∙ first_of gs in
      let x : 2 * (123 * (j + 1)) ≡ 246 * (j + 1) = omega arith in
      let t : get_or P (246 * (j + 1)) 0 ≡ (first_list gs).track.0 = ap (λ (i : ℕ). get_or P i 0) (sym x) ∙ ap (λ (p : Place). p.track.0) n in
      let s : get_or P (246 * (j + 1) + 1) 0 ≡ (first_list gs).sector.0 = ap (λ (i : ℕ). get_or P (i + 1) 0) (sym x) ∙ ap (λ (p : Place). p.sector.0) n in
      let l = length_two g.pairs in
      let few = pairs_few m g gs f in
      rw (t, s)
      (same_padded (list_front (first_list gs) (122 * j)) (take 244 (drop (246 * j + 2) P)) (flat_map place_bytes g.pairs) refl (rw length-take (omega arith)) (omega arith)
      (λ i h. get_or-take 244 (drop (246 * j + 2) P) i 0 h ∙ get_or-drop (246 * j + 2) P i 0 ∙ behind_pairs P m j g gs f b i h))

-- ---- a sector that fits
put_placed : (at : ℕ) (x d : List ℕ) → at + length x ≤ length d → put at x d ≡ placed at x d
put_placed at x d h = sym (placed_put {at = at} {x = x} {d = d} refl h).is

-- what is written first, and what behind it
written_append : (a b : List Write) (d : List ℕ) → written 16 (a ++ b) d ≡ written 16 b (written 16 a d)
unfolding written
written_append [] b d = refl
written_append (w ∷ a) b d = written_append a b (put (start 16 w.place) w.bytes d)

-- the lists behind one that is full, or none
more_lists : (m j : ℕ) (g : Part) (gs : List Part) → Fit m (g ∷ gs) → list_writes (122 * j + length g.pairs) gs ≡ list_writes (122 * suc j) gs
unfolding list_writes
more_lists m j g [] f = refl
more_lists m j g (g' ∷ gs) f = let e : 122 * j + length g.pairs ≡ 122 * suc j = omega (arith, pairs_full m g g' gs f) in ap (λ (n : ℕ). list_writes n (g' ∷ gs)) e

module _ (P d : List ℕ) (size : length d ≡ 256 * sectors 16) where
  -- ---- the lists from j on
  list_put : (m j : ℕ) (g : Part) (gs : List Part) → Fit m (g ∷ gs) → Behind P j (g ∷ gs)
      → put (start 16 g.list) (list_sector (first_list gs) (122 * j) g.pairs) (with_lists P j d) ≡ with_lists P (suc j) d
  unfolding with_lists
  list_put m j g gs f b =
      let at : place_in P (123 * j) ≡ g.list = behind_place P j (g ∷ gs) b 0 (123 * j) (omega arith) ∙ first_of (g ∷ gs) in
      let l : length (with_lists P j d) ≡ length d = length_lists P j d in
      let on : on_disk 16 g.list ≡ true = first_on g gs f.on in
      let fits = sector_fits 16 (with_lists P j d) g.list (l ∙ size) on in
      let k = length_list (first_list gs) (122 * j) g.pairs (pairs_few m g gs f) in
      put_placed (start 16 g.list) (list_sector (first_list gs) (122 * j) g.pairs) (with_lists P j d) (omega arith)
      ∙ ap (λ (x : List ℕ). placed (start 16 g.list) x (with_lists P j d)) (sym (list_same P m j g gs f b))
      ∙ ap (λ (p : Place). placed (start 16 p) (list_in P j) (with_lists P j d)) (sym at)

  lists_written : (m j : ℕ) (gs : List Part) → Fit m gs → Behind P j gs → written 16 (list_writes (122 * j) gs) (with_lists P j d) ≡ with_lists P (j + length gs) d
  unfolding written list_writes
  lists_written m j [] f b = let e : j ≡ j + 0 = omega arith in ap (λ (n : ℕ). with_lists P n d) e
  lists_written m j (g ∷ gs) f b =
      let e : suc j + length gs ≡ j + suc (length gs) = omega arith in
      ap (λ (o : List ℕ). written 16 (list_writes (122 * j + length g.pairs) gs) o) (list_put m j g gs f b)
      ∙ ap (λ (ws : List Write). written 16 ws (with_lists P (suc j) d)) (more_lists m j g gs f)
      ∙ lists_written (m - 122) (suc j) gs (fit_tail m g gs f) (behind_next P m j g gs f b)
      ∙ ap (λ (n : ℕ). with_lists P n d) e

  -- ---- the data sectors from k on
  data_put : (s : List ℕ) (k : ℕ) (q : Place) → place_in P (k + 1 + k / 122) ≡ q → on_disk 16 q ≡ true
      → put (start 16 q) (padded 256 (take 256 (drop (256 * k) s))) (with_data P s k d) ≡ with_data P s (suc k) d
  unfolding with_data data_in
  data_put s k q at on =
      let x : List ℕ = padded 256 (take 256 (drop (256 * k) s)) in
      let l : length (with_data P s k d) ≡ length d = length_data P s k d in
      let fits = sector_fits 16 (with_data P s k d) q (l ∙ size) on in
      let n : length x ≡ 256 = length_padded 256 (take 256 (drop (256 * k) s)) (rw length-take (omega arith)) in
      put_placed (start 16 q) x (with_data P s k d) (omega arith) ∙ ap (λ (p : Place). placed (start 16 p) x (with_data P s k d)) (sym at)

  data_written : (s : List ℕ) (qs : List Place) (k : ℕ) → ((i : ℕ) → i < length qs → place_in P (k + i + 1 + (k + i) / 122) ≡ get_or qs i (place 0 0))
      → Every (λ (p : Place). on_disk 16 p ≡ true) qs → written 16 (data_writes qs (drop (256 * k) s)) (with_data P s k d) ≡ with_data P s (k + length qs) d
  unfolding written data_writes
  data_written s [] k h on = let e : k ≡ k + 0 = omega arith in ap (λ (n : ℕ). with_data P s n d) e
  data_written s (q ∷ qs) k h (Every.more o on) =
      let z : k ≡ k + 0 = omega arith in
      let at : place_in P (k + 1 + k / 122) ≡ q = ap (λ (n : ℕ). place_in P (n + 1 + n / 122)) z ∙ h 0 (omega arith) in
      let y : 256 * k + 256 ≡ 256 * suc k = omega arith in
      let e : suc k + length qs ≡ k + suc (length qs) = omega arith in
      ap (λ (t : List ℕ). written 16 (data_writes qs (drop 256 (drop (256 * k) s))) t) (data_put s k q at o)
      ∙ ap (λ (t : List ℕ). written 16 (data_writes qs t) (with_data P s (suc k) d)) (drop-drop 256 (256 * k) s ∙ ap (λ (n : ℕ). drop n s) y)
      ∙ data_written s qs (suc k)
      (λ i l.
      let w : suc k + i ≡ k + suc i = omega arith in
      ap (λ (n : ℕ). place_in P (n + 1 + n / 122)) w ∙ h (suc i) (omega arith))
      on
      ∙ ap (λ (n : ℕ). with_data P s n d) e

-- ---- data sector k is the one behind k others and the lists up to its own
module _ (P : List ℕ) where
  data_at_lem : (m j : ℕ) (gs : List Part) → Fit m gs → Behind P j gs → (i k : ℕ) → i < length (data_of gs) → k ≡ 122 * j + i
      → place_in P (k + 1 + k / 122) ≡ get_or (data_of gs) i (place 0 0)
  unfolding flat_map
  data_at_lem m j [] f b i k h e = absurd (omega arith)
  data_at_lem m j (g ∷ gs) f b i k h e =
      by_lt i (length g.pairs)
      (λ l.
      behind_place P j (g ∷ gs) b (suc i) (k + 1 + k / 122) (omega (arith, pairs_few m g gs f))
      ∙ get_or-append g.pairs (sectors_in gs) (place 0 0) i l ∙ sym (get_or-append g.pairs (data_of gs) (place 0 0) i l))
      (λ l.
      let r : ℕ = i - length g.pairs in
      let a = length-append g.pairs (data_of gs) in
      let full : length g.pairs ≡ 122 = some_full m g gs f (omega arith) in
      let w : i ≡ length g.pairs + r = omega arith in
      data_at_lem (m - 122) (suc j) gs (fit_tail m g gs f) (behind_next P m j g gs f b) r k (omega arith) (omega arith)
      ∙ sym (ap (λ (n : ℕ). get_or (g.pairs ++ data_of gs) n (place 0 0)) w ∙ get_or-append-add g.pairs (data_of gs) r (place 0 0)))

-- ---- what the caller uses
module _ (P : List ℕ) (gs : List Part) (places : P ≡ padded 262 (flat_map place_bytes (sectors_in gs))) where
  behind_all : Behind P 0 gs
  behind_all = record { is = λ i. let e : 246 * 0 + i ≡ i = omega arith in rw (e, places) (get_or_padded 262 (flat_map place_bytes (sectors_in gs)) i) }

  -- the first place is that of the first list
  pub first_place_lem : place_in P 0 ≡ first_list gs
  first_place_lem = behind_place P 0 gs behind_all 0 0 (omega arith) ∙ first_of gs

  -- lists and data are written as a save writes them
  pub filed_written : (address : ℕ) (bytes d : List ℕ) → length bytes ≤ 32768 → Shaped (data_for (length bytes)) false gs → length gs ≡ lists_for (data_for (length bytes))
      → Every (λ (p : Place). on_disk 16 p ≡ true) (sectors_in gs) → length d ≡ 256 * sectors 16
      → filed P address bytes d ≡ written 16 (file_writes gs address bytes) d
  unfolding filed file_writes with_lists with_data
  filed_written address bytes d h shape count on size =
      let m : ℕ = data_for (length bytes) in
      let s : List ℕ = file_record address (length bytes) bytes in
      let f : Fit m gs = record { later = false; shape = shape; count = count; on = on } in
      let a : written 16 (list_writes 0 gs) d ≡ with_lists P (length gs) d =
      lists_written P d size m 0 gs f behind_all ∙ ap (λ (n : ℕ). with_lists P n d) (zero-add (length gs)) in
      let e : List ℕ = with_lists P (length gs) d in
      let b : written 16 (data_writes (data_of gs) s) e ≡ with_data P s (length (data_of gs)) e =
      data_written P e (length_lists P (length gs) d ∙ size) s (data_of gs) 0 (λ i l. data_at_lem P m 0 gs f behind_all i (0 + i) l (omega arith)) (data_on gs on)
      ∙ ap (λ (n : ℕ). with_data P s n e) (zero-add (length (data_of gs))) in
      let c : length (data_of gs) ≡ m = shaped_data m false gs shape in
      rw (le-leb (length bytes) 32768 h)
      (sym
      (written_append (list_writes 0 gs) (data_writes (data_of gs) s) d ∙ ap (written 16 (data_writes (data_of gs) s)) a ∙ b
      ∙ ap (λ (n : ℕ). with_data P s n e) c ∙ ap (λ (n : ℕ). with_data P s m (with_lists P n d)) count))
