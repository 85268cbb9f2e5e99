-- A save on a clean disk: it stays clean, and its lines are those of the plain list. Assumes nothing.
use mathlib.Core.Path.{◌≡◌, refl, sym, ap, subst, ◌∙◌}
use mathlib.Core.Bool.{Bool, true, false, not}
use mathlib.Core.List.{List, [], ◌∷◌, ◌++◌, map, flat_map}
use mathlib.Core.Option.{some}
use Prim.Native.Nat.{ℕ, zero, suc, ◌+◌, ◌*◌, ◌-◌, ◌/◌, ◌%◌, ◌<◌, ◌≤◌}
use native.Mathlib.Omega.{arith}
use lib.ListN.{length, get_or, take, drop, replicate, length-take}
use lib.Seq.{take_at, drop_at, length-take-le}
use lib.Dec.{eqb, leb}
use borrow.Author.Tests.{leb-true, not-true, ne_eqb, eqb-true, eqb-false}
use Rattle.lists.specs.Every.{Every}
use Rattle.lists.specs.Fill.{Bytes, put}
use Rattle.lists.specs.Same.{same}
use Rattle.lists.specs.Select.{any, among}
use Rattle.lists.specs.Words.{le2}
use Rattle.lists.proofs.Split.{by_test, by_lt, both_true}
use Rattle.lists.proofs.Among.{unlike}
use Rattle.lists.proofs.Equal.{same_eq}
use Rattle.lists.proofs.Bounds.{at_cons, bytes_append, bytes_take, bytes_drop}
use Rattle.lists.proofs.Chunks.{every_append, split_every}
use Rattle.lists.proofs.Every.{every_imp, every_both}
use Rattle.std.specs.Prelude.{Ok}
use Rattle.outcome.specs.declared.Refusal.TheVariants.{UnwritableName, NoSpace, NameTaken}
use Rattle.outcome.specs.Outcome.{Outcome, ◌>>=◌, ◌>>◌, require}
use Rattle.outcome.proofs.Outcome.{gives, refused_given}
use Rattle.disk.specs.declared.Place.{Place}
use Rattle.disk.specs.Disk.{number_of, on_disk, bytes_of, sectors}
use Rattle.disk.specs.Vtoc.{vtoc}
use Rattle.disk.proofs.Places.{same_place, on_track, on_sector, is_on}
use Rattle.catalog.specs.Catalog.{valid_file, kind_of, trimmed, shown, entry_from, pages}
use Rattle.files.specs.Contents.{File, Contents, max_pairs, lists, pairs_of}
use Rattle.records.specs.Records.{writable, name_field, entry_record, file_record}
use Rattle.records.specs.ReadBack.{ReadsAs}
use Rattle.records.proofs.Entries.{writable_short, writable_low, field_is, length_record}
use Rattle.records.proofs.Back
use Rattle.holders.specs.Holders.{held, free}
use Rattle.holders.proofs.Counting.{held_none, held_here, held_else}
use Rattle.holders.proofs.Clean.{On, Clear}
use Rattle.amend.specs.Lines.{starts, in_use, line_at, open_line, first_of, savable, tidy, is_open, fill_first}
use Rattle.amend.specs.Save.{Part, Write, data_for, lists_for, take_for, first_list, sectors_in, data_of, list_writes, data_writes, written, file_writes, saved_at, saved}
use Rattle.amend.specs.Amending.{file_saved}
use Rattle.amend.proofs.Puts.{bytes_put, byte_same}
use Rattle.amend.proofs.Takes.{Taker, Taking, Shaped, shaped_data, take_for_lem, in_order, order_takes}
use Rattle.amend.proofs.Marks.{bytes_two}
use Rattle.amend.proofs.Seeks.{found_given}
use Rattle.amend.proofs.Lines.{Within, line_holds}
use Rattle.amend.proofs.Reading.{Reading, given_same}
use Rattle.amend.proofs.Change.{Plain}
use Rattle.amend.proofs.Kept.{Sector, Changed, Parts, parts_of, changed_reading, changed_held}
use Rattle.amend.proofs.Mid.{Mid, Lined, After, lined_put, line_fits, mid_changed, kept_lines, line_page, line_free, line_sector, line_rest, line_fixed, line_paged}
use Rattle.amend.proofs.Listed.{first_split, any_none, none_any, fill_at, line_open, each_any}
use Rattle.amend.proofs.Writes.{Whole, places_of, written_size, written_other, written_at, written_bytes, file_places, length_list, list_bytes_lem, bytes_padded}
use Rattle.amend.proofs.Stored.{Stand, lists_are, pairs_are, stored_sectors, stored_file}
use Rattle.amend.proofs.Deletes.{out_holds}

-- ---- what a save found
module _ (n : ℕ) (d : List ℕ) (name : List ℕ) (address : ℕ) (bytes : List ℕ) where
  pub record Saving (e : List ℕ) : Type 0 where
    pub named : savable name ≡ true
    pub short : length bytes ≤ 32768
    pub x : ℕ
    pub line_is : open_line n d ≡ Ok x
    pub at : saved_at n d x name address bytes ≡ Ok e

  pub saved_given : (e : List ℕ) → saved n d name address bytes ≡ Ok e → Saving e
  unfolding saved
  saved_given e h =
      let g = gives (tidy n d) _ e h in
      let c : Contents = g.0 in
      let t : Bool = not (any (λ (f : File). same name (shown f.raw)) c.files) in
      let after : Outcome (List ℕ) = open_line n d >>= λ x. saved_at n d x name address bytes in
      let k = steps (savable name) t (leb (length bytes) 32768) after g.2 in
      let o = gives (open_line n d) (λ x. saved_at n d x name address bytes) e k.2 in
      record { named = k.0; short = leb-true _ _ k.1; x = o.0; line_is = o.1; at = o.2 }
    where
      steps : (a b c : Bool) (o : Outcome (List ℕ)) → require a UnwritableName >> require b NameTaken >> (require c NoSpace >> o) ≡ Ok e
          → (a ≡ true) × (c ≡ true) × (o ≡ Ok e)
      steps true true true o q = (refl, refl, q)
      steps true true false o q = absurd (refused_given q)
      steps true false c o q = absurd (refused_given q)
      steps false b c o q = absurd (refused_given q)

  pub open_line_lem : (ps : List Place) (x : ℕ) → pages n d ≡ Ok ps → open_line n d ≡ Ok x → first_of (λ (y : ℕ). not (in_use d y)) (starts n ps) ≡ some x
  unfolding open_line
  open_line_lem ps x p h = found_given (first_of (λ (y : ℕ). not (in_use d y)) (starts n ps)) NoSpace x (rw p at h)

  -- the disk after, r being what was taken
  abbrev pub made_of : (x : ℕ) → List Part → List ℕ → List ℕ
  made_of x gs m = put x (entry_record (first_list gs) 4 false name (length gs + length (data_of gs))) (written n (file_writes gs address bytes) m)

  pub saved_at_lem : (x : ℕ) (e : List ℕ) → saved_at n d x name address bytes ≡ Ok e
      → (gs : List Part) × (m : List ℕ) × (take_for n (length bytes) d ≡ Ok (gs, m)) × (e ≡ made_of x gs m)
  unfolding saved_at
  saved_at_lem x e h =
      let g = gives (take_for n (length bytes) d) _ e h in
      let r : List Part × List ℕ = g.0 in
      let y : Ok (made_of x r.0 r.1) ≡ Ok e = g.2 in
      (r.0, r.1, g.1, cc)

-- ---- the entry
-- a name that is taken
pub savable_parts : (name : List ℕ) → savable name ≡ true → (writable name ≡ true) × (among 0 name ≡ false) × (trimmed name ≡ name)
unfolding savable
savable_parts name h =
    let a = both_true (writable name) _ h in
    let b = both_true (not (among 0 name)) _ a.1 in
    (a.0, not-true _ b.0, same_eq (trimmed name) name b.1)

-- it is shown as it was handed in
pub savable_shown : (name : List ℕ) → savable name ≡ true → shown (name_field name) ≡ name
savable_shown name h =
    let p = savable_parts name h in
    Back.name_back name (writable_short name p.0) p.1 ∙ p.2

-- it is written in bytes
high_bytes : (s : List ℕ) (k : ℕ) → ((i : ℕ) → get_or s i 0 < 128) → Bytes (map (λ b. b + 128) s ++ replicate k 160)
high_bytes [] zero h = λ i. omega arith
high_bytes [] (suc k) h = at_cons (λ x. x < 256) 160 (replicate k 160) (omega arith) (high_bytes [] k h)
high_bytes (b ∷ s) k h =
    let z = h 0 in
    at_cons (λ x. x < 256) (b + 128) (map (λ b. b + 128) s ++ replicate k 160) (omega arith) (high_bytes s k (λ i. h (suc i)))

record_bytes : (p : Place) (name : List ℕ) (count : ℕ) → p.track.0 < 256 → p.sector.0 < 256 → writable name ≡ true → Bytes (entry_record p 4 false name count)
unfolding entry_record kind_of
record_bytes p name count h l w =
    let f : Bytes (name_field name) = rw (field_is name (writable_short name w)) (high_bytes name (30 - length name) (writable_low name w)) in
    let c : Bytes (le2 count) = bytes_two (count % 256) (count / 256 % 256) (omega arith) (omega arith) in
    let t : List ℕ = name_field name ++ le2 count in
    at_cons (λ x. x < 256) p.track.0 (p.sector.0 ∷ 4 ∷ t) h
    (at_cons (λ x. x < 256) p.sector.0 (4 ∷ t) l (at_cons (λ x. x < 256) 4 t (omega arith) (bytes_append (name_field name) (le2 count) f c)))

-- what was put in is there
pub put_cut : (x : ℕ) (w m : List ℕ) → x ≤ length m → take (length w) (drop x (put x w m)) ≡ w
unfolding put
put_cut x w m h = ap (take (length w)) (drop_at (take x m) (w ++ drop (x + length w) m) x (length-take-le x m h)) ∙ take_at w (drop (x + length w) m) (length w) refl

-- the map of a disk whose VTOC is the same
pub free_same : (n : ℕ) (d e : List ℕ) → bytes_of n e vtoc ≡ bytes_of n d vtoc → (q : Place) → q.track.0 < 35 → free n e q ≡ free n d q
unfolding free
free_same n d e h q l =
    rw (byte_same n d e vtoc h (56 + 4 * q.track.0) (omega arith), byte_same n d e vtoc h (57 + 4 * q.track.0) (omega arith)) refl

-- a sector on another track than 17 is not the VTOC's
takers_vtoc : (n : ℕ) → 0 < n → {ps : List Place} → Every (Taker n) ps → held n ps (number_of n vtoc) ≡ 0
takers_vtoc n z Every.none = held_none n (number_of n vtoc)
takers_vtoc n z (Every.more {x = p} {xs = ps} t e) =
    held_else n (number_of n vtoc) p ps (λ q. t.track17 (ap (λ (r : Place). r.track.0) (same_place n p vtoc t.on (is_on n 17 0 (omega arith) z) q))) ∙ takers_vtoc n z e

-- ---- the sectors that are written are whole
-- parts of at most 122
shaped_small : (m : ℕ) (later : Bool) (gs : List Part) → Shaped m later gs → Every (λ (g : Part). length g.pairs ≤ 122) gs
shaped_small m later [] h = Every.none
shaped_small m later (g ∷ gs) h = let a = h.0 in let k : length g.pairs ≤ 122 = omega arith in Every.more k (shaped_small (m - max_pairs) true gs h.2)

whole_lists : (n before : ℕ) (gs : List Part) → Every (λ (g : Part). length g.pairs ≤ 122) gs → Every (Taker n) (map (λ (g : Part). g.list) gs)
    → Every (Whole n) (list_writes before gs)
unfolding list_writes
whole_lists n before [] Every.none Every.none = Every.none
whole_lists n before (g ∷ gs) (Every.more s ss) (Every.more t ts) =
    Every.more (record { on = t.on; long = length_list (first_list gs) before g.pairs s }) (whole_lists n (before + length g.pairs) gs ss ts)

whole_data : (n : ℕ) (ps : List Place) (s : List ℕ) → Every (Taker n) ps → Every (Whole n) (data_writes ps s)
unfolding data_writes
whole_data n [] s Every.none = Every.none
whole_data n (p ∷ ps) s (Every.more t ts) =
    Every.more (record { on = t.on; long = Rattle.lists.proofs.Laws.length_padded 256 (take 256 s) (rw length-take (omega arith)) }) (whole_data n ps (drop 256 s) ts)

pub whole_file : (n m : ℕ) (gs : List Part) (address : ℕ) (bytes : List ℕ) → Shaped m false gs → Every (Taker n) (map (λ (g : Part). g.list) gs)
    → Every (Taker n) (data_of gs) → Every (Whole n) (file_writes gs address bytes)
unfolding file_writes
whole_file n m gs address bytes shape a b =
    every_append (whole_lists n 0 gs (shaped_small m false gs shape) a) (whole_data n (data_of gs) (file_record address (length bytes) bytes) b)

-- .. and are bytes
on_takers : (n : ℕ) {ps : List Place} → Every (Taker n) ps → On n ps
on_takers n e = every_imp (λ p t. t.on) e

first_bytes : (n : ℕ) → n ≤ 16 → (gs : List Part) → Every (Taker n) (map (λ (g : Part). g.list) gs) → ((first_list gs).track.0 < 256) × ((first_list gs).sector.0 < 256)
first_bytes n few [] Every.none = (omega arith, omega arith)
first_bytes n few (g ∷ gs) (Every.more t ts) =
    let a = on_track n g.list t.on in
    let b = on_sector n g.list t.on in
    (omega arith, omega arith)

bytes_lists : (n : ℕ) → n ≤ 16 → (before : ℕ) (gs : List Part) → Every (Taker n) (map (λ (g : Part). g.list) gs) → Every (Taker n) (data_of gs)
    → Every (λ (w : Write). Bytes w.bytes) (list_writes before gs)
unfolding list_writes flat_map
bytes_lists n few before [] Every.none u = Every.none
bytes_lists n few before (g ∷ gs) (Every.more t ts) u =
    let v = split_every g.pairs u in
    let f = first_bytes n few gs ts in
    Every.more (list_bytes_lem n few (first_list gs) before g.pairs f.0 f.1 (on_takers n v.0)) (bytes_lists n few (before + length g.pairs) gs ts v.1)

bytes_data : (ps : List Place) (s : List ℕ) → Bytes s → Every (λ (w : Write). Bytes w.bytes) (data_writes ps s)
unfolding data_writes
bytes_data [] s b = Every.none
bytes_data (p ∷ ps) s b = Every.more (bytes_padded 256 (take 256 s) (bytes_take 256 s b)) (bytes_data ps (drop 256 s) (bytes_drop 256 s b))

record_is_bytes : (address : ℕ) (bytes : List ℕ) → Bytes bytes → Bytes (file_record address (length bytes) bytes)
unfolding file_record
record_is_bytes address bytes b =
    let c = at_cons (λ x. x < 256) in
    at_cons (λ x. x < 256) (address % 256) (address / 256 % 256 ∷ length bytes % 256 ∷ length bytes / 256 % 256 ∷ bytes) (omega arith)
    (at_cons (λ x. x < 256) (address / 256 % 256) (length bytes % 256 ∷ length bytes / 256 % 256 ∷ bytes) (omega arith)
    (at_cons (λ x. x < 256) (length bytes % 256) (length bytes / 256 % 256 ∷ bytes) (omega arith)
    (at_cons (λ x. x < 256) (length bytes / 256 % 256) bytes (omega arith) b)))

-- each is held by the list of their places
in_places : (n : ℕ) (ws : List Write) → Every (λ (v : Write). 0 < held n (places_of ws) (number_of n v.place)) ws
in_places n [] = Every.none
in_places n (w ∷ ws) =
    let h = held_here n (number_of n w.place) w.place (places_of ws) refl in
    let k : 0 < held n (places_of (w ∷ ws)) (number_of n w.place) = omega arith in
    Every.more k
    (every_imp
    (λ v l.
    by_test (eqb (number_of n w.place) (number_of n v.place))
    (λ t. let u = held_here n (number_of n v.place) w.place (places_of ws) (eqb-true _ _ t) in omega arith)
    (λ t. let u = held_else n (number_of n v.place) w.place (places_of ws) (eqb-false _ _ t) in omega arith))
    (in_places n ws))

-- ---- a save on a clean disk
-- what is read of the line at x of f, filled with a file of k bytes in the parts gs: its name, its lists and their pairs, so many; the VTOC is that of m
pub record Filled (n k : ℕ) (name f : List ℕ) (x : ℕ) (gs : List Part) (m : List ℕ) : Type 0 where
  pub in_use_now : in_use f x ≡ true
  pub shows : shown (entry_from f x).raw ≡ name
  pub lists_is : lists n f (entry_from f x) ≡ Ok (map (λ (g : Part). g.list) gs)
  pub pairs_is : flat_map (pairs_of n f) (map (λ (g : Part). g.list) gs) ≡ data_of gs
  pub data_many : length (data_of gs) ≡ data_for k
  pub lists_many : length gs ≡ lists_for (data_for k)
  pub table_is : bytes_of n f vtoc ≡ bytes_of n m vtoc

module _ (n : ℕ) (some' : 0 < n) (few : n ≤ 16) (d : List ℕ) (bytesd : Bytes d) (size : length d ≡ 256 * sectors n) (r : Reading n d)
    (name : List ℕ) (address : ℕ) (bytes : List ℕ) (bytesb : Bytes bytes) where
  module _ (named : savable name ≡ true) (short : length bytes ≤ 32768) (x : ℕ) (a b : List ℕ) (split : starts n r.ps ≡ a ++ x ∷ b)
      (before : Every (λ (y : ℕ). not (in_use d y) ≡ false) a) (here : not (in_use d x) ≡ true) (g : Part) (gs : List Part) (m : List ℕ)
      (tk : Taking n d (sectors_in (g ∷ gs)) m) (shape : Shaped (data_for (length bytes)) false (g ∷ gs))
      (many : length (g ∷ gs) ≡ lists_for (data_for (length bytes))) where
    abbrev L : List Place
    L = sectors_in (g ∷ gs)

    W : List Write
    W = file_writes (g ∷ gs) address bytes

    w : List ℕ
    unfolding W
    w = written n W m

    count : ℕ
    count = length (g ∷ gs) + length (data_of (g ∷ gs))

    rec : List ℕ
    unfolding count
    rec = entry_record g.list 4 false name count

    e : List ℕ
    unfolding rec w
    e = put x rec w

    -- ---- the sectors
    size₁ : length m ≡ 256 * sectors n
    size₁ = tk.remap.size ∙ size

    takes : Every (Taker n) (map (λ (h : Part). h.list) (g ∷ gs)) × Every (Taker n) (data_of (g ∷ gs))
    takes = order_takes n some' few (g ∷ gs) tk.takes

    whole : Every (Whole n) W
    unfolding W
    whole = whole_file n (data_for (length bytes)) (g ∷ gs) address bytes shape takes.0 takes.1

    places : (k : ℕ) → held n (places_of W) k ≡ held n L k
    unfolding W
    places k = ap (λ (ps : List Place). held n ps k) (file_places (g ∷ gs) address bytes) ∙ in_order n some' few (g ∷ gs) k

    other : (q : Place) → held n L (number_of n q) ≡ 0 → bytes_of n w q ≡ bytes_of n m q
    unfolding w
    other q h = written_other n m size₁ whole q (places (number_of n q) ∙ h)

    size₂ : length w ≡ length m
    unfolding w
    size₂ = written_size n m size₁ whole

    table_same : bytes_of n w vtoc ≡ bytes_of n m vtoc
    table_same = other vtoc (takers_vtoc n some' tk.takes)

    mid : Mid n d L w
    mid =
        record {
          size = size₂ ∙ tk.remap.size;
          head = λ k h. byte_same n m w vtoc table_same k (omega arith) ∙ tk.remap.head k h;
          table = λ k h l. byte_same n m w vtoc table_same k (omega arith) ∙ tk.remap.table k h l;
          tail = λ k h l. byte_same n m w vtoc table_same k l ∙ tk.remap.tail k h;
          rest = λ q on v h. other q h ∙ tk.remap.rest q v;
        }

    -- ---- the line
    long : length rec ≡ 35
    unfolding rec
    long = length_record g.list 4 false name count

    fits : x + 35 ≤ length w
    fits = let h = line_fits n some' d size r a x b split in let l = size₂ in let k = tk.remap.size in omega arith

    lined : Lined w x e
    unfolding e
    lined = lined_put w x x rec (omega arith) (let l = long in omega arith) fits

    parts : (writable name ≡ true) × (among 0 name ≡ false) × (trimmed name ≡ name)
    parts = savable_parts name named

    many' : length (data_of (g ∷ gs)) ≡ data_for (length bytes)
    many' = shaped_data (data_for (length bytes)) false (g ∷ gs) shape

    count_is : count ≡ lists_for (data_for (length bytes)) + data_for (length bytes)
    unfolding count
    count_is = λ i. many i + many' i

    line_is_lem : take 35 (drop x e) ≡ rec
    unfolding e rec
    line_is_lem = ap (λ (k : ℕ). take k (drop x e)) (sym long) ∙ put_cut x rec w (let f = fits in let l = long in omega arith)

    reads : ReadsAs (entry_from e x) g.list 4 false name count
    unfolding rec
    reads = let k = count_is in Back.entry_same e x g.list 4 false name count line_is_lem (omega arith) parts.0 parts.1 parts.2

    raw_is : (entry_from e x).raw ≡ name_field name
    unfolding rec
    raw_is = Back.raw_back e x g.list 4 false name count line_is_lem

    plain : Plain e x
    plain h = reads.plain

    -- ---- the disk with the line changed
    changed : Changed n d e r a x b
    changed = mid_changed n some' d r L w x e mid lined tk.was a b split plain

    -- the new sectors stand on it
    page : (p : Place) × (Sector n d p × (among (number_of n p) (map (number_of n) r.ps) ≡ true)) × Within n p x
    page = line_page n some' d r L w x e mid lined tk.was a b split

    new_stays : (q : Place) → on_disk n q ≡ true → 0 < held n L (number_of n q) → bytes_of n e q ≡ bytes_of n w q
    unfolding page
    new_stays q on h =
        line_sector n some' d r L w x e mid lined tk.was a b split q
        (λ k.
        let z : q ≡ page.0 = same_place n q page.0 on page.1.0.on k in
        unlike page.1.0.used (subst (λ (p : Place). free n d p ≡ true) z (tk.was q on h)))

    stand : Stand n e W
    unfolding w
    stand =
        every_imp
        (λ v t. new_stays v.place t.0.0.on (let k = places (number_of n v.place) in let l = t.0.1 in omega arith) ∙ t.1)
        (every_both (every_both whole (in_places n W))
        (written_at n m size₁ whole (λ q on. let k = places (number_of n q) in let l = tk.once q on in omega arith)))

    stands : Stand n e (list_writes 0 (g ∷ gs)) × Stand n e (data_writes (data_of (g ∷ gs)) (file_record address (length bytes) bytes))
    unfolding W file_writes
    stands = split_every (list_writes 0 (g ∷ gs)) stand

    -- what the line holds then
    in_use_lem : in_use e x ≡ true
    unfolding valid_file
    in_use_lem =
        let t : (entry_from e x).list.track.0 ≡ g.list.track.0 = ap (λ (p : Place). p.track.0) reads.list in
        let l = on_track n g.list (first_taker takes.0).on in
        rw (t, ne_eqb g.list.track.0 0 (first_taker takes.0).track0, ne_eqb g.list.track.0 255 (λ q. omega arith)) refl
      where
        first_taker : {p : Place} {ps : List Place} → Every (Taker n) (p ∷ ps) → Taker n p
        first_taker (Every.more t ts) = t

    holds : line_holds n e x ≡ Ok L
    unfolding line_holds
    holds =
        rw in_use_lem
        (stored_sectors n e (entry_from e x) g gs address bytes (omega arith) reads.list shape many' takes.0 takes.1 stands.0 stands.1)

    files : line_at n e x ≡ Ok (some (file_saved name bytes))
    unfolding line_at kind_of
    files =
        let f = stored_file n e (entry_from e x) g gs address bytes (omega arith) reads.list shape many' takes.0 takes.1 stands.0 stands.1
        (name_field name) (lists_for (data_for (length bytes)) + data_for (length bytes)) reads.kind reads.locked raw_is (reads.count ∙ count_is) in
        rw (in_use_lem, f) refl

    -- ---- it is clean
    parts_d : Parts n d e r a x b
    parts_d = parts_of n d e r a x b split

    empty : parts_d.u ≡ []
    empty = given_same parts_d.holds_x (out_holds n d x (not-true (in_use d x) here)).0

    held_now : (k : ℕ) → held n (vtoc ∷ r.ps ++ flat_map (λ t. t) (parts_d.ua ++ L ∷ parts_d.ub)) k ≡ held n (vtoc ∷ r.ps ++ flat_map (λ t. t) r.us) k + held n L k
    held_now k =
        let h = changed_held n d e r a x b changed parts_d L k in
        let z : held n parts_d.u k ≡ 0 = ap (λ (u : List Place). held n u k) empty ∙ held_none n k in
        omega arith

    free_now : (q : Place) → on_disk n q ≡ true → free n e q ≡ free n m q
    free_now q on =
        line_free n some' d r L w x e mid lined tk.was a b split q (on_track n q on) ∙ free_same n m w table_same q (on_track n q on)

    clear : Clear n e (vtoc ∷ r.ps ++ flat_map (λ t. t) (parts_d.ua ++ L ∷ parts_d.ub))
    clear =
        record {
          once = λ q on.
              let h = held_now (number_of n q) in
              let o = r.clear.once q on in
              let t = tk.once q on in
              by_lt 0 (held n L (number_of n q))
              (λ l.
              by_lt 0 (held n (vtoc ∷ r.ps ++ flat_map (λ t. t) r.us) (number_of n q))
              (λ k. absurd (unlike (r.clear.used q on k) (tk.was q on l))) (λ k. omega arith))
              (λ l. omega arith);
          used = λ q on g'.
              let h = held_now (number_of n q) in
              free_now q on
              ∙ by_lt 0 (held n L (number_of n q)) (tk.now q on)
              (λ l. tk.other q on (omega arith) ∙ r.clear.used q on (omega arith));
        }

    made : (t : Reading n e) × (t.ls ≡ parts_d.la ++ some (file_saved name bytes) ∷ parts_d.lb)
    made = changed_reading n d e r a x b changed parts_d L (some (file_saved name bytes)) holds files clear

    filled : fill_first (file_saved name bytes) r.ls ≡ parts_d.la ++ some (file_saved name bytes) ∷ parts_d.lb
    filled =
        let none_open : any is_open parts_d.la ≡ false =
        each_any n d is_open (λ (y : ℕ). not (in_use d y)) (line_open n d) a parts_d.la parts_d.files_a ∙ any_none (λ (y : ℕ). not (in_use d y)) before in
        ap (fill_first (file_saved name bytes)) parts_d.ls_is
        ∙ fill_at (file_saved name bytes) parts_d.l parts_d.lb (none_any is_open parts_d.la none_open) (line_open n d x parts_d.l parts_d.files_x ∙ here)

    bytes_now : Bytes e
    unfolding e rec w W file_writes
    bytes_now =
        let f = first_bytes n few (g ∷ gs) takes.0 in
        bytes_put x rec w (record_bytes g.list name count f.0 f.1 parts.0)
        (written_bytes n m (tk.remap.bytes bytesd)
        (every_append (bytes_lists n few 0 (g ∷ gs) takes.0 takes.1) (bytes_data (data_of (g ∷ gs)) (file_record address (length bytes) bytes) (record_is_bytes address bytes bytesb))))

    conclude : After n d e (fill_first (file_saved name bytes) r.ls) x L []
    unfolding page
    conclude =
        record {
          reading = made.0;
          lines = made.1 ∙ sym filled;
          bytes = bytes_now;
          size = changed.size;
          page = page.0;
          page_is = page.2;
          rest = line_rest n some' d r L w x e mid lined tk.was a b split;
          fixed = line_fixed n some' d r L w x e mid lined tk.was a b split;
          paged = line_paged n some' d r L w x e mid lined tk.was a b split;
          new_used = λ q on h. free_now q on ∙ tk.now q on h;
          gone_free = λ q on h. absurd (let z = held_none n (number_of n q) in omega arith);
          map_kept = λ q on h k. free_now q on ∙ tk.other q on h;
          old = r;
          front = a;
          back = b;
          changed = changed;
          kept_front = (kept_lines n some' d r L w x e mid lined tk.was a b split).0;
          kept_back = (kept_lines n some' d r L w x e mid lined tk.was a b split).1;
          was_held = (out_holds n d x (not-true (in_use d x) here)).0;
          is_held = holds;
        }

    -- what is read of the line
    filled_with : Filled n (length bytes) name e x (g ∷ gs) m
    unfolding page
    filled_with =
        record {
          in_use_now = in_use_lem;
          shows = reads.name;
          lists_is = lists_are n e (entry_from e x) g gs address bytes (omega arith) reads.list shape many' takes.0 takes.1 stands.0 stands.1;
          pairs_is = pairs_are n e (entry_from e x) g gs address bytes (omega arith) reads.list shape many' takes.0 takes.1 stands.0 stands.1;
          data_many = many';
          lists_many = many;
          table_is = line_sector n some' d r L w x e mid lined tk.was a b split vtoc (λ k. page.1.0.not_vtoc (sym k)) ∙ table_same;
        }

  -- a save leaves the disk clean, with the first open line filled
  conclude_for : (named : savable name ≡ true) (short : length bytes ≤ 32768) (x : ℕ) (a b : List ℕ) (split : starts n r.ps ≡ a ++ x ∷ b)
      → Every (λ (y : ℕ). not (in_use d y) ≡ false) a → not (in_use d x) ≡ true → (gs : List Part) (m : List ℕ)
      → Taking n d (sectors_in gs) m → Shaped (data_for (length bytes)) false gs → length gs ≡ lists_for (data_for (length bytes))
      → After n d (made_of n d name address bytes x gs m) (fill_first (file_saved name bytes) r.ls) x (sectors_in gs) []
      × Filled n (length bytes) name (made_of n d name address bytes x gs m) x gs m
  unfolding e rec count w W
  conclude_for named short x a b split before here [] m tk shape many = absurd (omega arith)
  conclude_for named short x a b split before here (g ∷ gs) m tk shape many =
      (conclude named short x a b split before here g gs m tk shape many, filled_with named short x a b split before here g gs m tk shape many)

  pub save_clean : (f : List ℕ) → saved n d name address bytes ≡ Ok f
      → (x : ℕ) × (gs : List Part) × (m : List ℕ) × (open_line n d ≡ Ok x) × (take_for n (length bytes) d ≡ Ok (gs, m))
      × After n d f (fill_first (file_saved name bytes) r.ls) x (sectors_in gs) [] × Filled n (length bytes) name f x gs m
  save_clean f h =
      let s = saved_given n d name address bytes f h in
      let l = first_split (λ (y : ℕ). not (in_use d y)) (starts n r.ps) s.x (open_line_lem n d name address bytes r.ps s.x r.paged s.line_is) in
      let t = saved_at_lem n d name address bytes s.x f s.at in
      let k = take_for_lem n some' few (length bytes) d t.0 t.1 size t.2 in
      let q =
      subst
      (λ (v : List ℕ). After n d v (fill_first (file_saved name bytes) r.ls) s.x (sectors_in t.0) [] × Filled n (length bytes) name v s.x t.0 t.1) (sym t.3)
      (conclude_for s.named s.short s.x l.0 l.1 l.2 l.3 l.4 t.0 t.1 k.0 k.1 k.2) in
      (s.x, t.0, t.1, s.line_is, t.2, q.0, q.1)
