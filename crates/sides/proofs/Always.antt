-- Claim 4 of Req 10: where two disks differ in the data bytes of the other's files alone, a call is answered alike, and what it leaves differs there alone.
-- Assumes nothing.
use mathlib.Core.Path.{◌≡◌, refl, sym, ap, subst, ◌∙◌}
use mathlib.Core.Bool.{Bool, true, false, cond, not, ◌&&◌}
use mathlib.Core.Logic.{⊎_elim}
use mathlib.Core.List.{List, [], ◌∷◌, ◌++◌, map, flat_map}
use mathlib.Core.Option.{Option}
use Prim.Native.Nat.{ℕ, ◌+◌, ◌*◌, ◌/◌, ◌<◌, ◌≤◌}
use native.Mathlib.Omega.{arith}
use lib.ListN.{length, get_or}
use lib.Dec.{leb}
use Rattle.lists.specs.Every.{Every}
use Rattle.lists.specs.Fill.{Bytes, put}
use Rattle.lists.specs.Select.{any, among}
use Rattle.lists.proofs.Split.{by_test, both_true}
use Rattle.lists.proofs.Select.{any_same}
use Rattle.std.specs.Prelude.{Ok, Err}
use Rattle.outcome.specs.declared.Refusal.TheVariants.{NotOnRoll, NoSpace}
use Rattle.outcome.specs.Outcome.{Outcome, ◌>>=◌, each}
use Rattle.outcome.proofs.Silent.{silent}
use Rattle.outcome.proofs.Outcome.{each_cons, each_same}
use Rattle.disk.specs.declared.Place.{Place}
use Rattle.disk.specs.Disk.{start, number_of, sectors}
use Rattle.disk.specs.Vtoc.{vtoc}
use Rattle.catalog.specs.Catalog.{Entry, live, entry_from, pages}
use Rattle.records.specs.Records.{entry_record}
use Rattle.records.proofs.Entries.{length_record}
use Rattle.holders.specs.Holders.{sectors_of}
use Rattle.holders.proofs.Refusals.{sectors_on}
use Rattle.amend.specs.Lines.{found, savable, starts, in_use, is_named, open_line, line_of, holds_name}
use Rattle.amend.specs.Search.{freed}
use Rattle.amend.specs.Save.{Part, data_for, first_list, data_of, take_for, written, file_writes, saved_at, stored, deleted_at, removed}
use Rattle.amend.specs.Amending.{Op, OfBytes, kept, Clean}
use Rattle.amend.specs.Amending
use Rattle.amend.proofs.Takes.{take_for_lem, order_takes}
use Rattle.amend.proofs.Lines.{line_holds}
use Rattle.amend.proofs.Reading.{Reading, given_same, reading_tidy}
use Rattle.amend.proofs.Mid.{every_here, line_fits}
use Rattle.lists.proofs.Every.{every_imp}
use Rattle.amend.proofs.Listed.{first_split, last_split, line_name, each_any}
use Rattle.amend.proofs.Deletes.{is_line, line_of_lem}
use Rattle.amend.proofs.Answers.{opened}
use Rattle.amend.proofs.Amending.{reading_of, size_of, clean_of}
use Rattle.amend.proofs.Saves.{whole_file, open_line_lem}
use Rattle.amend.proofs.Seeks.{first_same, last_same}
use Rattle.amend.proofs.Agree.{Agree, Both, agree_put, for_two, freed_two, written_two}
use Rattle.sides.specs.declared.Side.{Side}
use Rattle.sides.specs.Sides.{other, belongs, of_side, own_at, own_sectors, held_by, within, saved_for, deleted_for, Call, call_of, answer}
use Rattle.sides.specs.Claims.{own_data, DifferIn, AlikeAlways, BytesIn}
use Rattle.sides.proofs.Own.{own_is}
use Rattle.sides.proofs.Steps.{effect}
use Rattle.sides.proofs.Alike.{chain, undo, save_chain, delete_chain}
use Rattle.sides.proofs.Data.{divide, data_is_lem, data_stays}
use Rattle.sides.proofs.Twin.{vtoc_apart, entries_same, pages_same, holds_same, twin}

-- ---- two answers: refused alike, or disks that agree
abbrev Twins : ℕ → (ℕ → Type 0) → Outcome (List ℕ) → Outcome (List ℕ) → Type 0
Twins L P (Err r) (Err q) = r ≡ q
Twins L P (Err r) (Ok b) = ⊥
Twins L P (Ok a) (Err q) = ⊥
Twins L P (Ok a) (Ok b) = Agree L P a b

twins_silent : (L : ℕ) (P : ℕ → Type 0) (o w : Outcome (List ℕ)) → Twins L P o w → silent w ≡ silent o
twins_silent L P (Err r) (Err q) h = ap Err (sym h)
twins_silent L P (Err r) (Ok b) h = absurd h
twins_silent L P (Ok a) (Err q) h = absurd h
twins_silent L P (Ok a) (Ok b) h = refl

twins_kept : {L : ℕ} {P : ℕ → Type 0} (d e : List ℕ) (o w : Outcome (List ℕ)) → Agree L P d e → Twins L P o w → Agree L P (kept d o) (kept e w)
twins_kept d e (Err r) (Err q) a h = a
twins_kept d e (Err r) (Ok b) a h = absurd h
twins_kept d e (Ok x) (Err q) a h = absurd h
twins_kept d e (Ok x) (Ok b) a h = h

chain_twins : (L : ℕ) (P : ℕ → Type 0) (A B T : Bool) (w : Outcome (Unit {0})) (o o' : Outcome (List ℕ)) → Twins L P o o' → Twins L P (chain A B T w o) (chain A B T w o')
chain_twins L P false B T w o o' h = refl
chain_twins L P true false T w o o' h = refl
chain_twins L P true true false w o o' h = refl
chain_twins L P true true true (Err r) o o' h = refl
chain_twins L P true true true (Ok u) o o' h = h

undo_twins : (L : ℕ) (P : ℕ → Type 0) (A B : Bool) (o o' : Outcome (List ℕ)) → Twins L P o o' → Twins L P (undo A B o) (undo A B o')
undo_twins L P false B o o' h = refl
undo_twins L P true false o o' h = refl
undo_twins L P true true o o' h = h

module _ (n : ℕ) (some' : 0 < n) (few : n ≤ 16) (d e : List ℕ) (c : Clean n d) (r : Reading n d) (s : Side) (ps : List Place)
    (theirs : own_data n d (other s) ≡ Ok ps) (diff : DifferIn n ps d e) where
  abbrev P : ℕ → Type 0
  P i = among (i / 256) (map (number_of n) ps) ≡ false

  abbrev L : ℕ
  L = 256 * sectors n

  size : length d ≡ L
  size = size_of n some' few d c

  agree : Agree L P d e
  agree = record { size_d = size; size_e = diff.size ∙ size; at = diff.outside }

  -- ps are the data sectors of the lines
  ps_is : ps ≡ flat_map (λ t. t) (divide n d (other s) (starts n r.ps) r.us r.holds).data'
  ps_is = let D = divide n d (other s) (starts n r.ps) r.us r.holds in given_same theirs (data_is_lem n d (other s) r.ps D.data' r.paged D.data_is)

  outside : (i : ℕ) → among (i / 256) (map (number_of n) (flat_map (λ t. t) (divide n d (other s) (starts n r.ps) r.us r.holds).data')) ≡ false → get_or e i 0 ≡ get_or d i 0
  outside i h = diff.outside i (ap (λ (l : List Place). among (i / 256) (map (number_of n) l)) ps_is ∙ h)

  table : (k : ℕ) → k < 256 → P (start n vtoc + k)
  table k h =
      let w : (start n vtoc + k) / 256 ≡ number_of n vtoc = omega arith in
      ap (λ (j : ℕ). among j (map (number_of n) ps)) w ∙ ap (λ (l : List Place). among (number_of n vtoc) (map (number_of n) l)) ps_is
      ∙ vtoc_apart n some' d e r (other s) diff.size outside

  entries : Every (λ (y : ℕ). entry_from e y ≡ entry_from d y) (starts n r.ps)
  entries = entries_same n some' d e r (other s) diff.size outside

  paged : pages n e ≡ Ok r.ps
  paged = pages_same n some' d e r (other s) diff.size outside

  holds : Every (λ (y : ℕ). line_holds n e y ≡ line_holds n d y) (starts n r.ps)
  holds = holds_same n some' d e r (other s) diff.size outside

  t : (t : Reading n e) × (t.ps ≡ r.ps) × (t.us ≡ r.us)
  t = twin n some' d e r (other s) diff.size outside

  -- ---- the lines are found alike
  open_same : open_line n e ≡ open_line n d
  unfolding open_line
  open_same =
      rw (paged, r.paged)
      (ap (λ (o : Option ℕ). found o NoSpace)
      (first_same (λ (y : ℕ). not (in_use e y)) (λ (y : ℕ). not (in_use d y)) (every_imp (λ y q. ap (λ (x : Entry). not (live x)) q) entries)))

  line_same : (name : List ℕ) → line_of n e name ≡ line_of n d name
  unfolding line_of
  line_same name =
      rw (paged, r.paged)
      (ap (λ (o : Option ℕ). found o NotOnRoll)
      (last_same (is_line n e name) (is_line n d name) (every_imp (λ y q. ap (λ (x : Entry). live x && is_named name x) q) entries)))

  names_same : (name : List ℕ) → any (holds_name name) t.0.ls ≡ any (holds_name name) r.ls
  unfolding t
  names_same name =
      each_any n e (holds_name name) (is_line n e name) (line_name n e name) (starts n t.0.ps) t.0.ls t.0.files
      ∙ ap (λ (l : List Place). any (is_line n e name) (starts n l)) t.1
      ∙ any_same (is_line n e name) (is_line n d name) (every_imp (λ y q. ap (λ (x : Entry). live x && is_named name x) q) entries)
      ∙ sym (each_any n d (holds_name name) (is_line n d name) (line_name n d name) (starts n r.ps) r.ls r.files)

  -- ---- it holds as much
  own_all : {ys : List ℕ} (us : List (List Place)) → Every (λ (y : ℕ). entry_from e y ≡ entry_from d y) ys → Every (λ (y : ℕ). line_holds n e y ≡ line_holds n d y) ys
      → each (line_holds n d) ys ≡ Ok us → Every (λ (y : ℕ). own_at n e s y ≡ own_at n d s y) ys
  own_all us Every.none Every.none h = Every.none
  own_all us (Every.more {x} {xs} p pp) (Every.more q qq) h =
      let k = each_cons (line_holds n d) x xs us h in
      Every.more
      (own_is n e s x k.0 (q ∙ k.2) ∙ ap (λ (y : Entry). Ok (cond (of_side s y) k.0 [])) p ∙ sym (own_is n d s x k.0 k.2))
      (own_all k.1 pp qq k.3)

  sectors_same : own_sectors n e s ≡ own_sectors n d s
  unfolding own_sectors
  sectors_same =
      rw (paged, r.paged)
      (ap (λ (o : Outcome (List (List Place))). o >>= λ ts. Ok (flat_map (λ t. t) ts)) (each_same (own_at n e s) (own_at n d s) (own_all r.us entries holds r.holds)))

  within_same : (limit k : ℕ) → within n e s limit k ≡ within n d s limit k
  unfolding within held_by
  within_same limit k = rw sectors_same refl

  -- ---- what is written is written alike
  fits : (x : ℕ) (a b : List ℕ) → starts n r.ps ≡ a ++ x ∷ b → x + 35 ≤ L
  fits x a b split = let f = line_fits n some' d size r a x b split in let l : length d ≡ L = size in omega arith

  made : (x : ℕ) (name : List ℕ) (address : ℕ) (bytes : List ℕ) → x + 35 ≤ L → (gs : List Part) (m m' : List ℕ) → take_for n (length bytes) d ≡ Ok (gs, m) → Agree L P m m'
      → Agree L P (put x (entry_record (first_list gs) 4 false name (length gs + length (data_of gs))) (written n (file_writes gs address bytes) m))
      (put x (entry_record (first_list gs) 4 false name (length gs + length (data_of gs))) (written n (file_writes gs address bytes) m'))
  made x name address bytes f gs m m' took a =
      let k = take_for_lem n some' few (length bytes) d gs m size took in
      let o = order_takes n some' few gs k.0.takes in
      let l : length (entry_record (first_list gs) 4 false name (length gs + length (data_of gs))) ≡ 35 = length_record (first_list gs) 4 false name (length gs + length (data_of gs)) in
      agree_put x (entry_record (first_list gs) 4 false name (length gs + length (data_of gs))) (written n (file_writes gs address bytes) m) (written n (file_writes gs address bytes) m') (omega arith)
      (written_two n some' P table (whole_file n (data_for (length bytes)) gs address bytes k.1 o.0 o.1) m m' a)

  stored_twins : (name : List ℕ) (address : ℕ) (bytes : List ℕ) → Twins L P (stored n d name address bytes) (stored n e name address bytes)
  unfolding saved_at
  stored_twins name address bytes =
      by_test (leb (length bytes) 32768)
      (λ q.
      ⊎_elim
      (λ w.
      let sp = first_split (λ (y : ℕ). not (in_use d y)) (starts n r.ps) w.1 (open_line_lem n d name address bytes r.ps w.1 r.paged w.2) in
      rw (q, open_same, w.2)
      (go w.1 (fits w.1 sp.0 sp.1 sp.2) (take_for n (length bytes) d) (take_for n (length bytes) e) refl (for_two n some' P table (length bytes) d e agree)))
      (λ w. rw (q, open_same, w.1) refl)
      (opened n d r (reading_tidy n d r)))
      (λ q. rw q refl)
    where
      go : (x : ℕ) → x + 35 ≤ L → (o w : Outcome (List Part × List ℕ)) → take_for n (length bytes) d ≡ o → Both L P o w
          → Twins L P (o >>= λ v. Ok (put x (entry_record (first_list v.0) 4 false name (length v.0 + length (data_of v.0))) (written n (file_writes v.0 address bytes) v.1)))
          (w >>= λ v. Ok (put x (entry_record (first_list v.0) 4 false name (length v.0 + length (data_of v.0))) (written n (file_writes v.0 address bytes) v.1)))
      go x f (Err a) (Err b) h z = z
      go x f (Err a) (Ok b) h z = absurd z
      go x f (Ok a) (Err b) h z = absurd z
      go x f (Ok a) (Ok b) h z =
          subst
          (λ (gs : List Part).
          Agree L P (put x (entry_record (first_list a.0) 4 false name (length a.0 + length (data_of a.0))) (written n (file_writes a.0 address bytes) a.1))
          (put x (entry_record (first_list gs) 4 false name (length gs + length (data_of gs))) (written n (file_writes gs address bytes) b.1)))
          z.0 (made x name address bytes f a.0 a.1 b.1 h z.1)

  -- ---- and so is what is deleted
  sectors_of_lem : (x : ℕ) (u : List Place) → in_use d x ≡ true → entry_from e x ≡ entry_from d x → line_holds n e x ≡ line_holds n d x → line_holds n d x ≡ Ok u
      → (sectors_of n d (entry_from d x) ≡ Ok u) × (sectors_of n e (entry_from e x) ≡ Ok u)
  unfolding line_holds
  sectors_of_lem x u l p q h =
      let l' : in_use e x ≡ true = ap live p ∙ l in
      let k = q ∙ h in
      (rw l at h, rw l' at k)

  erased : (x : ℕ) (u : List Place) → x + 35 ≤ L → entry_from e x ≡ entry_from d x → sectors_of n d (entry_from d x) ≡ Ok u → sectors_of n e (entry_from e x) ≡ Ok u
      → Twins L P (deleted_at n d x) (deleted_at n e x)
  unfolding deleted_at
  erased x u f p h h' =
      let q : (entry_from e x).list.track.0 ≡ (entry_from d x).list.track.0 = ap (λ (y : Entry). y.list.track.0) p in
      let a : Agree L P (freed n u d) (freed n u e) = freed_two n some' P table (sectors_on n d (entry_from d x) u h) d e agree in
      let b = agree_put x (255 ∷ []) (freed n u d) (freed n u e) (omega arith) a in
      let g = agree_put (x + 32) ((entry_from d x).list.track.0 ∷ []) (put x (255 ∷ []) (freed n u d)) (put x (255 ∷ []) (freed n u e)) (omega arith) b in
      rw (h, h')
      (subst (λ (v : ℕ). Agree L P (put (x + 32) ((entry_from d x).list.track.0 ∷ []) (put x (255 ∷ []) (freed n u d))) (put (x + 32) (v ∷ []) (put x (255 ∷ []) (freed n u e)))) (sym q) g)

  removed_twins : (name : List ℕ) → Twins L P (removed n d name) (removed n e name)
  removed_twins name = subst (λ (o : Outcome ℕ). Twins L P (removed n d name) (o >>= λ x. deleted_at n e x)) (sym (line_same name)) (go (line_of n d name) refl)
    where
      go : (o : Outcome ℕ) → line_of n d name ≡ o → Twins L P (o >>= λ x. deleted_at n d x) (o >>= λ x. deleted_at n e x)
      go (Err q) h = refl
      go (Ok x) h =
          let l = last_split (is_line n d name) (starts n r.ps) x (line_of_lem n d name r.ps x r.paged h) in
          let p = every_here l.0 x l.1 (subst (Every (λ (y : ℕ). entry_from e y ≡ entry_from d y)) l.2 entries) in
          let q = every_here l.0 x l.1 (subst (Every (λ (y : ℕ). line_holds n e y ≡ line_holds n d y)) l.2 holds) in
          let u = Rattle.amend.proofs.Kept.parts_of n d d r l.0 x l.1 l.2 in
          let k = sectors_of_lem x u.u (both_true (in_use d x) _ l.4).0 p q u.holds_x in
          erased x u.u (fits x l.0 l.1 l.2) p k.0 k.1

  -- ---- a call
  op_twins : (limit : ℕ) (op : Op) → Twins L P (call_of n d s limit op) (call_of n e s limit op)
  unfolding t
  op_twins limit (Amending.Op.save name address bytes) =
      let y : saved_for n e s limit name address bytes
      ≡ chain (savable name) (belongs s name) (not (any (holds_name name) r.ls)) (within n d s limit (length bytes)) (stored n e name address bytes) =
      save_chain n e t.0 s limit name address bytes
      ∙ (λ i. chain (savable name) (belongs s name) (not (names_same name i)) (within_same limit (length bytes) i) (stored n e name address bytes)) in
      subst (λ (o : Outcome (List ℕ)). Twins L P o (saved_for n e s limit name address bytes)) (sym (save_chain n d r s limit name address bytes))
      (subst (λ (o : Outcome (List ℕ)). Twins L P (chain (savable name) (belongs s name) (not (any (holds_name name) r.ls)) (within n d s limit (length bytes)) (stored n d name address bytes)) o) (sym y)
      (chain_twins L P (savable name) (belongs s name) (not (any (holds_name name) r.ls)) (within n d s limit (length bytes)) (stored n d name address bytes) (stored n e name address bytes) (stored_twins name address bytes)))
  op_twins limit (Amending.Op.delete name) =
      subst (λ (o : Outcome (List ℕ)). Twins L P o (deleted_for n e s limit name)) (sym (delete_chain n d r s limit name))
      (subst (λ (o : Outcome (List ℕ)). Twins L P (undo (savable name) (belongs s name) (removed n d name)) o) (sym (delete_chain n e t.0 s limit name))
      (undo_twins L P (savable name) (belongs s name) (removed n d name) (removed n e name) (removed_twins name)))

  -- the other's data sectors stay where they are
  still_is : (limit : ℕ) (op : Op) → OfBytes op → own_data n (kept d (call_of n d s limit op)) (other s) ≡ Ok ps
  still_is limit op b = go (call_of n d s limit op) refl
    where
      go : (o : Outcome (List ℕ)) → call_of n d s limit op ≡ o → own_data n (kept d o) (other s) ≡ Ok ps
      go (Err q) h = theirs
      go (Ok f) h =
          let k = effect n some' few d c s limit op b f h in
          data_stays n d f k.old k.front k.line k.back k.changed (other s) k.was_other k.is_other ∙ theirs

pub twin_clean : (n : ℕ) (some' : 0 < n) (few : n ≤ 16) (d e : List ℕ) → Clean n d → Bytes e → (s : Side) → (ps : List Place) → own_data n d s ≡ Ok ps
    → DifferIn n ps d e → Clean n e
twin_clean n some' few d e c b s ps h diff =
    let r = (reading_of n some' few d c).0 in
    let D = divide n d s (starts n r.ps) r.us r.holds in
    let q : ps ≡ flat_map (λ t. t) D.data' = given_same h (data_is_lem n d s r.ps D.data' r.paged D.data_is) in
    clean_of n some' few e b
    (twin n some' d e r s diff.size (λ i w. diff.outside i (ap (λ (l : List Place). among (i / 256) (map (number_of n) l)) q ∙ w))).0

pub always_is : (n : ℕ) (some' : 0 < n) (few : n ≤ 16) (d e : List ℕ) → Clean n d → (a : Call) → BytesIn a → (ps : List Place) → own_data n d (other a.side) ≡ Ok ps
    → DifferIn n ps d e → AlikeAlways n ps d e a
always_is n some' few d e c a b ps h diff =
    let r = (reading_of n some' few d c).0 in
    let w = op_twins n some' few d e c r a.side ps h diff a.limit a.op in
    let k = twins_kept d e (answer n d a) (answer n e a) (agree n some' few d e c r a.side ps h diff) w in
    record {
      answers = twins_silent _ _ (answer n d a) (answer n e a) w;
      leaves = record { size = k.size_e ∙ sym k.size_d; outside = k.at };
      still = still_is n some' few d e c r a.side ps h diff a.limit a.op b;
    }
