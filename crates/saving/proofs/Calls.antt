-- What the tests of a save and a delete tell, one after the other. Assumes nothing.
use mathlib.Core.Path.{◌≡◌, refl, sym, ap, ◌∙◌}
use mathlib.Core.Bool.{Bool, true, false, not}
use mathlib.Core.List.{List, [], ◌∷◌, flat_map, append-nil}
use mathlib.Core.Option.{Option, none, some}
use Prim.Native.Nat.{ℕ, ◌+◌, ◌*◌, ◌<◌, ◌≤◌, ◌^◌}
use native.Mathlib.Omega.{arith}
use lib.ListN.{length, get_or, replicate}
use lib.Dec.{leb, ltb}
use borrow.Author.Tests.{lt-leb, le-leb, lt-ltb, le-ltb, not-true, not-false}
use borrow.Author.Rules.{rules}
use Rattle.lists.specs.Fill.{put, placed, padded}
use Rattle.lists.specs.Select.{all, any}
use Rattle.lists.proofs.Split.{by_lt, both_true}
use Rattle.lists.proofs.Put.{placed_put}
use Rattle.lists.proofs.Every.{every_imp}
use Rattle.std.specs.Prelude as rust
use Rattle.std.specs.Prelude.{Ok, Err, Some, None, is_some, unwrap_or}
use Rattle.outcome.specs.declared.Refusal.{Refusal}
use Rattle.outcome.specs.declared.Refusal.TheVariants.{UnwritableName, NotOnRoll, NameTaken, NoSpace, OtherSide, OverLimit}
use Rattle.outcome.specs.Outcome.{Outcome, ◌>>=◌, ◌>>◌, require, Hands}
use Rattle.outcome.proofs.Outcome.{gives, refused_given, some_none}
use Rattle.outcome.proofs.Silent.{silent}
use Rattle.disk.specs.declared.Place.{Place}
use Rattle.disk.specs.Disk.{place, start, bytes_of, on_disk}
use Rattle.disk.specs.Vtoc.{vtoc}
use Rattle.catalog.specs.Catalog.{entry_from}
use Rattle.files.specs.Contents.{Contents, list_walk, lists, pairs_of, place_bytes}
use Rattle.records.specs.Records.{entry_record, entry_written}
use Rattle.records.proofs.Entries.{length_record}
use Rattle.holders.specs.Holders.{with_pairs}
use Rattle.holders.proofs.Tallies.{silent_given}
use Rattle.holders.proofs.Refusals.{contents_with, sectors_given, sectors_on}
use Rattle.amend.specs.Lines.{first_of, last_of, in_use, savable, starts, line_of, open_line, tidy, present, holds_name}
use Rattle.amend.specs.Search.{freed}
use Rattle.amend.specs.Save.{Part, data_for, lists_for, take_for, first_list, sectors_in, data_of, written, file_writes, is_new, stored, saved, saved_at, removed, deleted, deleted_at}
use Rattle.amend.specs.Amending.{kept}
use Rattle.amend.proofs.Lines.{line_holds}
use Rattle.amend.proofs.Takes.{Taker, Taking, Shaped, shaped_data, take_for_lem}
use Rattle.amend.proofs.Saves.{savable_parts}
use Rattle.amend.proofs.Reading.{Reading, given_same, contents_size, tidy_given, tidy_reading, reading_tidy}
use Rattle.amend.proofs.Kept.{parts_of}
use Rattle.amend.proofs.Mid.{line_fits}
use Rattle.amend.proofs.Listed.{any_present, any_here, first_split, last_split, last_none, line_name, each_any}
use Rattle.sides.specs.declared.Side.{Side}
use Rattle.sides.specs.Sides.{belongs, held_by, within, saved_for, deleted_for}
use Rattle.sides.specs.Steps.{tally}
use Rattle.sides.proofs.Own.{own_given, held_is}
use Rattle.sides.proofs.Counts.{counted}
use Rattle.allot.specs.Table.{Allotted}
use Rattle.allot.proofs.Allots.{places_fit, allotted_none, allotted_all}
use Rattle.filing.specs.Filing.{place_in, filed, Filed}
use Rattle.filing.proofs.Filed.{filed_long, filed_written, first_place_lem}
use Rattle.saving.specs.declared.Sight.{Sight}
use Rattle.saving.specs.Saving.{Amended}
use Rattle.saving.specs.declared.Asker.{Asker}
use Rattle.saving.specs.Askers.{Caller, no_side, one_side, may_name, over_limit, room_for, name_allowed, saved_by, deleted_by}
use Rattle.saving.specs.Steps.{found_line, bears, idle, sight_of, Seen, Paged, frees, Linked, ListsFreed, Copied, Erasable, Erased, Seated, Storable, EntryPut, FilePut}
use Rattle.saving.proofs.Freeing.{length_frees, vtoc_long, copy_is, copy_freed}

-- not over is within
leb_ltb : (a b : ℕ) → leb a b ≡ not (ltb b a)
leb_ltb a b = by_lt b a (λ h. rw (lt-leb a b h, lt-ltb b a h) refl) (λ h. rw (le-leb a b h, le-ltb b a h) refl)

-- a line that was found, and one that was not
some_of : (o : Option ℕ) (x : ℕ) → found_line o ≡ Some x → o ≡ some x
some_of none x e = absurd (some_none (sym e))
some_of (some y) x e = ap (λ o. some (unwrap_or o 0)) e

none_of : (o : Option ℕ) → found_line o ≡ None → o ≡ none
none_of none e = refl
none_of (some y) e = absurd (some_none e)

-- a call that is refused leaves the disk
refuses : {o : Outcome (List ℕ)} (d : List ℕ) (r : Refusal) → o ≡ Err r → Amended o d d (Err r)
refuses d r e = record { is = sym (ap silent e); disk = sym (ap (kept d) e) }

-- .. and one that is not leaves what it gives
accepts : {o : Outcome (List ℕ)} (d e : List ℕ) → o ≡ Ok e → Amended o d e (Ok tt)
accepts d e q = record { is = sym (ap silent q); disk = sym (ap (kept d) q) }

same_call : {o p : Outcome (List ℕ)} {d after : List ℕ} {r : Outcome (Unit {0})} → o ≡ p → Amended p d after r → Amended o d after r
same_call {o} {p} {d} e a = record { is = a.is ∙ sym (ap silent e); disk = a.disk ∙ sym (ap (kept d) e) }

-- ---- a disk that is read, and is clean
module _ (d : List ℕ) (c : Contents) (h : tidy 16 d ≡ Ok c) where
  reading : Reading 16 d
  reading = (tidy_reading 16 d c h).0

  pub tidy_size : length d ≡ 143360
  tidy_size = contents_size 16 d c (tidy_given 16 d c h).1

  pub tidy_pages : Paged d
  tidy_pages = record { places = reading.ps; is = reading.paged }

-- ---- what both calls begin with
module _ (d : List ℕ) (a : Caller) (name : List ℕ) where
  pub allow_refused : (v : Outcome (Unit {0})) (e : Refusal) → v ≡ Err e → Err e ≡ silent (tidy 16 d) → v ≡ silent (name_allowed 16 d a name)
  unfolding name_allowed
  allow_refused v e z h = z ∙ go _ (tidy 16 d) h
    where
      go : (f : Contents → Outcome Contents) (o : Outcome Contents) → Err e ≡ silent o → Err e ≡ silent (o >>= f)
      go f (Err r) q = q
      go f (Ok c) q = absurd (refused_given q)

  allowed_from : (c : Contents) → tidy 16 d ≡ Ok c → name_allowed 16 d a name ≡ (require (savable name) UnwritableName >> require (may_name a name) OtherSide >> Ok c)
  unfolding name_allowed
  allowed_from c h = rw h refl

  -- the two tests, and what they come to
  abbrev tests : Contents → (w v : Bool) → Outcome Contents
  tests c w v = require w UnwritableName >> require v OtherSide >> Ok c

  module _ (e : Ok tt ≡ silent (tidy 16 d)) where
    allowed_is : (w v : Bool) → savable name ≡ w → may_name a name ≡ v → (c : Contents) × (silent (name_allowed 16 d a name) ≡ silent (tests c w v))
    allowed_is w v f g =
        let t = silent_given (tidy 16 d) (sym e) in
        (t.0, ap silent (allowed_from t.0 t.1) ∙ (λ i. silent (tests t.0 (f i) (g i))))

    module _ (w : Bool) (f : w ≡ savable name) where
      pub allow_unwritable : w ≡ false → Err UnwritableName ≡ silent (name_allowed 16 d a name)
      allow_unwritable h = sym (allowed_is false (may_name a name) (sym f ∙ h) refl).1

      module _ (y : w ≡ true) (v : Bool) (g : v ≡ may_name a name) where
        pub allow_other : v ≡ false → Err OtherSide ≡ silent (name_allowed 16 d a name)
        allow_other h = sym (allowed_is true false (sym f ∙ y) (sym g ∙ h)).1

        pub allow_all : v ≡ true → Ok tt ≡ silent (name_allowed 16 d a name)
        allow_all h = sym (allowed_is true true (sym f ∙ y) (sym g ∙ h)).1

  -- where nothing is refused, the disk is tidy and the name allowed
  allowed_parts : (c : Contents) → name_allowed 16 d a name ≡ Ok c → (tidy 16 d ≡ Ok c) × (savable name ≡ true)
  unfolding name_allowed
  allowed_parts c h =
      let g = gives (tidy 16 d) _ c h in
      let t = steps g.0 (savable name) (may_name a name) g.2 in
      (g.1 ∙ ap Ok t.1, t.0)
    where
      steps : (x : Contents) (w v : Bool) → require w UnwritableName >> require v OtherSide >> Ok x ≡ Ok c → (w ≡ true) × (x ≡ c)
      steps x true true q = (refl, given_same refl q)
      steps x true false q = absurd (refused_given q)
      steps x false v q = absurd (refused_given q)

pub ruleset allows = (allow_refused, allow_unwritable, allow_other, allow_all, not-true, not-false, rules)

module _ (d : List ℕ) (a : Caller) (name : List ℕ) where
  -- ---- a call that is refused so
  module _ (v : Outcome (Unit {0})) (e : Refusal) (z : v ≡ Err e) (h : Err e ≡ silent (name_allowed 16 d a name)) where
    pub delete_refused : Amended (deleted_by 16 d a name) d d v
    unfolding deleted_by
    delete_refused = rw z (go (name_allowed 16 d a name) h)
      where
        go : (o : Outcome Contents) → Err e ≡ silent o → Amended (o >> (line_of 16 d name >>= λ x. deleted_at 16 d x)) d d (Err e)
        go (Err r) q = record { is = q; disk = refl }
        go (Ok c) q = absurd (refused_given q)

    pub save_refused : (address : ℕ) (bytes : List ℕ) → Amended (saved_by 16 d a name address bytes) d d v
    unfolding saved_by
    save_refused address bytes = rw z (go _ (name_allowed 16 d a name) h)
      where
        go : (f : Contents → Outcome (List ℕ)) (o : Outcome Contents) → Err e ≡ silent o → Amended (o >>= f) d d (Err e)
        go f (Err r) q = record { is = q; disk = refl }
        go f (Ok c) q = absurd (refused_given q)

  -- ---- one that is not
  module _ (e : Ok tt ≡ silent (name_allowed 16 d a name)) where
    has : (c : Contents) × (name_allowed 16 d a name ≡ Ok c)
    has = silent_given (name_allowed 16 d a name) (sym e)

    tidied : tidy 16 d ≡ Ok has.0
    tidied = (allowed_parts d a name has.0 has.1).0

    reads : Reading 16 d
    reads = reading d has.0 tidied

    pub tidy_long : length d ≡ 143360
    tidy_long = tidy_size d has.0 tidied

    pub tidy_paged : Paged d
    tidy_paged = tidy_pages d has.0 tidied

    -- the name is new by the contents where it is by the lines
    new_is : is_new has.0 name ≡ not (any (holds_name name) reads.ls)
    new_is =
        let q : has.0 ≡ contents_with 16 d (present reads.ls) = given_same tidied (reading_tidy 16 d reads) in
        ap (λ (c : Contents). is_new c name) q ∙ ap not (any_present name reads.ls)

    -- what the side that asks holds is what was counted
    over_is : (k : ℕ) → room_for 16 d a k ≡ require (not (over_limit d a k)) OverLimit
    unfolding within
    over_is k = go a
      where
        go : (b : Caller) → room_for 16 d b k ≡ require (not (over_limit d b k)) OverLimit
        go None = refl
        go (Some b) =
            let g = own_given 16 d b.side reads in
            let m : ℕ = length (flat_map (λ t. t) g.0) in
            let h : held_by 16 d b.side ≡ Ok m = held_is 16 d b.side (flat_map (λ t. t) g.0) g.2 in
            let q : tally 16 d b.side ≡ m = counted 16 d b.side m h in
            rw (h, q) (ap (λ (x : Bool). require x OverLimit) (leb_ltb (m + (lists_for (data_for k) + data_for k)) b.limit))

    deleted_is : deleted_by 16 d a name ≡ (line_of 16 d name >>= λ x. deleted_at 16 d x)
    unfolding deleted_by
    deleted_is = rw has.1 refl

    saved_is : (address : ℕ) (bytes : List ℕ) → saved_by 16 d a name address bytes
        ≡ (require (not (any (holds_name name) reads.ls)) NameTaken >> require (not (over_limit d a (length bytes))) OverLimit >> stored 16 d name address bytes)
    unfolding saved_by
    saved_is address bytes = rw (has.1, new_is, over_is (length bytes)) refl

    -- ---- what a look found
    module _ (s : Sight) (u : Seen d name s) where
      abbrev every : List ℕ
      every = starts 16 reads.ps

      seen_is : s ≡ sight_of d name every
      seen_is = u.is reads.ps reads.paged

      last_is : (x : ℕ) → s.line ≡ Some x → last_of (bears d name) every ≡ some x
      unfolding sight_of
      last_is x h = some_of (last_of (bears d name) every) x (sym (ap (λ (t : Sight). t.line) seen_is) ∙ h)

      last_not : s.line ≡ None → last_of (bears d name) every ≡ none
      unfolding sight_of
      last_not h = none_of (last_of (bears d name) every) (sym (ap (λ (t : Sight). t.line) seen_is) ∙ h)

      first_is : (x : ℕ) → s.room ≡ Some x → first_of (idle d) every ≡ some x
      unfolding sight_of
      first_is x h = some_of (first_of (idle d) every) x (sym (ap (λ (t : Sight). t.room) seen_is) ∙ h)

      first_not : s.room ≡ None → first_of (idle d) every ≡ none
      unfolding sight_of
      first_not h = none_of (first_of (idle d) every) (sym (ap (λ (t : Sight). t.room) seen_is) ∙ h)

      any_is : any (holds_name name) reads.ls ≡ any (bears d name) every
      any_is = each_any 16 d (holds_name name) (bears d name) (line_name 16 d name) every reads.ls reads.files

      any_found : (o : rust.Option ℕ) → s.line ≡ o → any (holds_name name) reads.ls ≡ is_some o
      any_found None e = any_is ∙ last_none (bears d name) every (last_not e)
      any_found (Some x) e =
          let l = last_split (bears d name) every x (last_is x e) in
          any_is ∙ ap (any (bears d name)) l.2 ∙ any_here (bears d name) l.0 x l.1 l.4

      pub erase_this : (x : ℕ) → s.line ≡ Some x → Erasable d x
      unfolding line_holds
      erase_this x h =
          let l = last_split (bears d name) every x (last_is x h) in
          let p = parts_of 16 d d reads l.0 x l.1 l.2 in
          let t : in_use d x ≡ true = (both_true (in_use d x) _ l.4).0 in
          record {
            size = tidy_long;
            fits = line_fits 16 (omega arith) d tidy_long reads l.0 x l.1 l.2;
            places = p.u;
            is = sym (rw t refl) ∙ p.holds_x;
          }

      -- ---- a delete
      pub delete_missing : s.line ≡ None → Amended (deleted_by 16 d a name) d d (Err NotOnRoll)
      unfolding line_of
      delete_missing h = refuses d NotOnRoll (deleted_is ∙ rw (reads.paged, last_not h) refl)

      pub delete_there : (x : ℕ) → s.line ≡ Some x → (after : List ℕ) → Erased d x after → Amended (deleted_by 16 d a name) d after (Ok tt)
      unfolding line_of
      delete_there x h after e = accepts d after (deleted_is ∙ rw (reads.paged, last_is x h) e.is)

      -- ---- a save
      pub save_seated : Seated d name s
      unfolding open_line
      save_seated =
          record {
            size = tidy_long;
            named = (allowed_parts d a name has.0 has.1).1;
            full = λ v. rw (reads.paged, first_not v) refl;
            room = λ x v.
                let g = first_split (idle d) every x (first_is x v) in
                (rw (reads.paged, first_is x v) refl, line_fits 16 (omega arith) d tidy_long reads g.0 x g.1 g.2);
          }

      module _ (address : ℕ) (bytes : List ℕ) where
        pub save_taken : (b : Bool) → b ≡ is_some s.line → b ≡ true → Amended (saved_by 16 d a name address bytes) d d (Err NameTaken)
        save_taken b e h = refuses d NameTaken (saved_is address bytes ∙ rw (any_found s.line refl, ← e, h) refl)

        module _ (b : Bool) (i : b ≡ is_some s.line) (h : b ≡ false) (o : Bool) (l : o ≡ over_limit d a (length bytes)) where
          pub save_over : o ≡ true → Amended (saved_by 16 d a name address bytes) d d (Err OverLimit)
          save_over t = refuses d OverLimit (saved_is address bytes ∙ rw (any_found s.line refl, ← i, h, ← l, t) refl)

          pub save_settled : (after : List ℕ) (r : Outcome (Unit {0})) → Amended (stored 16 d name address bytes) d after r → o ≡ false
              → Amended (saved_by 16 d a name address bytes) d after r
          save_settled after r k t = same_call (saved_is address bytes ∙ rw (any_found s.line refl, ← i, h, ← l, t) refl) k

-- ---- the end of a save
module _ (d name : List ℕ) (s : Sight) (h : Seated d name s) (address : ℕ) (bytes : List ℕ) where
  pub settle_long : 32768 < length bytes → Amended (stored 16 d name address bytes) d d (Err NoSpace)
  settle_long k = refuses d NoSpace (rw (lt-leb (length bytes) 32768 k) refl)

  module _ (k : length bytes ≤ 32768) where
    pub settle_full : s.room ≡ None → Amended (stored 16 d name address bytes) d d (Err NoSpace)
    settle_full v = refuses d NoSpace (rw (le-leb (length bytes) 32768 k, h.full v) refl)

    pub settle_storable : (x : ℕ) → s.room ≡ Some x → Storable d x name bytes
    settle_storable x v = record { size = h.size; fits = (h.room x v).1; named = h.named; short = k }

    pub settle_stored : (x : ℕ) → s.room ≡ Some x → (after : List ℕ) (r : Outcome (Unit {0})) → Amended (saved_at 16 d x name address bytes) d after r
        → Amended (stored 16 d name address bytes) d after r
    settle_stored x v after r b = same_call (rw (le-leb (length bytes) 32768 k, (h.room x v).0) refl) b

pub ruleset settles = (settle_long, settle_full, settle_storable, settle_stored, not-true, not-false, rules)

-- ---- who asks
pub may_all : (a : Caller) (name : List ℕ) → a ≡ None → true ≡ may_name a name
may_all a name h = rw h refl

pub may_own : (a : Caller) (b : Asker) (name : List ℕ) (r : Bool) → r ≡ belongs b.side name → a ≡ Some b → r ≡ may_name a name
may_own a b name r e h = rw h e

pub over_none : (d : List ℕ) (a : Caller) (k : ℕ) → a ≡ None → false ≡ over_limit d a k
over_none d a k h = rw h refl

pub over_side : (d : List ℕ) (a : Caller) (b : Asker) (k m l c : ℕ) → c ≡ tally 16 d b.side → m ≡ data_for k → l ≡ lists_for m → a ≡ Some b
    → ltb b.limit (c + (l + m)) ≡ over_limit d a k
over_side d a b k m l c e f g h = rw h (λ i. ltb b.limit (e i + ((g ∙ ap lists_for f) i + f i)))

-- ---- the calls of Req 09 and Req 10 are these
-- the tests of a save and a delete in one row, and cut after the name's
module _ (o : Outcome Contents) (w v : Bool) where
  abbrev front : Outcome Contents
  front = o >>= λ c. require w UnwritableName >> require v OtherSide >> Ok c

  row_saves : (t : Contents → Bool) (l : Outcome (Unit {0})) (e : Outcome (List ℕ))
      → (o >>= λ c. require w UnwritableName >> require v OtherSide >> require (t c) NameTaken >> l >> e) ≡ (front >>= λ c. require (t c) NameTaken >> l >> e)
  row_saves t l e = go o w v
    where
      go : (o : Outcome Contents) (w v : Bool)
          → (o >>= λ c. require w UnwritableName >> require v OtherSide >> require (t c) NameTaken >> l >> e)
          ≡ ((o >>= λ c. require w UnwritableName >> require v OtherSide >> Ok c) >>= λ c. require (t c) NameTaken >> l >> e)
      go (Err r) w v = refl
      go (Ok c) false v = refl
      go (Ok c) true false = refl
      go (Ok c) true true = refl

  row_deletes : (e : Outcome (List ℕ)) → (o >> require w UnwritableName >> require v OtherSide >> e) ≡ (front >> e)
  row_deletes e = go o w v
    where
      go : (o : Outcome Contents) (w v : Bool)
          → (o >> require w UnwritableName >> require v OtherSide >> e) ≡ ((o >>= λ c. require w UnwritableName >> require v OtherSide >> Ok c) >> e)
      go (Err r) w v = refl
      go (Ok c) false v = refl
      go (Ok c) true false = refl
      go (Ok c) true true = refl

module _ (d name : List ℕ) where
  -- without a side its tests fall away
  no_side_saves : (address : ℕ) (bytes : List ℕ) → saved 16 d name address bytes ≡ saved_by 16 d no_side name address bytes
  unfolding saved_by saved name_allowed
  no_side_saves address bytes = go (tidy 16 d)
    where
      steps : (w t : Bool) (o : Outcome (List ℕ))
          → require w UnwritableName >> require t NameTaken >> o ≡ require w UnwritableName >> require true OtherSide >> require t NameTaken >> room_for 16 d no_side (length bytes) >> o
      steps false t o = refl
      steps true false o = refl
      steps true true o = refl

      go : (o : Outcome Contents)
          → (o >>= λ c. require (savable name) UnwritableName >> require (is_new c name) NameTaken >> stored 16 d name address bytes)
          ≡ ((o >>= λ c. require (savable name) UnwritableName >> require true OtherSide >> Ok c)
          >>= λ c. require (is_new c name) NameTaken >> room_for 16 d no_side (length bytes) >> stored 16 d name address bytes)
      go (Err r) = refl
      go (Ok c) =
          steps (savable name) (is_new c name) (stored 16 d name address bytes)
          ∙ row_saves (Ok c) (savable name) true (λ x. is_new x name) (room_for 16 d no_side (length bytes)) (stored 16 d name address bytes)

  no_side_deletes : deleted 16 d name ≡ deleted_by 16 d no_side name
  unfolding deleted_by deleted name_allowed
  no_side_deletes = go (tidy 16 d) (savable name) ∙ row_deletes (tidy 16 d) (savable name) true (removed 16 d name)
    where
      go : (o : Outcome Contents) (w : Bool) → (o >> require w UnwritableName >> removed 16 d name) ≡ (o >> require w UnwritableName >> require true OtherSide >> removed 16 d name)
      go (Err r) w = refl
      go (Ok c) false = refl
      go (Ok c) true = refl

  module _ (after : List ℕ) (r : Outcome (Unit {0})) where
    pub no_side_saved : (address : ℕ) (bytes : List ℕ) → Amended (saved_by 16 d no_side name address bytes) d after r → Amended (saved 16 d name address bytes) d after r
    no_side_saved address bytes h = same_call (no_side_saves address bytes) h

    pub no_side_deleted : Amended (deleted_by 16 d no_side name) d after r → Amended (deleted 16 d name) d after r
    no_side_deleted h = same_call no_side_deletes h

    pub one_side_saved : (s : Side) (limit address : ℕ) (bytes : List ℕ) → Amended (saved_by 16 d (one_side s limit) name address bytes) d after r
        → Amended (saved_for 16 d s limit name address bytes) d after r
    unfolding saved_by saved_for name_allowed
    one_side_saved s limit address bytes h =
        same_call (row_saves (tidy 16 d) (savable name) (belongs s name) (λ c. is_new c name) (within 16 d s limit (length bytes)) (stored 16 d name address bytes)) h

    pub one_side_deleted : (s : Side) (limit : ℕ) → Amended (deleted_by 16 d (one_side s limit) name) d after r → Amended (deleted_for 16 d s limit name) d after r
    unfolding deleted_by deleted_for name_allowed
    one_side_deleted s limit h = same_call (row_deletes (tidy 16 d) (savable name) (belongs s name) (removed 16 d name)) h

pub ruleset askers = (may_all, may_own, over_none, over_side, no_side_saved, one_side_saved, no_side_deleted, one_side_deleted, not-true, not-false, rules)

pub ruleset deletes = (delete_refused, tidy_long, tidy_paged, delete_missing, delete_there, erase_this, not-true, not-false, rules)

pub ruleset saves = (save_refused, tidy_long, tidy_paged, save_taken, save_over, save_settled, save_seated, not-true, not-false, rules)

-- ---- a line deleted
module _ (d : List ℕ) (x : ℕ) (h : Erasable d x) where
  pub erase_long : length d ≡ 143360
  erase_long = h.size

  pub erase_fits : x + 32 < 2 ^ 64
  erase_fits = let a = h.fits in let b = h.size in omega arith

  pub erase_linked : (p : Place) → p ≡ (entry_from d x).list → Linked d p
  erase_linked p e =
      let g = sectors_given 16 d (entry_from d x) h.places h.is in
      record { lists = g.0; is = ap (list_walk 16 d) e ∙ g.1 }

  -- the copy, put back
  module _ (p : Place) (T T' : List ℕ) (c : Copied d T) (l : ListsFreed d p T T') (e : p ≡ (entry_from d x).list) where
    given_lists : (ls : List Place) × (lists 16 d (entry_from d x) ≡ Ok ls) × (all (on_disk 16) (flat_map (pairs_of 16 d) ls) ≡ true) × (h.places ≡ flat_map (with_pairs 16 d) ls)
    given_lists = sectors_given 16 d (entry_from d x) h.places h.is

    table_is : T' ≡ frees (bytes_of 16 d vtoc) h.places
    table_is =
        let g = given_lists in
        l.is g.0 (ap (list_walk 16 d) e ∙ g.1) ∙ (λ i. frees (copy_is d T c h.size i) (sym g.3 i))

    long : length T' ≡ 256
    long = ap length table_is ∙ length_frees (bytes_of 16 d vtoc) h.places ∙ vtoc_long d h.size

    pub erase_done : (t : ℕ) (d₁ d₂ d₃ : List ℕ) → t ≡ get_or d x 0 → d₁ ≡ placed 69632 T' d → d₂ ≡ placed x (255 ∷ []) d₁ → d₃ ≡ placed (x + 32) (t ∷ []) d₂
        → Erased d x d₃
    unfolding deleted_at
    erase_done t d₁ d₂ d₃ f a₁ a₂ a₃ =
        let z = h.size in
        let y = h.fits in
        let k = long in
        let p₁ = placed_put a₁ (omega arith) in
        let l₁ : length d₁ ≡ length d = p₁.long in
        let p₂ = placed_put a₂ (omega arith) in
        let l₂ : length d₂ ≡ length d₁ = p₂.long in
        let p₃ = placed_put a₃ (omega arith) in
        let q₁ : d₁ ≡ freed 16 h.places d =
        p₁.is ∙ ap (λ (U : List ℕ). put 69632 U d) table_is ∙ copy_freed d h.size (sectors_on 16 d (entry_from d x) h.places h.is) in
        let q₃ : d₃ ≡ put (x + 32) (get_or d x 0 ∷ []) (put x (255 ∷ []) (freed 16 h.places d)) =
        p₃.is ∙ (λ i. put (x + 32) (f i ∷ []) ((p₂.is ∙ ap (put x (255 ∷ [])) q₁) i)) in
        record { is = rw h.is (ap Ok (sym q₃)) }

pub ruleset erases = (erase_long, erase_fits, erase_linked, erase_done, rules)

-- ---- a file stored
-- its entry
made_is : (p : Place) (name : List ℕ) (count : ℕ) (out : List ℕ) (r : Outcome ℕ) → Hands (entry_written p 4 false name count) (replicate 35 0) out r
    → savable name ≡ true → out ≡ entry_record p 4 false name count
unfolding entry_written
made_is p name count out r h w =
    let l = length_record p 4 false name count in
    h.left ∙ rw ((savable_parts name w).0, l, l) (append-nil (entry_record p 4 false name count))

pub entry_writes_lem : (x : ℕ) (P name : List ℕ) (count a b : ℕ) (before after out : List ℕ) (r : Outcome ℕ)
    → Hands (entry_written (place a b) 4 false name count) (replicate 35 0) out r → after ≡ placed x out before → a ≡ get_or P 0 0 → b ≡ get_or P 1 0
    → savable name ≡ true → EntryPut x P name count before after
entry_writes_lem x P name count a b before after out r h e f g w =
    record {
      is =
          e ∙ ap (λ (o : List ℕ). placed x o before) (made_is (place a b) name count out r h w)
          ∙ (λ i. placed x (entry_record (place (f i) (g i)) 4 false name count) before);
    }

pub ruleset entry_writes = (entry_writes_lem, rules)

-- its sectors and its entry
pub file_puts_lem : (x : ℕ) (P name : List ℕ) (address : ℕ) (bytes : List ℕ) (m : ℕ) (d d₁ d₂ : List ℕ) → EntryPut x P name m d₁ d₂ → Filed P address bytes d d₁
    → m ≡ lists_for (data_for (length bytes)) + data_for (length bytes) → FilePut x P name address bytes d d₂
file_puts_lem x P name address bytes m d d₁ d₂ e f q =
    record { is = e.is ∙ (λ i. placed x (entry_record (place_in P 0) 4 false name (q i)) (f.is i)) }

module _ (d : List ℕ) (x : ℕ) (name : List ℕ) (address : ℕ) (bytes : List ℕ) (h : Storable d x name bytes) where
  pub store_long : length d ≡ 143360
  store_long = h.size

  pub store_short : length bytes ≤ 32768
  store_short = h.short

  pub store_named : savable name ≡ true
  store_named = h.named

  module _ (m : ℕ) (T T' P' : List ℕ) (b : Bool) (a : Allotted m T (replicate 262 0) T' P' b) (c : Copied d T) (q : m ≡ lists_for (data_for (length bytes)) + data_for (length bytes)) where
    fit : 2 * m ≤ 262
    fit = rw q (places_fit (length bytes) h.short)

    pub store_none : b ≡ false → Amended (saved_at 16 d x name address bytes) d d (Err NoSpace)
    unfolding saved_at
    store_none f = refuses d NoSpace (rw (allotted_none d h.size (length bytes) m 262 T (replicate 262 0) T' P' b a q (copy_is d T c h.size) refl fit f) refl)

    module _ (f : b ≡ true) where
      all_given : (gs : List Part) × (take_for 16 (length bytes) d ≡ Ok (gs, put (start 16 vtoc) T' d)) × (P' ≡ padded 262 (flat_map place_bytes (sectors_in gs))) × (length T' ≡ 256)
      all_given = allotted_all d h.size (length bytes) m 262 T (replicate 262 0) T' P' b a q (copy_is d T c h.size) refl fit f

      abbrev gs : List Part
      gs = all_given.0

      takings : Taking 16 d (sectors_in gs) (put 69632 T' d) × Shaped (data_for (length bytes)) false gs × (length gs ≡ lists_for (data_for (length bytes)))
      takings = take_for_lem 16 (omega arith) (omega arith) (length bytes) d gs (put 69632 T' d) h.size all_given.1

      pub store_done : (d₁ d₃ : List ℕ) → FilePut x P' name address bytes d₁ d₃ → d₁ ≡ placed 69632 T' d → Amended (saved_at 16 d x name address bytes) d d₃ (Ok tt)
      unfolding saved_at
      store_done d₁ d₃ e₃ e₁ =
          let d₂ : List ℕ = filed P' address bytes d₁ in
          let z = h.size in
          let y = h.fits in
          let k : length T' ≡ 256 = all_given.3 in
          let p₁ = placed_put e₁ (omega arith) in
          let l₁ : length d₁ ≡ length d = p₁.long in
          let l₂ : length d₂ ≡ length d₁ = filed_long P' address bytes d₁ in
          let on = every_imp (λ (p : Place) (t : Taker 16 p). t.on) takings.0.takes in
          let q₂ : d₂ ≡ written 16 (file_writes gs address bytes) d₁ =
          filed_written P' gs all_given.2 address bytes d₁ h.short takings.1 takings.2 on (l₁ ∙ h.size) in
          let j = length_record (place_in P' 0) 4 false name (lists_for (data_for (length bytes)) + data_for (length bytes)) in
          let p₃ = placed_put e₃.is (omega arith) in
          let count : lists_for (data_for (length bytes)) + data_for (length bytes) ≡ length gs + length (data_of gs) = (λ i. sym takings.2 i + sym (shaped_data (data_for (length bytes)) false gs takings.1) i) in
          let q₃ : d₃ ≡ put x (entry_record (first_list gs) 4 false name (length gs + length (data_of gs))) (written 16 (file_writes gs address bytes) (put 69632 T' d)) =
          p₃.is
          ∙ (λ i. put x (entry_record (first_place_lem P' gs all_given.2 i) 4 false name (count i)) ((q₂ ∙ ap (written 16 (file_writes gs address bytes)) p₁.is) i)) in
          accepts d d₃ (rw all_given.1 (ap Ok (sym q₃)))

pub ruleset stores = (store_long, store_short, store_named, store_none, store_done, not-true, not-false, rules)
