-- One call that is accepted: it is a save or a delete of Req 09 in a line that is not the other side's. Assumes nothing.
use mathlib.Core.Path.{◌≡◌, refl, sym, ap, ◌∙◌}
use mathlib.Core.Bool.{Bool, true, false, not, ◌&&◌}
use mathlib.Core.List.{List, [], ◌∷◌, flat_map}
use Prim.Native.Nat.{ℕ, ◌+◌, ◌<◌, ◌≤◌}
use native.Mathlib.Omega.{arith}
use lib.ListN.{length, length-append}
use borrow.Author.Tests.{leb-true, not-true}
use Rattle.lists.specs.Every.{Every}
use Rattle.lists.specs.Fill.{Bytes}
use Rattle.lists.proofs.Split.{both_true, and_false}
use Rattle.lists.proofs.Equal.{same_eq}
use Rattle.std.specs.Prelude.{Ok, Err}
use Rattle.outcome.specs.declared.Refusal.TheVariants.{UnwritableName, NameTaken, OtherSide, OverLimit}
use Rattle.outcome.specs.Outcome.{Outcome, ◌>>◌, require}
use Rattle.outcome.proofs.Outcome.{gives, refused_given, required}
use Rattle.disk.specs.declared.Place.{Place}
use Rattle.catalog.specs.Catalog.{Entry, live, shown, entry_from}
use Rattle.files.specs.Contents.{Contents}
use Rattle.holders.specs.Holders.{sectors_of}
use Rattle.amend.specs.Lines.{savable, starts, in_use, is_named, tidy}
use Rattle.amend.specs.Save.{Part, data_for, lists_for, sectors_in, data_of, is_new, stored, removed, saved, deleted}
use Rattle.amend.specs.Amending.{Op, OfBytes, Clean}
use Rattle.amend.specs.Amending
use Rattle.amend.proofs.Lines.{line_holds}
use Rattle.amend.proofs.Reading.{Reading}
use Rattle.amend.proofs.Kept.{Changed}
use Rattle.amend.proofs.Mid.{After, LineKept}
use Rattle.amend.proofs.Listed.{first_split}
use Rattle.amend.proofs.Deletes.{delete_clean}
use Rattle.amend.proofs.Amending.{reading_of, size_of}
use Rattle.amend.proofs.Saves.{Filled, save_clean, open_line_lem}
use Rattle.sides.specs.declared.Side.{Side}
use Rattle.sides.specs.Sides.{other, begins_s, belongs, of_side, own_at, held_by, within, saved_for, deleted_for, call_of}

-- a name of one side is not the other's
pub other_no : (s : Side) (x : List ℕ) → belongs s x ≡ true → belongs (other s) x ≡ false
other_no Side.Survey x h = rw h refl
other_no Side.Ours x h = not-true (begins_s x) h

-- lists and data of a save
pub sectors_many : (gs : List Part) → length (sectors_in gs) ≡ length gs + length (data_of gs)
unfolding flat_map
sectors_many [] = refl
sectors_many (g ∷ gs) =
    let i = sectors_many gs in
    let a = length-append g.pairs (sectors_in gs) in
    let b = length-append g.pairs (data_of gs) in
    omega arith

-- ---- an accepted call is an accepted save or delete
module _ (n : ℕ) (d : List ℕ) (s : Side) (limit : ℕ) where
  saved_by_lem : (name : List ℕ) (address : ℕ) (bytes e : List ℕ) (c : Contents) → tidy n d ≡ Ok c → savable name ≡ true → is_new c name ≡ true
      → stored n d name address bytes ≡ Ok e → saved n d name address bytes ≡ Ok e
  unfolding saved
  saved_by_lem name address bytes e c h a b o = rw (h, a, b) o

  pub saved_for_lem : (name : List ℕ) (address : ℕ) (bytes e : List ℕ) → saved_for n d s limit name address bytes ≡ Ok e
      → (belongs s name ≡ true) × (within n d s limit (length bytes) ≡ Ok tt) × (saved n d name address bytes ≡ Ok e)
  unfolding saved_for
  saved_for_lem name address bytes e h =
      let g = gives (tidy n d) _ e h in
      let k = steps (savable name) (belongs s name) (is_new g.0 name) (within n d s limit (length bytes)) (stored n d name address bytes) g.2 in
      (k.1, k.3, saved_by_lem name address bytes e g.0 g.1 k.0 k.2 k.4)
    where
      steps : (a b c : Bool) (w : Outcome (Unit {0})) (o : Outcome (List ℕ))
          → require a UnwritableName >> require b OtherSide >> require c NameTaken >> w >> o ≡ Ok e
          → (a ≡ true) × (b ≡ true) × (c ≡ true) × (w ≡ Ok tt) × (o ≡ Ok e)
      steps true true true (Ok u) o q = (refl, refl, refl, refl, q)
      steps true true true (Err r) o q = absurd (refused_given q)
      steps true true false w o q = absurd (refused_given q)
      steps true false c w o q = absurd (refused_given q)
      steps false b c w o q = absurd (refused_given q)

  pub deleted_for_lem : (name e : List ℕ) → deleted_for n d s limit name ≡ Ok e → (belongs s name ≡ true) × (deleted n d name ≡ Ok e)
  unfolding deleted_for deleted
  deleted_for_lem name e h = go (tidy n d) h
    where
      steps : (a b : Bool) (o : Outcome (List ℕ)) → require a UnwritableName >> require b OtherSide >> o ≡ Ok e → (a ≡ true) × (b ≡ true) × (o ≡ Ok e)
      steps true true o q = (refl, refl, q)
      steps true false o q = absurd (refused_given q)
      steps false b o q = absurd (refused_given q)

      go : (o : Outcome Contents) → o >> require (savable name) UnwritableName >> require (belongs s name) OtherSide >> removed n d name ≡ Ok e
          → (belongs s name ≡ true) × (o >> require (savable name) UnwritableName >> removed n d name ≡ Ok e)
      go (Err r) q = absurd (refused_given q)
      go (Ok c) q = let k = steps (savable name) (belongs s name) (removed n d name) q in (k.1, rw k.0 k.2)

  -- within the limit
  within_is : (k m : ℕ) → within n d s limit k ≡ Ok tt → held_by n d s ≡ Ok m → m + (lists_for (data_for k) + data_for k) ≤ limit
  unfolding within
  within_is k m h q = leb-true _ _ (required _ OverLimit (rw q at h))

-- ---- what an accepted call makes of the disk
pub record Effect (n : ℕ) (d e : List ℕ) (s : Side) (limit : ℕ) : Type 0 where
  pub line : ℕ
  pub front : List ℕ
  pub back : List ℕ
  pub old : Reading n d
  pub changed : Changed n d e old front line back
  pub kept_front : Every (LineKept d e) front
  pub kept_back : Every (LineKept d e) back
  pub reading : Reading n e
  pub bytes : Bytes e
  -- the line was not the other's, and is not
  pub was_other : of_side (other s) (entry_from d line) ≡ false
  pub is_other : of_side (other s) (entry_from e line) ≡ false
  -- what the side held there, and what it holds there
  pub was : List Place
  pub was_is : own_at n d s line ≡ Ok was
  pub is : List Place
  pub is_is : own_at n e s line ≡ Ok is
  pub bound : (k : ℕ) → held_by n d s ≡ Ok k → k ≤ limit → k + length is ≤ limit + length was

-- an entry by its two tests
side_no : (s : Side) (x : Entry) (name : List ℕ) → shown x.raw ≡ name → belongs s name ≡ false → of_side s x ≡ false
side_no s x name q h = ap (λ (y : List ℕ). live x && belongs s y) q ∙ rw h (and_false (live x))

side_out : (s : Side) (x : Entry) → live x ≡ false → of_side s x ≡ false
side_out s x h = rw h refl

side_yes : (s : Side) (x : Entry) (name : List ℕ) → live x ≡ true → shown x.raw ≡ name → belongs s name ≡ true → of_side s x ≡ true
side_yes s x name l q h = ap (λ (y : List ℕ). live x && belongs s y) q ∙ rw (l, h) refl

own_out : (n : ℕ) (d : List ℕ) (s : Side) (x : ℕ) → in_use d x ≡ false → own_at n d s x ≡ Ok []
unfolding own_at
own_out n d s x h = rw (side_out s (entry_from d x) h) refl

own_in : (n : ℕ) (d : List ℕ) (s : Side) (x : ℕ) (u : List Place) → in_use d x ≡ true → of_side s (entry_from d x) ≡ true → line_holds n d x ≡ Ok u → own_at n d s x ≡ Ok u
unfolding own_at line_holds
own_in n d s x u l h k = let z : sectors_of n d (entry_from d x) ≡ Ok u = rw l at k in rw h z

module _ (n : ℕ) (some' : 0 < n) (few : n ≤ 16) where
  module _ (d : List ℕ) (c : Clean n d) (s : Side) (limit : ℕ) where
    save_effect : (name : List ℕ) (address : ℕ) (bytes : List ℕ) → Bytes bytes → (e : List ℕ) → saved_for n d s limit name address bytes ≡ Ok e → Effect n d e s limit
    save_effect name address bytes b e h =
        let g = saved_for_lem n d s limit name address bytes e h in
        let r = (reading_of n some' few d c).0 in
        let v = save_clean n some' few d c.bytes (size_of n some' few d c) r name address bytes b e g.2 in
        let f : After n d e _ v.0 (sectors_in v.1) [] = v.5 in
        let w : Filled n (length bytes) name e v.0 v.1 v.2 = v.6 in
        let free' : in_use d v.0 ≡ false = not-true (in_use d v.0) (first_split (λ (y : ℕ). not (in_use d y)) (starts n r.ps) v.0 (open_line_lem n d name address bytes r.ps v.0 r.paged v.3)).4 in
        let many : length (sectors_in v.1) ≡ lists_for (data_for (length bytes)) + data_for (length bytes) = sectors_many v.1 ∙ (λ i. w.lists_many i + w.data_many i) in
        record {
          line = v.0;
          front = f.front;
          back = f.back;
          old = f.old;
          changed = f.changed;
          kept_front = f.kept_front;
          kept_back = f.kept_back;
          reading = f.reading;
          bytes = f.bytes;
          was_other = side_out (other s) (entry_from d v.0) free';
          is_other = side_no (other s) (entry_from e v.0) name w.shows (other_no s name g.0);
          was = [];
          was_is = own_out n d s v.0 free';
          is = sectors_in v.1;
          is_is = own_in n e s v.0 (sectors_in v.1) w.in_use_now (side_yes s (entry_from e v.0) name w.in_use_now w.shows g.0) f.is_held;
          bound = λ m q l. let h = within_is n d s limit (length bytes) m g.1 q in omega arith;
        }

    delete_effect : (name e : List ℕ) → deleted_for n d s limit name ≡ Ok e → Effect n d e s limit
    delete_effect name e h =
        let g = deleted_for_lem n d s limit name e h in
        let r = (reading_of n some' few d c).0 in
        let v = delete_clean n some' few d c.bytes (size_of n some' few d c) r name e g.1 in
        let f : After n d e _ v.0 [] v.1 = v.4 in
        let here = both_true (in_use d v.0) (is_named name (entry_from d v.0)) v.6 in
        let shows : shown (entry_from d v.0).raw ≡ name = sym (same_eq name (shown (entry_from d v.0).raw) here.1) in
        record {
          line = v.0;
          front = f.front;
          back = f.back;
          old = f.old;
          changed = f.changed;
          kept_front = f.kept_front;
          kept_back = f.kept_back;
          reading = f.reading;
          bytes = f.bytes;
          was_other = side_no (other s) (entry_from d v.0) name shows (other_no s name g.0);
          is_other = side_out (other s) (entry_from e v.0) v.5;
          was = v.1;
          was_is = own_in n d s v.0 v.1 here.0 (side_yes s (entry_from d v.0) name here.0 shows g.0) f.was_held;
          is = [];
          is_is = own_out n e s v.0 v.5;
          bound = λ m q l. omega arith;
        }

    pub effect : (op : Op) → OfBytes op → (e : List ℕ) → call_of n d s limit op ≡ Ok e → Effect n d e s limit
    effect (Amending.Op.save name address bytes) b e h = save_effect name address bytes b e h
    effect (Amending.Op.delete name) b e h = delete_effect name e h
