-- Claim 3 of Req 10: what decides the answer to a side, apart from 21, is whose name it is, whether it stands on a line of its own, and how many sectors
-- it holds. Assumes nothing.
use mathlib.Core.Path.{◌≡◌, refl, sym, ap, ◌∙◌}
use mathlib.Core.Bool.{Bool, true, false, not}
use mathlib.Core.Logic.{◌⊎◌, inl, inr, ⊎_elim}
use mathlib.Core.List.{List, [], ◌∷◌, map}
use Prim.Native.Nat.{ℕ}
use lib.ListN.{length}
use lib.Dec.{leb}
use Rattle.lists.specs.Select.{any, filter}
use Rattle.lists.proofs.Split.{by_test, and_false}
use Rattle.lists.proofs.Equal.{same_eq}
use Rattle.std.specs.Prelude.{Ok, Err}
use Rattle.outcome.specs.declared.Refusal.TheVariants.{UnwritableName, NotOnRoll, NoSpace, NameTaken, OtherSide}
use Rattle.outcome.specs.Outcome.{Outcome, ◌>>◌, require}
use Rattle.outcome.proofs.Silent.{silent}
use Rattle.catalog.specs.Catalog.{live, shown, entry_from}
use Rattle.amend.specs.Lines.{savable, starts, is_named, open_line, holds_name}
use Rattle.amend.specs.Save.{Part, take_for, saved_at, stored, removed, deleted}
use Rattle.amend.specs.Amending.{Op}
use Rattle.amend.specs.Amending
use Rattle.amend.proofs.Reading.{Reading, given_same, reading_tidy}
use Rattle.amend.proofs.Listed.{any_present, line_name, each_any}
use Rattle.amend.proofs.Deletes.{is_line}
use Rattle.amend.proofs.Answers.{take_refused, opened, delete_is, delete_answers, delete_accepts}
use Rattle.sides.specs.declared.Side.{Side}
use Rattle.sides.specs.Sides.{belongs, of_side, own_lines, own_entries, own_sectors, held_by, within, saved_for, deleted_for, call_of}
use Rattle.sides.specs.Claims.{owns_name, SameOwn}

-- ---- a name of the side stands on a line just where it stands on a line of its own
module _ (d : List ℕ) (s : Side) (name : List ℕ) (own : belongs s name ≡ true) where
  any_own : (n : ℕ) (xs : List ℕ) → any (is_line n d name) xs ≡ any (is_named name) (map (entry_from d) (filter (λ (x : ℕ). of_side s (entry_from d x)) xs))
  unfolding any filter
  any_own n [] = refl
  any_own n (x ∷ xs) =
      rw (any_own n xs)
      (by_test (is_named name (entry_from d x))
      (λ t.
      let z : belongs s (shown (entry_from d x).raw) ≡ true = ap (belongs s) (sym (same_eq name (shown (entry_from d x).raw) t)) ∙ own in
      by_test (live (entry_from d x)) (λ l. rw (t, l, z) (rw t refl)) (λ l. rw l refl))
      (λ t. rw (t, and_false (live (entry_from d x))) (by_test (of_side s (entry_from d x)) (λ u. rw (u, t) refl) (λ u. rw u refl))))

-- ---- answers by their tests
-- the tests of a save; w is the limit's, o what comes behind
abbrev pub chain : (A B T : Bool) → Outcome (Unit {0}) → Outcome (List ℕ) → Outcome (List ℕ)
chain A B T w o = require A UnwritableName >> require B OtherSide >> require T NameTaken >> w >> o

-- accepted, or 21
abbrev Free : Outcome (List ℕ) → Type 0
Free o = (silent o ≡ Ok tt) ⊎ (o ≡ Err NoSpace)

free_same : (o o' : Outcome (List ℕ)) → Free o → Free o' → (o ≡ Err NoSpace → ⊥) → (o' ≡ Err NoSpace → ⊥) → silent o' ≡ silent o
free_same o o' (inl a) (inl b) h h' = b ∙ sym a
free_same o o' (inl a) (inr b) h h' = absurd (h' b)
free_same o o' (inr a) b h h' = absurd (h a)

chain_same : (A B T T' : Bool) (w : Outcome (Unit {0})) (o o' : Outcome (List ℕ)) → (B ≡ true → T' ≡ T) → Free o → Free o'
    → (chain A B T w o ≡ Err NoSpace → ⊥) → (chain A B T' w o' ≡ Err NoSpace → ⊥) → silent (chain A B T' w o') ≡ silent (chain A B T w o)
chain_same false B T T' w o o' q f f' h h' = refl
chain_same true false T T' w o o' q f f' h h' = refl
chain_same true true T T' w o o' q f f' h h' = go T T' w (q refl) h h'
  where
    go : (T T' : Bool) (w : Outcome (Unit {0})) → T' ≡ T → (chain true true T w o ≡ Err NoSpace → ⊥) → (chain true true T' w o' ≡ Err NoSpace → ⊥)
        → silent (chain true true T' w o') ≡ silent (chain true true T w o)
    go false T' w z k k' = rw z refl
    go true false w z k k' = absurd (Rattle.lists.proofs.Split.clash z)
    go true true (Err r) z k k' = refl
    go true true (Ok u) z k k' = free_same o o' f f' k k'

-- the tests of a delete
abbrev pub undo : (A B : Bool) → Outcome (List ℕ) → Outcome (List ℕ)
undo A B o = require A UnwritableName >> require B OtherSide >> o

undo_same : (A B : Bool) (o o' : Outcome (List ℕ)) → (A ≡ true → B ≡ true → silent o' ≡ silent o) → silent (undo A B o') ≡ silent (undo A B o)
undo_same false B o o' q = refl
undo_same true false o o' q = refl
undo_same true true o o' q = q refl refl

-- ---- on a clean disk
module _ (n : ℕ) (d : List ℕ) (r : Reading n d) where
  -- the end of a save is refused as 21 alone
  stored_free : (name : List ℕ) (address : ℕ) (bytes : List ℕ) → Free (stored n d name address bytes)
  unfolding saved_at
  stored_free name address bytes =
      by_test (leb (length bytes) 32768)
      (λ q.
      ⊎_elim (λ w. go q w.1 w.2 (take_for n (length bytes) d) refl) (λ w. inr (rw (q, w.1) refl)) (opened n d r (reading_tidy n d r)))
      (λ q. inr (rw q refl))
    where
      go : leb (length bytes) 32768 ≡ true → (x : ℕ) → open_line n d ≡ Ok x → (o : Outcome (List Part × List ℕ)) → take_for n (length bytes) d ≡ o → Free (stored n d name address bytes)
      go q x l (Err b) h = let z : b ≡ NoSpace = take_refused n (length bytes) d b h in inr (rw (q, l, h, z) refl)
      go q x l (Ok b) h = inl (rw (q, l, h) refl)

  -- the end of a delete, by the list of lines
  removed_silent : (name : List ℕ) → savable name ≡ true → silent (removed n d name) ≡ silent (require (any (holds_name name) r.ls) NotOnRoll)
  removed_silent name a = go (removed n d name) refl
    where
      is : deleted n d name ≡ removed n d name
      is = delete_is n d r (reading_tidy n d r) name ∙ rw a refl

      go : (o : Outcome (List ℕ)) → removed n d name ≡ o → silent o ≡ silent (require (any (holds_name name) r.ls) NotOnRoll)
      go (Err q) h =
          let k = delete_answers n d r (reading_tidy n d r) name q (is ∙ h) in
          let z : require (any (holds_name name) r.ls) NotOnRoll ≡ Err q = rw a at k in
          rw z refl
      go (Ok e) h =
          let k = delete_accepts n d r (reading_tidy n d r) name e (is ∙ h) in
          let z : require (any (holds_name name) r.ls) NotOnRoll ≡ Ok tt = rw a at k in
          rw z refl

  -- a name of the side, by its own lines
  pub owns_is : (s : Side) (name : List ℕ) → belongs s name ≡ true → owns_name n d s name ≡ Ok (any (holds_name name) r.ls)
  unfolding owns_name own_entries own_lines
  owns_is s name own =
      rw r.paged
      (ap Ok
      (sym (each_any n d (holds_name name) (is_line n d name) (line_name n d name) (starts n r.ps) r.ls r.files ∙ any_own d s name own n (starts n r.ps))))

  -- the calls
  pub save_chain : (s : Side) (limit : ℕ) (name : List ℕ) (address : ℕ) (bytes : List ℕ)
      → saved_for n d s limit name address bytes
      ≡ chain (savable name) (belongs s name) (not (any (holds_name name) r.ls)) (within n d s limit (length bytes)) (stored n d name address bytes)
  unfolding saved_for
  save_chain s limit name address bytes = rw (reading_tidy n d r, any_present name r.ls) refl

  pub delete_chain : (s : Side) (limit : ℕ) (name : List ℕ) → deleted_for n d s limit name ≡ undo (savable name) (belongs s name) (removed n d name)
  unfolding deleted_for
  delete_chain s limit name = rw (reading_tidy n d r) refl

-- ---- on two
module _ (n : ℕ) (d e : List ℕ) (r : Reading n d) (t : Reading n e) (s : Side) (limit : ℕ) (o : SameOwn n s d e) where
  names_same : (name : List ℕ) → belongs s name ≡ true → any (holds_name name) t.ls ≡ any (holds_name name) r.ls
  names_same name own = given_same (owns_is n e t s name own) (o.names name ∙ owns_is n d r s name own)

  within_same : (k : ℕ) → within n e s limit k ≡ within n d s limit k
  unfolding within
  within_same k = rw o.count refl

  save_alike : (name : List ℕ) (address : ℕ) (bytes : List ℕ) → (saved_for n d s limit name address bytes ≡ Err NoSpace → ⊥)
      → (saved_for n e s limit name address bytes ≡ Err NoSpace → ⊥) → silent (saved_for n e s limit name address bytes) ≡ silent (saved_for n d s limit name address bytes)
  save_alike name address bytes h h' =
      let x = save_chain n d r s limit name address bytes in
      let y : saved_for n e s limit name address bytes
      ≡ chain (savable name) (belongs s name) (not (any (holds_name name) t.ls)) (within n d s limit (length bytes)) (stored n e name address bytes) =
      save_chain n e t s limit name address bytes
      ∙ ap (λ (w : Outcome (Unit {0})). chain (savable name) (belongs s name) (not (any (holds_name name) t.ls)) w (stored n e name address bytes)) (within_same (length bytes)) in
      ap silent y
      ∙ chain_same (savable name) (belongs s name) (not (any (holds_name name) r.ls)) (not (any (holds_name name) t.ls)) (within n d s limit (length bytes))
      (stored n d name address bytes) (stored n e name address bytes) (λ own. ap not (names_same name own)) (stored_free n d r name address bytes) (stored_free n e t name address bytes)
      (λ k. h (x ∙ k)) (λ k. h' (y ∙ k))
      ∙ sym (ap silent x)

  delete_alike : (name : List ℕ) → silent (deleted_for n e s limit name) ≡ silent (deleted_for n d s limit name)
  delete_alike name =
      ap silent (delete_chain n e t s limit name)
      ∙ undo_same (savable name) (belongs s name) (removed n d name) (removed n e name)
      (λ a own.
      removed_silent n e t name a ∙ ap (λ (b : Bool). silent (require b NotOnRoll)) (names_same name own) ∙ sym (removed_silent n d r name a))
      ∙ sym (ap silent (delete_chain n d r s limit name))

  pub op_alike : (op : Op) → (call_of n d s limit op ≡ Err NoSpace → ⊥) → (call_of n e s limit op ≡ Err NoSpace → ⊥)
      → silent (call_of n e s limit op) ≡ silent (call_of n d s limit op)
  op_alike (Amending.Op.save name address bytes) h h' = save_alike name address bytes h h'
  op_alike (Amending.Op.delete name) h h' = delete_alike name

-- the same entries and sectors are enough
pub same_own_lem : (n : ℕ) (d e : List ℕ) (s : Side) → own_entries n e s ≡ own_entries n d s → own_sectors n e s ≡ own_sectors n d s → SameOwn n s d e
unfolding owns_name held_by
same_own_lem n d e s h k = record { names = λ x. rw h refl; count = rw k refl }
