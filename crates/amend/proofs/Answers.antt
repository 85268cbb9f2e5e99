-- What a save or a delete on a clean disk refuses: what the plain list of lines refuses, or the search. Assumes nothing.
use mathlib.Core.Path.{◌≡◌, refl, sym, ap, ◌∙◌}
use mathlib.Core.Bool.{Bool, true, false, not}
use mathlib.Core.Logic.{◌⊎◌, inl, inr, ⊎_elim}
use mathlib.Core.List.{List, [], ◌∷◌}
use mathlib.Core.Option.{Option, none, some}
use Prim.Native.Nat.{ℕ, zero, suc, ◌+◌, ◌-◌, min}
use lib.ListN.{length}
use lib.Dec.{leb}
use Rattle.lists.specs.Fill.{put}
use Rattle.lists.specs.Select.{any}
use Rattle.lists.proofs.Split.{both_true}
use Rattle.std.specs.Prelude.{Ok, Err}
use Rattle.outcome.specs.declared.Refusal.{Refusal}
use Rattle.outcome.specs.declared.Refusal.TheVariants.{UnwritableName, NotOnRoll, NoSpace, NameTaken}
use Rattle.outcome.specs.Outcome.{Outcome, ◌>>=◌, ◌>>◌, require}
use Rattle.outcome.proofs.Outcome.{refused_given, refuses, map_refuses}
use Rattle.disk.specs.declared.Place.{Place}
use Rattle.catalog.specs.Catalog.{entry_from}
use Rattle.files.specs.Contents.{max_pairs}
use Rattle.holders.specs.Holders.{sectors_of}
use Rattle.holders.proofs.Refusals.{contents_with}
use Rattle.amend.specs.Lines.{starts, in_use, savable, open_line, line_of, first_of, last_of, found, tidy, present, is_open, holds_name}
use Rattle.amend.specs.Search.{Spot, spots, takable, seek, taken, take_one, freed}
use Rattle.amend.specs.Save.{Part, data_for, lists_for, take_data, take_parts, take_for, saved_at, stored, saved, deleted_at, deleted}
use Rattle.amend.proofs.Reading.{Reading}
use Rattle.amend.proofs.Kept.{parts_of}
use Rattle.amend.proofs.Lines.{line_holds}
use Rattle.amend.proofs.Listed.{any_here, first_split, first_none, last_split, last_none, any_present, line_open, line_name, each_any}
use Rattle.amend.proofs.Deletes.{is_line}

-- ---- a search is refused as 21 alone
found_refused : {A : Type 0} (o : Option A) (q r : Refusal) → found o q ≡ Err r → r ≡ q
found_refused none q r e = cc
found_refused (some x) q r e = absurd (refused_given (sym e))

module _ (n : ℕ) where
  pub seek_refused : (later : Bool) (d : List ℕ) (r : Refusal) → seek n d later ≡ Err r → r ≡ NoSpace
  unfolding seek
  seek_refused later d r h = found_refused (first_of (λ (q : Spot). takable n d later q.place) (spots n d)) NoSpace r h

  one_refused : (later : Bool) (d : List ℕ) (r : Refusal) → take_one n later d ≡ Err r → r ≡ NoSpace
  unfolding take_one
  one_refused later d r h = seek_refused later d r (map_refuses (λ (q : Spot). (q.place, taken n d q)) _ h)

  data_refused : (m : ℕ) (d : List ℕ) (r : Refusal) → take_data n m d ≡ Err r → r ≡ NoSpace
  unfolding take_data
  data_refused zero d r h = absurd (refused_given (sym h))
  data_refused (suc m) d r h =
      ⊎_elim (one_refused false d r)
      (λ t. data_refused m t.0.1 r (map_refuses (λ (s : List Place × List ℕ). (t.0.0 ∷ s.0, s.1)) _ t.2))
      (refuses (take_one n false d) _ r h)

  parts_refused : (k m : ℕ) (later : Bool) (d : List ℕ) (r : Refusal) → take_parts n k m later d ≡ Err r → r ≡ NoSpace
  unfolding take_parts
  parts_refused zero m later d r h = absurd (refused_given (sym h))
  parts_refused (suc k) m later d r h =
      ⊎_elim (one_refused later d r)
      (λ t.
      ⊎_elim (data_refused (min max_pairs m) t.0.1 r)
      (λ u. parts_refused k (m - max_pairs) true u.0.1 r (map_refuses (λ (v : List Part × List ℕ). (record { list = t.0.0; pairs = u.0.0 } ∷ v.0, v.1)) _ u.2))
      (refuses (take_data n (min max_pairs m) t.0.1) _ r t.2))
      (refuses (take_one n later d) _ r h)

  pub take_refused : (k : ℕ) (d : List ℕ) (r : Refusal) → take_for n k d ≡ Err r → r ≡ NoSpace
  unfolding take_for
  take_refused k d r h = parts_refused (lists_for (data_for k)) (data_for k) false d r h

-- a refusal of one call is one of another
as_refused : {A B : Type 0} {q r : Refusal} → ◌≡◌ {A = Outcome A} (Err q) (Err r) → ◌≡◌ {A = Outcome B} (Err q) (Err r)
as_refused {A} {B} {q} {r} e = let z : q ≡ r = cc in ap Err z

-- ---- the tests of a save, and those of the plain list
abbrev fore : (A B C D : Bool) → Outcome (Unit {0})
fore A B C D = require A UnwritableName >> require B NameTaken >> require C NoSpace >> require D NoSpace

-- the line is found where one is open
abbrev Opened : Bool → Outcome ℕ → Type 0
Opened D o = ((D ≡ true) × (x : ℕ) × (o ≡ Ok x)) ⊎ ((D ≡ false) × (o ≡ Err NoSpace))

save_refused : (A B C D : Bool) (o : Outcome ℕ) (f : ℕ → Outcome (List ℕ)) (r : Refusal) → Opened D o
    → require A UnwritableName >> require B NameTaken >> (require C NoSpace >> (o >>= f)) ≡ Err r
    → (fore A B C D ≡ Err r) ⊎ ((fore A B C D ≡ Ok tt) × (x : ℕ) × (f x ≡ Err r))
save_refused false B C D o f r w h = inl (as_refused h)
save_refused true false C D o f r w h = inl (as_refused h)
save_refused true true false D o f r w h = inl (as_refused h)
save_refused true true true D o f r (inl w) h = inr (rw w.0 refl, w.1, sym (ap (λ (v : Outcome ℕ). v >>= f) w.2) ∙ h)
save_refused true true true D o f r (inr w) h =
    let z : Err NoSpace ≡ Err r = sym (ap (λ (v : Outcome ℕ). v >>= f) w.1) ∙ h in
    inl (rw w.0 (as_refused z))

save_given : (A B C D : Bool) (o : Outcome ℕ) (f : ℕ → Outcome (List ℕ)) (e : List ℕ) → Opened D o
    → require A UnwritableName >> require B NameTaken >> (require C NoSpace >> (o >>= f)) ≡ Ok e → fore A B C D ≡ Ok tt
save_given false B C D o f e w h = absurd (refused_given h)
save_given true false C D o f e w h = absurd (refused_given h)
save_given true true false D o f e w h = absurd (refused_given h)
save_given true true true D o f e (inl w) h = rw w.0 refl
save_given true true true D o f e (inr w) h = absurd (refused_given (sym (ap (λ (v : Outcome ℕ). v >>= f) w.1) ∙ h))

module _ (n : ℕ) (d : List ℕ) (r : Reading n d) (tidy-is : tidy n d ≡ Ok (contents_with n d (present r.ls))) where
  -- a line is open on the disk where one is in the list
  pub opened : Opened (any is_open r.ls) (open_line n d)
  unfolding open_line
  opened = rw r.paged (go (first_of (λ (y : ℕ). not (in_use d y)) (starts n r.ps)) refl)
    where
      go : (o : Option ℕ) → first_of (λ (y : ℕ). not (in_use d y)) (starts n r.ps) ≡ o → Opened (any is_open r.ls) (found o NoSpace)
      go none q =
          inr (each_any n d is_open (λ (y : ℕ). not (in_use d y)) (line_open n d) (starts n r.ps) r.ls r.files ∙ first_none (λ (y : ℕ). not (in_use d y)) (starts n r.ps) q, refl)
      go (some x) q =
          let s = first_split (λ (y : ℕ). not (in_use d y)) (starts n r.ps) x q in
          inl (
            each_any n d is_open (λ (y : ℕ). not (in_use d y)) (line_open n d) (starts n r.ps) r.ls r.files
                ∙ ap (any (λ (y : ℕ). not (in_use d y))) s.2 ∙ any_here (λ (y : ℕ). not (in_use d y)) s.0 x s.1 s.4,
            x,
            refl,
          )

  module _ (name : List ℕ) (address : ℕ) (bytes : List ℕ) where
    -- a save, its disk being tidy
    pub save_is : saved n d name address bytes
        ≡ (require (savable name) UnwritableName >> require (not (any (holds_name name) r.ls)) NameTaken >> stored n d name address bytes)
    unfolding saved
    save_is = rw (tidy-is, any_present name r.ls) refl

    pub save_answers : (q : Refusal) → saved n d name address bytes ≡ Err q
        → (fore (savable name) (not (any (holds_name name) r.ls)) (leb (length bytes) 32768) (any is_open r.ls) ≡ Err q)
        ⊎ ((fore (savable name) (not (any (holds_name name) r.ls)) (leb (length bytes) 32768) (any is_open r.ls) ≡ Ok tt) × (take_for n (length bytes) d ≡ Err q) × (q ≡ NoSpace))
    unfolding saved_at
    save_answers q h =
        ⊎_elim inl
        (λ t. let k = map_refuses _ (take_for n (length bytes) d) t.2 in inr (t.0, k, take_refused n (length bytes) d q k))
        (save_refused (savable name) (not (any (holds_name name) r.ls)) (leb (length bytes) 32768) (any is_open r.ls) (open_line n d)
        (λ x. saved_at n d x name address bytes) q opened (sym save_is ∙ h))

    pub save_accepts : (e : List ℕ) → saved n d name address bytes ≡ Ok e
        → fore (savable name) (not (any (holds_name name) r.ls)) (leb (length bytes) 32768) (any is_open r.ls) ≡ Ok tt
    save_accepts e h =
        save_given (savable name) (not (any (holds_name name) r.ls)) (leb (length bytes) 32768) (any is_open r.ls) (open_line n d)
        (λ x. saved_at n d x name address bytes) e opened (sym save_is ∙ h)

  -- ---- a delete
  module _ (name : List ℕ) where
    -- the line of the name is found where the list has one, and its sectors are known
    Named : Outcome ℕ → Type 0
    Named o = ((any (holds_name name) r.ls ≡ true) × (x : ℕ) × (o ≡ Ok x) × (e : List ℕ) × (deleted_at n d x ≡ Ok e)) ⊎ ((any (holds_name name) r.ls ≡ false) × (o ≡ Err NotOnRoll))

    any_line : any (holds_name name) r.ls ≡ any (is_line n d name) (starts n r.ps)
    any_line = each_any n d (holds_name name) (is_line n d name) (line_name n d name) (starts n r.ps) r.ls r.files

    deletes : (x : ℕ) (u : List Place) → in_use d x ≡ true → line_holds n d x ≡ Ok u → (e : List ℕ) × (deleted_at n d x ≡ Ok e)
    unfolding line_holds deleted_at
    deletes x u t h = let s : sectors_of n d (entry_from d x) ≡ Ok u = rw t at h in
        (put (x + 32) ((entry_from d x).list.track.0 ∷ []) (put x (255 ∷ []) (freed n u d)), rw s refl)

    named : Named (line_of n d name)
    unfolding line_of Named
    named = rw r.paged (go (last_of (is_line n d name) (starts n r.ps)) refl)
      where
        go : (o : Option ℕ) → last_of (is_line n d name) (starts n r.ps) ≡ o
            → ((any (holds_name name) r.ls ≡ true) × (x : ℕ) × (found o NotOnRoll ≡ Ok x) × (e : List ℕ) × (deleted_at n d x ≡ Ok e))
            ⊎ ((any (holds_name name) r.ls ≡ false) × (found o NotOnRoll ≡ Err NotOnRoll))
        go none q = inr (any_line ∙ last_none (is_line n d name) (starts n r.ps) q, refl)
        go (some x) q =
            let s = last_split (is_line n d name) (starts n r.ps) x q in
            let p = parts_of n d d r s.0 x s.1 s.2 in
            let k = deletes x p.u (both_true (in_use d x) _ s.4).0 p.holds_x in
            inl (any_line ∙ ap (any (is_line n d name)) s.2 ∙ any_here (is_line n d name) s.0 x s.1 s.4, x, refl, k.0, k.1)

    pub delete_is : deleted n d name ≡ (require (savable name) UnwritableName >> (line_of n d name >>= λ x. deleted_at n d x))
    unfolding deleted
    delete_is = rw tidy-is refl

    delete_refused : (A : Bool) (q : Refusal) → require A UnwritableName >> (line_of n d name >>= λ x. deleted_at n d x) ≡ Err q
        → require A UnwritableName >> require (any (holds_name name) r.ls) NotOnRoll ≡ Err q
    unfolding Named
    delete_refused false q h = as_refused h
    delete_refused true q h =
        ⊎_elim
        (λ t.
        let z : (line_of n d name >>= λ x. deleted_at n d x) ≡ Ok t.3 = ap (λ (v : Outcome ℕ). v >>= λ x. deleted_at n d x) t.2 ∙ t.4 in
        absurd (refused_given (sym h ∙ z)))
        (λ t.
        let z : Err NotOnRoll ≡ Err q = sym (ap (λ (v : Outcome ℕ). v >>= λ x. deleted_at n d x) t.1) ∙ h in
        rw t.0 (as_refused z))
        named

    delete_given : (A : Bool) (e : List ℕ) → require A UnwritableName >> (line_of n d name >>= λ x. deleted_at n d x) ≡ Ok e
        → require A UnwritableName >> require (any (holds_name name) r.ls) NotOnRoll ≡ Ok tt
    unfolding Named
    delete_given false e h = absurd (refused_given h)
    delete_given true e h =
        ⊎_elim (λ t. rw t.0 refl) (λ t. absurd (refused_given (sym (ap (λ (v : Outcome ℕ). v >>= λ x. deleted_at n d x) t.1) ∙ h))) named

    pub delete_answers : (q : Refusal) → deleted n d name ≡ Err q → require (savable name) UnwritableName >> require (any (holds_name name) r.ls) NotOnRoll ≡ Err q
    delete_answers q h = delete_refused (savable name) q (sym delete_is ∙ h)

    pub delete_accepts : (e : List ℕ) → deleted n d name ≡ Ok e → require (savable name) UnwritableName >> require (any (holds_name name) r.ls) NotOnRoll ≡ Ok tt
    delete_accepts e h = delete_given (savable name) e (sym delete_is ∙ h)
