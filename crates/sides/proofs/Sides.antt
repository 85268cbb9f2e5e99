-- The claims of Req 10. Assumes nothing.
use mathlib.Core.Path.{◌≡◌, refl, ap, ◌∙◌}
use mathlib.Core.Bool.{Bool, true, false}
use mathlib.Core.List.{List, flat_map}
use Prim.Native.Nat.{ℕ, ◌+◌, ◌<◌, ◌≤◌}
use native.Mathlib.Omega.{arith}
use lib.ListN.{length}
use lib.Dec.{leb}
use Rattle.std.specs.Prelude.{Ok, Err}
use Rattle.outcome.specs.declared.Refusal.TheVariants.{UnwritableName, NameTaken, OtherSide, OverLimit}
use Rattle.outcome.specs.Outcome.{Outcome, ◌>>=◌, ◌>>◌, require}
use Rattle.files.specs.Contents.{Contents}
use Rattle.amend.specs.Lines.{savable, tidy}
use Rattle.amend.specs.Save.{data_for, lists_for, is_new, stored, removed, saved, deleted}
use Rattle.amend.specs.Amending.{Op, amend}
use Rattle.amend.specs.Amending
use Rattle.amend.proofs.Reading.{tidy_reading}
use Rattle.amend.proofs.Amending.{reading_of}
use Rattle.sides.specs.declared.Side.{Side}
use Rattle.sides.specs.Sides.{belongs, held_by, within, saved_for, deleted_for, call_of}
use Rattle.sides.specs.Claims.{asked_name, HasRoom, SidesOf, Sides}
use Rattle.sides.proofs.Own.{own_given, held_is}
use Rattle.sides.proofs.Runs.{stays_run, keeps_is, limits_is}
use Rattle.sides.proofs.Alike.{op_alike, same_own_lem}
use Rattle.sides.proofs.Always.{always_is, twin_clean}
use Rattle.sides.proofs.Counts.{counted}

-- ---- otherwise a save or delete of Req 09
module _ (n : ℕ) (d : List ℕ) (s : Side) (limit : ℕ) where
  -- a tidy disk's limit is refused as 24 alone
  within_over : (c : Contents) → tidy n d ≡ Ok c → (k : ℕ) → ((within n d s limit k) ≡ Err OverLimit → ⊥) → within n d s limit k ≡ Ok tt
  unfolding within
  within_over c h k others =
      let r = (tidy_reading n d c h).0 in
      let g = own_given n d s r in
      let q : held_by n d s ≡ Ok (length (flat_map (λ t. t) g.0)) = held_is n d s (flat_map (λ t. t) g.0) g.2 in
      go (length (flat_map (λ t. t) g.0)) q
    where
      last : (b : Bool) → ((require b OverLimit) ≡ Err OverLimit → ⊥) → require b OverLimit ≡ Ok tt
      last true z = refl
      last false z = absurd (z refl)

      go : (m : ℕ) → held_by n d s ≡ Ok m → (held_by n d s >>= λ m. require (leb (m + (lists_for (data_for k) + data_for k)) limit) OverLimit) ≡ Ok tt
      go m q =
          let z = last (leb (m + (lists_for (data_for k) + data_for k)) limit)
          (λ w. others (ap (λ (o : Outcome ℕ). o >>= λ m. require (leb (m + (lists_for (data_for k) + data_for k)) limit) OverLimit) q ∙ w)) in
          ap (λ (o : Outcome ℕ). o >>= λ m. require (leb (m + (lists_for (data_for k) + data_for k)) limit) OverLimit) q ∙ z

  save_otherwise : (name : List ℕ) (address : ℕ) (bytes : List ℕ) → ((saved_for n d s limit name address bytes) ≡ Err OtherSide → ⊥)
      → ((saved_for n d s limit name address bytes) ≡ Err OverLimit → ⊥) → saved_for n d s limit name address bytes ≡ saved n d name address bytes
  unfolding saved_for saved
  save_otherwise name address bytes h k = go (tidy n d) refl h k
    where
      steps : (a b t : Bool) (w : Outcome (Unit {0})) (o : Outcome (List ℕ))
          → ((w ≡ Err OverLimit → ⊥) → w ≡ Ok tt)
          → ((require a UnwritableName >> require b OtherSide >> require t NameTaken >> w >> o) ≡ Err OtherSide → ⊥)
          → ((require a UnwritableName >> require b OtherSide >> require t NameTaken >> w >> o) ≡ Err OverLimit → ⊥)
          → require a UnwritableName >> require b OtherSide >> require t NameTaken >> w >> o ≡ require a UnwritableName >> require t NameTaken >> o
      steps false b t w o z x y = refl
      steps true false t w o z x y = absurd (x refl)
      steps true true false w o z x y = refl
      steps true true true (Ok u) o z x y = refl
      steps true true true (Err r) o z x y = absurd (Rattle.outcome.proofs.Outcome.refused_given (z (λ q. y (ap (λ (v : Outcome (Unit {0})). v >> o) q))))

      go : (o : Outcome Contents) → tidy n d ≡ o
          → ((o >>= λ c. require (savable name) UnwritableName >> require (belongs s name) OtherSide >> require (is_new c name) NameTaken >> within n d s limit (length bytes) >> stored n d name address bytes) ≡ Err OtherSide → ⊥)
          → ((o >>= λ c. require (savable name) UnwritableName >> require (belongs s name) OtherSide >> require (is_new c name) NameTaken >> within n d s limit (length bytes) >> stored n d name address bytes) ≡ Err OverLimit → ⊥)
          → (o >>= λ c. require (savable name) UnwritableName >> require (belongs s name) OtherSide >> require (is_new c name) NameTaken >> within n d s limit (length bytes) >> stored n d name address bytes)
          ≡ (o >>= λ c. require (savable name) UnwritableName >> require (is_new c name) NameTaken >> stored n d name address bytes)
      go (Err r) q x y = refl
      go (Ok c) q x y =
          steps (savable name) (belongs s name) (is_new c name) (within n d s limit (length bytes)) (stored n d name address bytes) (within_over c q (length bytes)) x y

  delete_otherwise : (name : List ℕ) → ((deleted_for n d s limit name) ≡ Err OtherSide → ⊥) → deleted_for n d s limit name ≡ deleted n d name
  unfolding deleted_for deleted
  delete_otherwise name h = go (tidy n d) (savable name) (belongs s name) h
    where
      go : (o : Outcome Contents) (a b : Bool) → ((o >> require a UnwritableName >> require b OtherSide >> removed n d name) ≡ Err OtherSide → ⊥)
          → (o >> require a UnwritableName >> require b OtherSide >> removed n d name) ≡ (o >> require a UnwritableName >> removed n d name)
      go (Err r) a b x = refl
      go (Ok c) false b x = refl
      go (Ok c) true true x = refl
      go (Ok c) true false x = absurd (x refl)

  op_otherwise : (op : Op) → ((call_of n d s limit op) ≡ Err OtherSide → ⊥) → ((call_of n d s limit op) ≡ Err OverLimit → ⊥) → call_of n d s limit op ≡ amend n d op
  op_otherwise (Amending.Op.save name address bytes) h k = save_otherwise name address bytes h k
  op_otherwise (Amending.Op.delete name) h k = delete_otherwise name h

  -- a name of its own, with room
  save_served : (name : List ℕ) (address : ℕ) (bytes : List ℕ) → belongs s name ≡ true → within n d s limit (length bytes) ≡ Ok tt
      → saved_for n d s limit name address bytes ≡ saved n d name address bytes
  unfolding saved_for saved
  save_served name address bytes p q = go (tidy n d)
    where
      steps : (a b t : Bool) (w : Outcome (Unit {0})) (o : Outcome (List ℕ)) → b ≡ true → w ≡ Ok tt
          → require a UnwritableName >> require b OtherSide >> require t NameTaken >> w >> o ≡ require a UnwritableName >> require t NameTaken >> o
      steps false b t w o x y = refl
      steps true false t w o x y = absurd (Rattle.lists.proofs.Split.clash x)
      steps true true false w o x y = refl
      steps true true true (Ok u) o x y = refl
      steps true true true (Err r) o x y = absurd (Rattle.outcome.proofs.Outcome.refused_given y)

      go : (o : Outcome Contents)
          → (o >>= λ c. require (savable name) UnwritableName >> require (belongs s name) OtherSide >> require (is_new c name) NameTaken >> within n d s limit (length bytes) >> stored n d name address bytes)
          ≡ (o >>= λ c. require (savable name) UnwritableName >> require (is_new c name) NameTaken >> stored n d name address bytes)
      go (Err r) = refl
      go (Ok c) = steps (savable name) (belongs s name) (is_new c name) (within n d s limit (length bytes)) (stored n d name address bytes) p q

  delete_served : (name : List ℕ) → belongs s name ≡ true → deleted_for n d s limit name ≡ deleted n d name
  unfolding deleted_for deleted
  delete_served name b = rw b (go (tidy n d) (savable name))
    where
      go : (o : Outcome Contents) (a : Bool) → (o >> require a UnwritableName >> require true OtherSide >> removed n d name) ≡ (o >> require a UnwritableName >> removed n d name)
      go (Err r) a = refl
      go (Ok c) false = refl
      go (Ok c) true = refl

  op_served : (op : Op) → belongs s (asked_name op) ≡ true → HasRoom n d s limit op → call_of n d s limit op ≡ amend n d op
  op_served (Amending.Op.save name address bytes) b w = save_served name address bytes b w
  op_served (Amending.Op.delete name) b w = delete_served name b

-- ---- the whole
pub sides_of : (n : ℕ) → 0 < n → n ≤ 16 → SidesOf n
sides_of n some' few =
    record {
      served = λ d c. op_served n d c.side c.limit c.op;
      otherwise = λ d c. op_otherwise n d c.side c.limit c.op;
      counted = counted n;
      stays = λ d c cs b. stays_run n some' few cs d c b;
      keeps = keeps_is n some' few;
      limits = limits_is n some' few;
      alike = λ d e c k a o. op_alike n d e (reading_of n some' few d c).0 (reading_of n some' few e k).0 a.side a.limit o a.op;
      same_own = same_own_lem n;
      always = always_is n some' few;
      twin = twin_clean n some' few;
    }

-- Req 10
pub sides : Sides
sides = sides_of 16 (omega arith) (omega arith)
