-- A save and a delete as the code makes them, for a side (Req 10) or for no side (Req 09): the tests of a side stand among the others, or are left out.
use Rattle.std.specs.Prelude.{Bool, true, false, List, ℕ, ◌+◌, length, ltb}
use Rattle.std.specs.Prelude.{Ok, Option, Some, None}
use Rattle.outcome.specs.declared.Refusal.TheVariants.{UnwritableName, NameTaken, OtherSide}
use Rattle.outcome.specs.Outcome.{Outcome, ◌>>=◌, ◌>>◌, require}
use Rattle.files.specs.Contents.{Contents}
use Rattle.amend.specs.Lines.{savable, tidy}
use Rattle.amend.specs.Save.{data_for, lists_for, is_new, stored, removed}
use Rattle.sides.specs.declared.Side.{Side}
use Rattle.sides.specs.Sides.{belongs, within}
use Rattle.sides.specs.Steps.{tally}
use Rattle.saving.specs.declared.Asker.{Asker}

-- who asks: a side with its limit, or no side
abbrev pub Caller : Type 0
Caller = Option Asker

-- no side asks; a side asks, with its limit
abbrev pub no_side : Caller
no_side = None

abbrev pub one_side : Side → ℕ → Caller
one_side s limit = Some (record { side = s; limit = limit })

-- a side asks for a name of its own
abbrev pub may_name : Caller → List ℕ → Bool
may_name None name = true
may_name (Some a) name = belongs a.side name

-- k bytes more are over its limit, by the sectors counted
abbrev pub over_limit : List ℕ → Caller → ℕ → Bool
over_limit d None k = false
over_limit d (Some a) k = ltb a.limit (tally 16 d a.side + (lists_for (data_for k) + data_for k))

-- .. by those that it holds: 24
abbrev pub room_for : ℕ → List ℕ → Caller → ℕ → Outcome (Unit {0})
room_for n d None k = Ok tt
room_for n d (Some a) k = within n d a.side a.limit k

module _ (n : ℕ) (d : List ℕ) (a : Caller) where
  -- what both calls begin with: 1 to 6, 20, 14, 23
  unfoldable pub name_allowed : (name : List ℕ) → Outcome Contents
  name_allowed name = tidy n d >>= λ c. require (savable name) UnwritableName >> require (may_name a name) OtherSide >> Ok c

  -- a save
  unfoldable pub saved_by : (name : List ℕ) (address : ℕ) (bytes : List ℕ) → Outcome (List ℕ)
  saved_by name address bytes = name_allowed name >>= λ c. require (is_new c name) NameTaken >> room_for n d a (length bytes) >> stored n d name address bytes

  -- a delete
  unfoldable pub deleted_by : (name : List ℕ) → Outcome (List ℕ)
  deleted_by name = name_allowed name >> removed n d name
