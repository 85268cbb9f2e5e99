-- Will it go on? Req 11: what saves of given lengths, in order, will need of a disk. Nothing is written; names are taken as new and allowed, with no side's
-- limit. The calls are those of 16 sectors a track, which is n.
use Rattle.std.specs.Prelude.{not, List, [], ◌∷◌, ℕ, ◌+◌, ◌-◌, length, leb, ltb}
use Rattle.lists.specs.Select.{filter}
use Rattle.std.specs.Prelude.{Ok, Err}
use Rattle.outcome.specs.declared.Refusal.TheVariants.{NoSpace, PlanLong}
use Rattle.outcome.specs.Outcome.{Outcome, ◌>>=◌, ◌>>◌, require}
use Rattle.catalog.specs.Catalog.{pages}
use Rattle.amend.specs.Lines.{starts, in_use, tidy}
use Rattle.amend.specs.Save.{data_for, lists_for, take_for}

-- what the saves need in all, and for each of them 1 where it would end in 21, else 0
pub record Forecast : Type 0 where
  pub data_sectors : ℕ
  pub list_sectors : ℕ
  pub entry_lines : ℕ
  pub marks : List ℕ

-- no saves need nothing
abbrev pub no_saves : Forecast
no_saves = record { data_sectors = 0; list_sectors = 0; entry_lines = 0; marks = [] }

-- a save of k bytes that goes on, f being what comes after it
abbrev pub goes_on : (k : ℕ) → Forecast → Forecast
goes_on k f =
    record {
      data_sectors = data_for k + f.data_sectors;
      list_sectors = lists_for (data_for k) + f.list_sectors;
      entry_lines = 1 + f.entry_lines;
      marks = 0 ∷ f.marks;
    }

-- a save that would end in 21 needs nothing
abbrev pub ends_in21 : Forecast → Forecast
ends_in21 f = record { data_sectors = f.data_sectors; list_sectors = f.list_sectors; entry_lines = f.entry_lines; marks = 1 ∷ f.marks }

module _ (n : ℕ) where
  -- a save of k bytes, so many lines being left: 21 for data over 32,768, for the lines, for the sectors; or the disk with its sectors taken in the VTOC and
  -- all else as it was
  unfoldable pub tried : (left k : ℕ) → List ℕ → Outcome (List ℕ)
  tried left k d = require (leb k 32768) NoSpace >> (require (ltb 0 left) NoSpace >> (take_for n k d >>= λ r. Ok r.1))

  -- saves of these lengths, one after the other: one that goes on leaves its VTOC and a line less, one that does not changes nothing
  unfoldable pub ahead : (left : ℕ) → List ℕ → (lengths : List ℕ) → Forecast
  ahead left d [] = no_saves
  ahead left d (k ∷ ks) =
      elim (tried left k d) [ Err r ↦ ends_in21 (ahead left d ks) | Ok e ↦ goes_on k (ahead (left - 1) e ks) ]

  -- how many lines are unused or deleted: 1 to 6
  unfoldable pub open_lines : List ℕ → Outcome ℕ
  open_lines d = pages n d >>= λ ps. Ok (length (filter (λ x. not (in_use d x)) (starts n ps)))

  -- the forecast: 25 for over 64 lengths, then 1 to 6, 20
  unfoldable pub forecast : List ℕ → (lengths : List ℕ) → Outcome Forecast
  forecast d ks = require (leb (length ks) 64) PlanLong >> (tidy n d >> (open_lines d >>= λ left. Ok (ahead left d ks)))

-- ---- as it is handed over
-- data sectors, list sectors and entry lines, then the marks
abbrev pub numbers_in : Forecast → List ℕ
numbers_in f = f.data_sectors ∷ f.list_sectors ∷ f.entry_lines ∷ f.marks

-- the numbers of a forecast: 25, 1 to 6, 20
unfoldable pub forecast_numbers : List ℕ → (lengths : List ℕ) → Outcome (List ℕ)
forecast_numbers d ks = forecast 16 d ks >>= λ f. Ok (numbers_in f)
