-- The forecast equals what the saves would do from that disk: the claim of Req 11.
use Rattle.std.specs.Prelude.{◌≡◌, ◌⊎◌, true, false, cond, ℕ, ◌+◌, ◌<◌, ◌≤◌, length, drop, eqb}
use mathlib.Core.List.{List, [], ◌∷◌, ◌++◌, map, flat_map}
use Rattle.std.proofs.Math.Option.{Option}
use Rattle.lists.specs.Fill.{Bytes}
use Rattle.lists.specs.Every.{Every}
use Rattle.lists.specs.Select.{any, filter}
use Rattle.std.specs.Prelude.{Ok, Err}
use Rattle.outcome.specs.declared.Refusal.{Refusal}
use Rattle.outcome.specs.declared.Refusal.TheVariants.{NoSpace, PlanLong}
use Rattle.outcome.specs.Refusal.{code}
use Rattle.outcome.specs.Outcome.{Outcome, ◌>>=◌, each, Hands}
use Rattle.disk.specs.declared.Place.{Place}
use Rattle.catalog.specs.Catalog.{entry_from, pages}
use Rattle.files.specs.Contents.{File, lists, pairs_of}
use Rattle.amend.specs.Lines.{savable, starts, in_use, lines, tidy, holds_name}
use Rattle.amend.specs.Amending.{Op, amend, bare, kept, run, Clean}
use Rattle.amend.specs.Amending
use Rattle.saving.specs.Saving.{Amended}
use Rattle.forecast.specs.Forecast.{Forecast, forecast, numbers_in, forecast_numbers}

-- ---- saves as they will be asked for
-- name, load address and bytes of one
pub record Planned : Type 0 where
  pub name : List ℕ
  pub address : ℕ
  pub bytes : List ℕ

-- it is a save of Req 09
abbrev pub save_of : Planned → Op
save_of s = Amending.Op.save s.name s.address s.bytes

-- how long each is
abbrev pub lengths_of : List Planned → List ℕ
lengths_of ss = map (λ (s : Planned). length s.bytes) ss

-- the name of s is that of none of these
abbrev pub NotNamed : Planned → List Planned → Type 0
NotNamed s ss = Every (λ (u : Planned). s.name ≡ u.name → ⊥) ss

-- no two have the same name
abbrev pub Different : List Planned → Type 0
Different [] = Unit {0}
Different (s ∷ ss) = NotNamed s ss × Different ss

-- the names are allowed and new: no two are the same, and none is on the lines ls; what is saved is bytes
pub record Allowed (ls : List (Option File)) (ss : List Planned) : Type 0 where
  pub names : Every (λ (s : Planned). savable s.name ≡ true) ss
  pub new : Every (λ (s : Planned). any (holds_name s.name) ls ≡ false) ss
  pub different : Different ss
  pub bytes : Every (λ (s : Planned). Bytes s.bytes) ss

-- ---- what the saves do
-- what they answer, one after the other; a refused one leaves the disk as it was
unfoldable pub answers_to : ℕ → List ℕ → List Op → List (Outcome (Unit {0}))
answers_to n d [] = []
answers_to n d (op ∷ ops) = bare (amend n d op) ∷ answers_to n (kept d (amend n d op)) ops

-- 1 for 21, else 0
abbrev pub mark_for : Outcome (Unit {0}) → ℕ
mark_for (Err r) = cond (eqb (code r) 21) 1 0
mark_for (Ok u) = 0

-- what the files of a disk take: data sectors, lists, entry lines
pub record Used : Type 0 where
  pub data_sectors : ℕ
  pub list_sectors : ℕ
  pub entry_lines : ℕ

module _ (n : ℕ) (d : List ℕ) where
  -- the lists of the line that starts at x; none where it is not in use
  unfoldable pub lists_at : ℕ → Outcome (List Place)
  lists_at x = cond (in_use d x) (lists n d (entry_from d x)) (Ok [])

  -- all lists, their pairs, and the lines in use, counted: 1 to 6
  unfoldable pub used : Outcome Used
  used =
      pages n d >>= λ ps.
      each lists_at (starts n ps) >>= λ ts.
      Ok
      (record {
        data_sectors = length (flat_map (pairs_of n d) (flat_map (λ t. t) ts));
        list_sectors = length (flat_map (λ t. t) ts);
        entry_lines = length (filter (in_use d) (starts n ps));
      })

-- that, and what a forecast adds to it
abbrev pub plus : Used → Forecast → Used
plus u f =
    record {
      data_sectors = u.data_sectors + f.data_sectors;
      list_sectors = u.list_sectors + f.list_sectors;
      entry_lines = u.entry_lines + f.entry_lines;
    }

-- ---- the claim
-- f is what the saves ss do on the disk d
pub record Foretold (n : ℕ) (d : List ℕ) (ss : List Planned) (f : Forecast) : Type 0 where
  -- a save is accepted, or it ends in 21; it is marked just where it ends in 21
  pub only : Every (λ (a : Outcome (Unit {0})). (a ≡ Ok tt) ⊎ (a ≡ Err NoSpace)) (answers_to n d (map save_of ss))
  pub marks : f.marks ≡ map mark_for (answers_to n d (map save_of ss))
  -- the disk after them has just so many more data sectors, lists and lines in use
  pub needs : (u : Used) → used n d ≡ Ok u → used n (run n d (map save_of ss)) ≡ Ok (plus u f)

-- Req 11, for disks of n sectors a track
pub record ForecastingOf (n : ℕ) : Type 0 where
  -- over 64 lengths are refused as 25, whatever the disk; else a disk that is not read, or not clean, is refused as a save refuses it
  pub long : (d ks : List ℕ) → 64 < length ks → forecast n d ks ≡ Err PlanLong
  pub reads : (d ks : List ℕ) → length ks ≤ 64 → (r : Refusal) → tidy n d ≡ Err r → forecast n d ks ≡ Err r
  -- on a clean disk there is a forecast, and for all saves of these lengths with new and allowed names, whatever their addresses and bytes, it is what they do
  pub tells : (d : List ℕ) → Clean n d → (ks : List ℕ) → length ks ≤ 64 → (f : Forecast) × (forecast n d ks ≡ Ok f)
  pub equals : (d : List ℕ) → Clean n d → (ls : List (Option File)) → lines n d ≡ Ok ls → (ss : List Planned) → Allowed ls ss
      → (f : Forecast) → forecast n d (lengths_of ss) ≡ Ok f → Foretold n d ss f
  -- the files of a clean disk can be counted
  pub counts : (d : List ℕ) → Clean n d → (u : Used) × (used n d ≡ Ok u)

-- .. and that is 16 on the disks that are saved to
abbrev pub Forecasting : Type 0
Forecasting = ForecastingOf 16

-- ---- of the calls
-- saves in a row, each by the promise of its call: the disk d became e, and these answers were given
pub data Saves : List ℕ → List Planned → (answers : List (Outcome (Unit {0}))) → List ℕ → Type 0 where
  none : {d : List ℕ} → Saves d [] [] d
  more : {d e f : List ℕ} {s : Planned} {ss : List Planned} {rs : List (Outcome (Unit {0}))} (r : Outcome (Unit {0})) → Amended (amend 16 d (save_of s)) d e r → Saves e ss rs f → Saves d (s ∷ ss) (r ∷ rs) f

-- Req 11 of the calls: after a call of the forecast, lent elements that go from `before` to `after`, and its answer h
pub record Foretelling : Type 0 where
  -- on a clean disk, up to 64 lengths and enough elements are accepted
  pub accepts : (d : List ℕ) → Clean 16 d → (ks before after : List ℕ) (h : Outcome ℕ) → Hands (forecast_numbers d ks) before after h
      → length ks ≤ 64 → 3 + length ks ≤ length before → h ≡ Ok (3 + length ks)
  -- what was handed over is what the calls of these saves then do: each is marked just where it is refused as 21, and the disk after has just so many data
  -- sectors, lists and lines in use more
  pub equals : (d : List ℕ) → Clean 16 d → (ls : List (Option File)) → lines 16 d ≡ Ok ls → (ss : List Planned) → Allowed ls ss
      → (before after : List ℕ) (m : ℕ) → Hands (forecast_numbers d (lengths_of ss)) before after (Ok m)
      → (e : List ℕ) (rs : List (Outcome (Unit {0}))) → Saves d ss rs e
      → (f : Forecast) × (after ≡ numbers_in f ++ drop (length (numbers_in f)) before) × (f.marks ≡ map mark_for rs)
      × ((u : Used) → used 16 d ≡ Ok u → used 16 e ≡ Ok (plus u f))
