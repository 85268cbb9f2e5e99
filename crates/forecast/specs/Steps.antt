-- The steps of a forecast: the lines that are left, a save tried in a copy of the VTOC, and the lengths one after the other.
use Rattle.std.specs.Prelude.{◌≡◌, Bool, true, false, List, map, ◌++◌, ℕ, ◌+◌, ◌*◌, ◌-◌, ◌<◌, ◌≤◌, min, length, drop}
use Rattle.lists.specs.Fill.{below, put}
use Rattle.lists.specs.Select.{filter}
use Rattle.std.specs.Prelude.{Ok, Err}
use Rattle.outcome.specs.declared.Refusal.TheVariants.{NoSpace}
use Rattle.disk.specs.declared.Place.{Place}
use Rattle.disk.specs.Disk.{start, bytes_of}
use Rattle.disk.specs.Vtoc.{vtoc}
use Rattle.catalog.specs.Catalog.{pages}
use Rattle.files.specs.Contents.{Contents}
use Rattle.amend.specs.Lines.{starts, tidy}
use Rattle.amend.specs.Save.{Part, data_for, lists_for, take_for}
use Rattle.saving.specs.Steps.{idle}
use Rattle.forecast.specs.declared.Needs.{Needs}
use Rattle.forecast.specs.Forecast.{tried, ahead, numbers_in, forecast_numbers}

-- ---- the lines that are left
module _ (d : List ℕ) where
  -- how many of the first i lines of a page are not in use
  unfoldable pub open_on : Place → (i : ℕ) → ℕ
  open_on p i = length (filter (idle d) (map (λ k. start 16 p + (11 + 35 * k)) (below i)))

  -- those of a page were counted
  pub record PageCounted (p : Place) (r : ℕ) : Type 0 where
    pub is : r ≡ open_on p 7
    pub few : r ≤ 7

  -- those of the disk were
  pub record Counted (r : ℕ) : Type 0 where
    pub is : (ps : List Place) → pages 16 d ≡ Ok ps → r ≡ length (filter (idle d) (starts 16 ps))

-- ---- a save tried
-- the disk d has the VTOC T
pub record HasTable (T d : List ℕ) : Type 0 where
  pub size : length d ≡ 143360
  pub table : T ≡ bytes_of 16 d vtoc

-- the sectors of k bytes were sought in T, which is T' after: on every disk that has T none is left, or they are taken as in T'
pub record SoughtFor (k : ℕ) (T T' : List ℕ) (r : Bool) : Type 0 where
  pub long : length T' ≡ 256
  pub none : r ≡ false → (T' ≡ T) × ((d : List ℕ) → HasTable T d → take_for 16 k d ≡ Err NoSpace)
  pub all : r ≡ true → (d : List ℕ) → HasTable T d → (gs : List Part) × (take_for 16 k d ≡ Ok (gs, put (start 16 vtoc) T' d))

-- saves of so many bytes or more end in 21 on every disk that has T, so many lines being left; those over 32,768 do always
pub record Barred (T : List ℕ) (left least : ℕ) : Type 0 where
  pub most : least ≤ 32769
  pub is : (k : ℕ) → least ≤ k → (d : List ℕ) → HasTable T d → tried 16 left k d ≡ Err NoSpace

-- a save of k bytes was tried in T, so many lines being left: on every disk that has T it ends in 21, or goes on and leaves T'
pub record Tried (left k : ℕ) (T T' : List ℕ) (r : Bool) : Type 0 where
  pub long : length T' ≡ 256
  pub ends : r ≡ false → (T' ≡ T) × ((d : List ℕ) → HasTable T d → tried 16 left k d ≡ Err NoSpace)
  pub goes : r ≡ true → (0 < left) × (k ≤ 32768) × ((d : List ℕ) → HasTable T d → tried 16 left k d ≡ Ok (put (start 16 vtoc) T' d))

-- ---- the lengths, one after the other
-- what was needed so far, the lines left and the least length that is known to end in 21, with a save of k bytes more
abbrev pub with_save : Needs → (k : ℕ) (goes : Bool) → Needs
with_save s k false = record { sectors = s.sectors; lists = s.lists; lines = s.lines; left = s.left; least = min k s.least }
with_save s k true =
    record {
      sectors = s.sectors + data_for k;
      lists = s.lists + lists_for (data_for k);
      lines = s.lines + 1;
      left = s.left - 1;
      least = 32769;
    }

-- there is room for it in the sums
pub record Room (s : Needs) (k : ℕ) (goes : Bool) : Type 0 where
  pub sectors : s.sectors ≤ 8256
  pub lists : s.lists ≤ 128
  pub lines : s.lines ≤ 64
  pub when : goes ≡ true → (0 < s.left) × (k ≤ 32768)

-- a VTOC, a plan, and enough elements for its numbers
pub record Plan (T ks N : List ℕ) : Type 0 where
  pub long : length T ≡ 256
  pub few : length ks ≤ 64
  pub wide : 3 + length ks ≤ length N

-- its numbers were put to the front of the elements
pub record Foreseen (T : List ℕ) (left : ℕ) (ks before after : List ℕ) : Type 0 where
  pub is : (d : List ℕ) → HasTable T d → after ≡ numbers_in (ahead 16 left d ks) ++ drop (3 + length ks) before

-- ---- the end of the call
-- a clean disk, a plan, and enough elements
pub record Prepared (d ks N : List ℕ) : Type 0 where
  pub has : Contents
  pub clean : tidy 16 d ≡ Ok has
  pub few : length ks ≤ 64
  pub wide : 3 + length ks ≤ length N

-- the numbers of the forecast were put to the front of the elements
pub record AllTold (d ks before after : List ℕ) : Type 0 where
  pub is : (ns : List ℕ) → forecast_numbers d ks ≡ Ok ns → after ≡ ns ++ drop (length ns) before
