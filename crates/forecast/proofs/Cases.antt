-- Cases of the definitions, computed. Assumes nothing.
use mathlib.Core.Path.{◌≡◌, refl}
use mathlib.Core.List.{List, [], ◌∷◌}
use Prim.Native.Nat.{ℕ}
use Rattle.lists.specs.Fill.{tab, below}
use Rattle.std.specs.Prelude.{Err}
use Rattle.outcome.specs.declared.Refusal.TheVariants.{OffSize, PlanLong}
use Rattle.disk.specs.Disk.{sized}
use Rattle.disk.specs.Vtoc.{readable}
use Rattle.catalog.specs.Catalog.{pages, catalog}
use Rattle.files.specs.Contents.{contents}
use Rattle.amend.specs.Lines.{tidy}
use Rattle.forecast.specs.Forecast.{no_saves, goes_on, ends_in21, forecast}

-- 252 bytes go on, the next save does not, 253 bytes go on: 1 and 2 data sectors, a list and a line each
pub three_saves : goes_on 252 (ends_in21 (goes_on 253 no_saves)) ≡ record { data_sectors = 3; list_sectors = 2; entry_lines = 2; marks = 0 ∷ 1 ∷ 0 ∷ [] }
three_saves = refl

-- the longest file: 129 data sectors, two lists
pub longest : goes_on 32768 no_saves ≡ record { data_sectors = 129; list_sectors = 2; entry_lines = 1; marks = 0 ∷ [] }
longest = refl

-- 65 lengths are too many, whatever the disk; of 64 an empty disk is refused by its size
pub lengths_65 : (d : List ℕ) → forecast 16 d (below 65) ≡ Err PlanLong
unfolding forecast tab
lengths_65 d = refl

pub lengths_64 : forecast 16 [] (below 64) ≡ Err OffSize
unfolding forecast tab tidy contents catalog pages readable sized
lengths_64 = refl
