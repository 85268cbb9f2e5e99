-- The percent used that is displayed, proved. Assumes nothing.
use mathlib.Core.Path.{◌≡◌, sym}
use mathlib.Core.Logic.{inl, inr}
use mathlib.Core.List.{List}
use Prim.Native.Nat.{ℕ, ◌<◌}
use native.Mathlib.Omega.{arith}
use Rattle.std.specs.Prelude.{Ok}
use Rattle.outcome.proofs.Outcome.{then_gives}
use Rattle.disk.specs.declared.VolumeTableOfContents.{VolumeTableOfContents}
use Rattle.disk.specs.Disk.{per_of, sectors}
use Rattle.disk.specs.Vtoc.{parsed, readable, table_of}
use Rattle.disk.specs.Percent.{Nearest}
use Rattle.disk.proofs.Places.{Per, per_known}
use Rattle.disk.proofs.Percent.{rounding}
use Rattle.files.proofs.Surveys.{percent_near}
use Rattle.agreement.specs.Percent.{Displayed}

-- a track has sectors
some_per : (n : ℕ) → Per n → 0 < n
some_per n (inl e) = omega arith
some_per n (inr e) = omega arith

module _ (n : ℕ) (some : 0 < n) (d : List ℕ) where
  by_table : (v : VolumeTableOfContents) → Ok v ≡ parsed n d → Nearest (sectors n) v.used v.percent_used
  unfolding parsed
  by_table v e =
      let t = (then_gives (readable n d) (Ok (table_of n d)) v (sym e)).1 in
      let z : v ≡ table_of n d = cc in
      rw z (unfold table_of in rounding.nearest (sectors n) _ (omega arith))

pub displayed : Displayed
displayed =
    record {
      by_table = λ d v e. by_table (per_of d) (some_per _ (per_known d)) d v e;
      by_survey = λ d s e. percent_near (per_of d) d (some_per _ (per_known d)) s (sym e);
    }
