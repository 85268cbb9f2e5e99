-- The percent used that is displayed, of the calls: document 02, Req 04. `parsed` and `survey` are the promises of `disk::parse_volume_table_of_contents` and of `files::survey`. proofs/Percent.antt proves it.
use Rattle.std.specs.Prelude.{◌≡◌, List, ℕ, Ok}
use Rattle.disk.specs.declared.VolumeTableOfContents.{VolumeTableOfContents}
use Rattle.disk.specs.Disk.{per_of, sectors}
use Rattle.disk.specs.Vtoc.{parsed}
use Rattle.disk.specs.Percent.{Nearest}
use Rattle.files.specs.declared.DiskSurvey.{DiskSurvey}
use Rattle.files.specs.Survey.{survey}

-- never more than half a percent from 100 times used / 560, or / 455 on a disk of that many
pub record Displayed : Type 0 where
  -- by the VTOC call
  pub by_table : (d : List ℕ) (v : VolumeTableOfContents) → Ok v ≡ parsed (per_of d) d → Nearest (sectors (per_of d)) v.used v.percent_used
  -- by the survey
  pub by_survey : (d : List ℕ) (s : DiskSurvey) → Ok s ≡ survey (per_of d) d → Nearest (sectors (per_of d)) s.used s.percent_used
