use Rattle.catalog.proofs.Shown.{entering}
use Rattle.catalog.proofs.parse_file_entry.Goals as goal

pub returns : goal.returns
returns c = search entering
