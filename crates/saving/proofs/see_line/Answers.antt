use Rattle.saving.proofs.Looks.{seeing}
use Rattle.saving.proofs.see_line.Goals as goal

pub returns-then-not-valid_file : goal.returns-then-not-valid_file
returns-then-not-valid_file c = search seeing

pub returns-then-has_name : goal.returns-then-has_name
returns-then-has_name c = search seeing

pub returns : goal.returns
returns c = search seeing
