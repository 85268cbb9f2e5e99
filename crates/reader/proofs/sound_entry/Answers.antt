use Rattle.reader.proofs.Tests.{blocks}
use Rattle.reader.proofs.sound_entry.Goals as goal

pub returns-then-s-lt256 : goal.returns-then-s-lt256
returns-then-s-lt256 c = search blocks

pub returns-then-not-allowed_entry : goal.returns-then-not-allowed_entry
returns-then-not-allowed_entry c = search blocks

pub returns-then-not-links_due : goal.returns-then-not-links_due
returns-then-not-links_due c = search blocks

pub returns-then-not-name_due : goal.returns-then-not-name_due
returns-then-not-name_due c = search blocks

pub returns : goal.returns
returns c = search blocks
