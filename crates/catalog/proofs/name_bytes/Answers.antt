use Rattle.std.proofs.Common.{sym, ◌∙◌}
use lib.ListN.{length-take}
use Rattle.catalog.proofs.name_bytes.Goals as goal

pub returns : goal.returns
returns c = c.min.ensures ∙ sym (length-take 30 _)
