use Rattle.host.proofs.Told.{puts_told}
use Rattle.host.proofs.Numbers.{step_is}
use Rattle.host.proofs.dos33_archive_step.Goals as goal

pub returns : goal.returns
returns c =
    rw (step_is c.args.archive.now c.args.block c.block_number.result c.entry_from-found.result c.entry_values.result c.block_number.ensures c.entry_from-found.ensures c.entry_values.ensures) at
    (puts_told _ _ _ _ _ c.put_fields.ensures c.number_of.ensures)
