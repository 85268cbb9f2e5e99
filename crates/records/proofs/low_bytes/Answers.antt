use Rattle.std.proofs.Common.{rules}
use Rattle.records.proofs.Entries.{low_is}
use Rattle.records.proofs.low_bytes.Goals as goal

pub returns : goal.returns
returns c = low_is c.args.name.now c.all.result (search rules)
