use Rattle.std.proofs.Common.{rules}
use Rattle.reader.proofs.Tests.{blank_is}
use Rattle.reader.proofs.blank.Goals as goal

pub returns : goal.returns
returns c = blank_is c.args.s.now c.all.result (search rules)
