use Rattle.writer.proofs.Heads.{chains}
use Rattle.writer.proofs.emit_data.Goals as goal

pub loop-j-preserved : goal.loop-j-preserved
loop-j-preserved c = search chains

pub returns : goal.returns
returns c = search chains
