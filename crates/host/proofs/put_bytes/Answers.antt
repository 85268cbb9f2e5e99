use Rattle.host.proofs.Numbers.{handing}
use Rattle.host.proofs.put_bytes.Goals as goal

pub returns : goal.returns
returns c = search handing
