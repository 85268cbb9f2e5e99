use Rattle.nibblize.proofs.Writing.{addresses}
use Rattle.nibblize.proofs.put_address.Goals as goal

pub returns : goal.returns
returns c = search addresses
