use Rattle.stream.proofs.Images.{counted}
use Rattle.stream.proofs.decode_first.Goals as goal

pub returns-then-put_data-eq0 : goal.returns-then-put_data-eq0
returns-then-put_data-eq0 c = search counted

pub returns-then-old-eq0 : goal.returns-then-old-eq0
returns-then-old-eq0 c = search counted

pub returns : goal.returns
returns c = search counted
