use Rattle.writer.proofs.Collects.{starts}
use Rattle.writer.proofs.put_start.Goals as goal

pub returns-then-at-ge257 : goal.returns-then-at-ge257
returns-then-at-ge257 c = search starts

pub returns : goal.returns
returns c = search starts
