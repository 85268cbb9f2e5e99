use Rattle.disk.specs.Disk.{bytes_of}
use Rattle.files.proofs.Copying.{Pairs}
use Rattle.files.proofs.copy_pairs.Given as goal

abbrev pub invariant-loop-i : goal.invariant-loop-i
invariant-loop-i l = Pairs l.per l.disk (bytes_of l.per l.disk) l.p l.size l.initial.s l.initial.out l.i l.s l.out
