use Rattle.disk.specs.Disk.{bytes_of}
use Rattle.files.proofs.Datas.{Lists}
use Rattle.files.proofs.copy_lists.Given as goal

abbrev pub invariant-loop-turn : goal.invariant-loop-turn
invariant-loop-turn l = Lists l.per l.disk (bytes_of l.per l.disk) l.initial.p l.size l.initial.s l.initial.out l.most l._turn l.p l.s l.out
