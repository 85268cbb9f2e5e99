use Rattle.writer.specs.Passes.{writes, compared}
use Rattle.writer.proofs.Pages.{Paging}
use Rattle.writer.proofs.emit_page.Given as goal

abbrev pub invariant-loop-i : goal.invariant-loop-i
invariant-loop-i l = Paging (writes l.job.target) (compared l.job.target) l.job.per l.job.disk.now l.job.total l.p l.initial.t l.initial.out l.i l.t l.out
