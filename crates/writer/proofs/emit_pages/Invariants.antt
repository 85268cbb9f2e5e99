use Rattle.writer.specs.Passes.{writes, compared}
use Rattle.writer.proofs.Pages.{Walking}
use Rattle.writer.proofs.emit_pages.Given as goal

abbrev pub invariant-loop-turn : goal.invariant-loop-turn
invariant-loop-turn l = Walking (writes l.job.target) (compared l.job.target) l.job.per l.job.disk.now l.job.total l.initial.p l.initial.t l.initial.out l.most l._turn l.p l.t l.out
