use Rattle.records.proofs.Entries.{Field}
use Rattle.records.proofs.name_field.Given as goal

abbrev pub invariant-loop-k : goal.invariant-loop-k
invariant-loop-k l = Field l.name l.k l.initial.field l.field
