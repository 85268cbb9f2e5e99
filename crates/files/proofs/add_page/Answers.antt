use Rattle.std.proofs.Common.{arith}
use Rattle.outcome.proofs.Outcome.{passed}
use Rattle.files.proofs.Adds.{adding_refused, addings, adds}
use Rattle.files.proofs.add_page.Goals as goal
use Rattle.files.proofs.add_page.Goals.{then-valid_file+in_ok-t, else-valid_file}

pub loop-i-init : goal.loop-i-init
loop-i-init c = search addings

pub add_entry-requires : goal.add_entry-requires
add_entry-requires c = search addings

pub returns-in_err-t : goal.returns-in_err-t
returns-in_err-t c =
    adding_refused _ _ _ _ _ _ _ c.loop-i.invariant (omega arith) _ c.entry_start-x.ensures.is _ _ (passed c.from_residual.ensures.1) c.in_err-t.ensures

pub loop-i-preserved : goal.loop-i-preserved
loop-i-preserved c =
    elim c.if-valid_file.branch [
      | then-valid_file+in_ok-t w ↦ rw w.t-is (search (addings, w.in_ok-t.ensures))
      | else-valid_file w ↦ rw w.t-is (search (addings, adds))
    ]

pub returns : goal.returns
returns c = search addings
