use mathlib.Core.Path.{refl, sym}
use Rattle.outcome.proofs.Outcome.{passed}
use Rattle.files.proofs.Adds.{add_refused, add_live}
use Rattle.files.proofs.add_entry.Goals as goal

pub returns-in_err-thread : goal.returns-in_err-thread
returns-in_err-thread c =
    add_refused _ _ _ _ _ _ _ refl (sym c.requires.used) refl _ c.entry_list-list.ensures _ _ (passed c.from_residual.ensures.1) c.in_err-thread.ensures

pub returns : goal.returns
returns c =
    add_live _ _ _ _ _ _ _ refl (sym c.requires.used) refl _ c.entry_list-list.ensures _ _ _ _ c.entry_type-kind.ensures c.in_ok-thread.ensures c.picks-pick.ensures
    c.add_thread.ensures
