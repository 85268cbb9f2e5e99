use Rattle.catalog.proofs.Turns.{letters_of_all}
use Rattle.catalog.proofs.bad_letter.Goals as goal

pub returns-in-Some : goal.returns-in-Some
returns-in-Some c = letters_of_all c.args.disk.now _ _ c.args.i _ c.part-raw.ensures c.in-Some.ensures.cases.same c.bad_among.ensures
