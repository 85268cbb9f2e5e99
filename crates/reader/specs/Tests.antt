-- Words for the reader's tests.
use Rattle.std.specs.Prelude.{Bool, cond, ◌&&◌, List, ◌++◌, ℕ, ◌+◌, length, get_or, take, drop, eqb}
use Rattle.lists.specs.Fill.{padded}
use Rattle.lists.specs.Same.{same}
use Rattle.lists.specs.Select.{all}
use Rattle.lists.specs.Words.{le2}
use Rattle.catalog.specs.Catalog.{shown}
use Rattle.files.specs.Survey.{blocks_for}
use Rattle.archive.specs.Reader.{size_in}
use Rattle.std.specs.Prelude.{Ok, Err}
use Rattle.outcome.specs.Outcome.{Outcome}
use Rattle.outcome.specs.declared.Refusal.TheVariants.{NotItsReturn}
use Rattle.reader.specs.declared.Blocks.{Blocks}
use Rattle.reader.specs.declared.Blocks.TheVariants.{Sound, Unsound}

-- the links that the fields in s ask for, as block b with n blocks behind it
unfoldable pub links_due : ℕ → ℕ → List ℕ → List ℕ
links_due n b s = let k = blocks_for (size_in s) in le2 (cond (eqb k n) 0 (b + 1 + k)) ++ le2 (cond (eqb k 0) 0 (b + 1))

-- the shown name in s, its length and its field, is the one that the name bytes in s give
unfoldable pub name_due : List ℕ → Bool
name_due s = let name = shown (take 30 (drop 42 s)) in eqb (get_or s 6 0) (length name) && same (take 30 (drop 7 s)) (padded 30 name)

-- the bytes behind the fields are zero
unfoldable pub blank_entry : List ℕ → Bool
blank_entry s = all (λ b. eqb b 0) (take 184 (drop 72 s))

-- what blocks come to, as a refusal
abbrev pub told : Blocks → Outcome (Unit {0})
told Sound = Ok tt
told Unsound = Err NotItsReturn
