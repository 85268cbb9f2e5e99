-- The entry lines of a catalog, and the plain ordered list that they are: Req 09. A page has seven lines, in chain order; a line is unused (list track 0),
-- deleted (FFh) or in use.
use Rattle.std.specs.Prelude.{Bool, true, false, cond, not, ◌&&◌, ℕ, ◌+◌, ◌*◌}
use mathlib.Core.List.{List, [], ◌∷◌, map, flat_map}
use Rattle.std.proofs.Math.Option.{Option, none, some}
use Rattle.lists.specs.Fill.{below}
use Rattle.lists.specs.Same.{same}
use Rattle.lists.specs.Select.{any, among}
use Rattle.std.specs.Prelude.{Ok, Err}
use Rattle.outcome.specs.declared.Refusal.{Refusal}
use Rattle.outcome.specs.declared.Refusal.TheVariants.{NotOnRoll, NoSpace, NotClean}
use Rattle.outcome.specs.Outcome.{Outcome, ◌>>=◌, ◌>>◌, require, each}
use Rattle.disk.specs.declared.Place.{Place}
use Rattle.disk.specs.Disk.{start}
use Rattle.catalog.specs.Catalog.{Entry, live, entry_from, shown, trimmed, pages}
use Rattle.files.specs.Contents.{File, Contents, file_of, contents}
use Rattle.records.specs.Records.{writable}
use Rattle.holders.specs.Holders.{holders, clean}

-- ---- the first and the last of a list that pass a test
module _ {A : Type 0} (test : A → Bool) where
  unfoldable pub first_of : List A → Option A
  first_of [] = none
  first_of (x ∷ xs) = let rest = first_of xs in cond (test x) (some x) rest

  unfoldable pub last_of : List A → Option A
  last_of [] = none
  last_of (x ∷ xs) = elim (last_of xs) [ some y ↦ some y | none ↦ cond (test x) (some x) none ]

-- what was found, or a refusal
abbrev pub found : {A : Type 0} → Option A → Refusal → Outcome A
found none r = Err r
found (some x) r = Ok x

-- a name that a save or a delete takes: writable, and with no byte 0 and no space at the end, else 14
unfoldable pub savable : List ℕ → Bool
savable name = writable name && (not (among 0 name) && same (trimmed name) name)

-- the entry's name as it is shown is x
abbrev pub is_named : List ℕ → Entry → Bool
is_named x e = same x (shown e.raw)

-- where the lines of some pages start: seven a page, of 35 bytes each
unfoldable pub starts : ℕ → List Place → List ℕ
starts n ps = flat_map (λ p. map (λ i. start n p + (11 + 35 * i)) (below 7)) ps

-- the line that starts at x is in use
abbrev pub in_use : List ℕ → ℕ → Bool
in_use d x = live (entry_from d x)

module _ (n : ℕ) (d : List ℕ) where
  -- what it holds: the file of its entry; nothing where it is unused or deleted
  unfoldable pub line_at : ℕ → Outcome (Option File)
  line_at x = cond (in_use d x) (file_of n d (entry_from d x) >>= λ f. Ok (some f)) (Ok none)

  -- the lines of the disk: 1 to 6
  unfoldable pub lines : Outcome (List (Option File))
  lines = pages n d >>= λ ps. each line_at (starts n ps)

  -- the first line that is unused or deleted, else 21
  unfoldable pub open_line : Outcome ℕ
  open_line = pages n d >>= λ ps. found (first_of (λ x. not (in_use d x)) (starts n ps)) NoSpace

  -- the line of the last entry of the shown name, else 18
  unfoldable pub line_of : List ℕ → Outcome ℕ
  line_of name = pages n d >>= λ ps. found (last_of (λ x. in_use d x && is_named name (entry_from d x)) (starts n ps)) NotOnRoll

  -- the contents of a clean disk: 1 to 6, then 20
  unfoldable pub tidy : Outcome Contents
  tidy = contents n d >>= λ c. holders n d >>= λ hs. require (clean n d hs) NotClean >> Ok c

-- ---- the plain ordered list
-- the files of some lines, in order
unfoldable pub present : List (Option File) → List File
present [] = []
present (none ∷ ls) = present ls
present (some f ∷ ls) = f ∷ present ls

-- a line that holds nothing
abbrev pub is_open : Option File → Bool
is_open none = true
is_open (some f) = false

-- a line that holds a file of this shown name
abbrev pub holds_name : List ℕ → Option File → Bool
holds_name x none = false
holds_name x (some f) = same x (shown f.raw)

-- f put into the first line that holds nothing
unfoldable pub fill_first : File → List (Option File) → List (Option File)
fill_first f [] = []
fill_first f (l ∷ ls) = let rest = fill_first f ls in cond (is_open l) (some f ∷ ls) (l ∷ rest)

-- the last line that holds a file of the name x emptied
unfoldable pub empty_last : List ℕ → List (Option File) → List (Option File)
empty_last x [] = []
empty_last x (l ∷ ls) = let rest = empty_last x ls in cond (any (holds_name x) ls) (l ∷ rest) (cond (holds_name x l) (none ∷ ls) (l ∷ ls))
