-- The sectors of a side counted page by page: what the steps of the code come to, whatever the disk. Where pages and lists are followed without a refusal it is
-- what the side holds (`counted` of the claims).
use Rattle.std.specs.Prelude.{Bool, cond, not, List, ℕ, zero, suc, ◌+◌, ◌*◌, length, eqb}
use Rattle.std.specs.Prelude.{Ok, Err}
use Rattle.outcome.specs.Outcome.{Outcome}
use Rattle.disk.specs.declared.Place.{Place}
use Rattle.disk.specs.Disk.{start, link_of, sectors}
use Rattle.catalog.specs.Catalog.{last_page, first_page}
use Rattle.sides.specs.declared.Side.{Side}
use Rattle.sides.specs.declared.Side.TheVariants.{Survey, Ours}
use Rattle.sides.specs.Sides.{own_at}

-- a name with this first letter is the side's
abbrev pub lettered : Side → ℕ → Bool
lettered Survey b = eqb b 0x53
lettered Ours b = not (eqb b 0x53)

-- how many sectors were found; none under a refusal
abbrev pub many : Outcome (List Place) → ℕ
many (Err r) = 0
many (Ok ps) = length ps

module _ (n : ℕ) (d : List ℕ) where
  -- the sum of f over the pages from p on, `fuel` pages at most
  unfoldable pub over_pages : (f : Place → ℕ) (fuel : ℕ) → Place → ℕ
  over_pages f zero p = 0
  over_pages f (suc fuel) p = f p + cond (last_page n d p) 0 (over_pages f fuel (link_of n d p))

  module _ (s : Side) where
    -- the sectors that the side holds in the line at x
    unfoldable pub line_count : ℕ → ℕ
    line_count x = many (own_at n d s x)

    -- those of the first i lines of a page
    unfoldable pub lines_count : Place → (i : ℕ) → ℕ
    lines_count p zero = 0
    lines_count p (suc i) = lines_count p i + line_count (start n p + (11 + 35 * i))

    -- .. and of all seven
    unfoldable pub page_count : Place → ℕ
    page_count p = lines_count p 7

    -- those of the disk
    unfoldable pub tally : ℕ
    tally = over_pages page_count (sectors n + 1) (first_page n d)
