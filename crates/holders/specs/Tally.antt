-- Holders counted in one pass over pages, lists and pairs: what its functions promise.
use Rattle.std.specs.Prelude.{◌≡◌, Bool, true, cond, ◌&&◌, ℕ, zero, suc, ◌+◌, ◌*◌, ◌<◌, get_or, set, ltb, eqb}
use mathlib.Core.List.{List, [], ◌∷◌, ◌++◌, foldl}
use Rattle.lists.specs.Select.{all}
use Rattle.std.specs.Prelude.{Ok}
use Rattle.outcome.specs.Outcome.{Outcome, ◌>>=◌, ◌>>◌}
use Rattle.disk.specs.declared.Place.{Place}
use Rattle.disk.specs.Disk.{place, start, on_disk, number_of, place_of, sectors}
use Rattle.disk.specs.Vtoc.{vtoc, readable}
use Rattle.disk.specs.Chain.{walk}
use Rattle.catalog.specs.Catalog.{live, entry_from, sound_page, next_page, first_page}
use Rattle.files.specs.Contents.{pairs_of}
use Rattle.holders.specs.Holders.{sectors_from, free}

-- ---- a run of counts, one for each sector
-- a count and one more: 2 stands for all above 1
abbrev pub one_more : ℕ → ℕ
one_more c = cond (ltb c 2) (c + 1) c

module _ (n : ℕ) where
  -- the counts with a place more
  unfoldable pub bump : List ℕ → Place → List ℕ
  bump c p = set c (number_of n p) (one_more (get_or c (number_of n p) 0))

  -- .. and with some places more
  unfoldable pub bumps : List ℕ → List Place → List ℕ
  bumps c ps = foldl bump c ps

  -- a place was counted
  pub record Bumped (p : Place) (before after : List ℕ) : Type 0 where
    pub is : after ≡ bump before p

  -- a pair was, and r says whether it is on the disk
  pub record PairHeld (q : Place) (before after : List ℕ) (r : Bool) : Type 0 where
    pub good : r ≡ on_disk n q
    pub is : after ≡ bump before q

  -- some places were, and r says whether all are on the disk
  pub record Paired (ps : List Place) (before after : List ℕ) (r : Bool) : Type 0 where
    pub good : r ≡ all (on_disk n) ps
    pub is : after ≡ bumps before ps

  -- A step counts the places of o, and answers r: the refusal of o, or that there is none; under a refusal the counts are not looked at.
  pub record Tallied (o : Outcome (List Place)) (before after : List ℕ) (r : Outcome (Unit {0})) : Type 0 where
    pub is : r ≡ o >> Ok tt
    pub counts : (hs : List Place) → o ≡ Ok hs → after ≡ bumps before hs

  -- A step goes on from what was met so far, o, to f o.
  pub record Extends (f : Outcome (List Place) → Outcome (List Place)) (before after : List ℕ) (q r : Outcome (Unit {0})) : Type 0 where
    pub steps : (o : Outcome (List Place)) (first : List ℕ) → Tallied o first before q → Tallied (f o) first after r

-- a list was counted, and its pairs; r says whether all of these are on the disk
pub record ListHeld (n : ℕ) (d : List ℕ) (p : Place) (before after : List ℕ) (r : Bool) : Type 0 where
  pub good : r ≡ all (on_disk n) (pairs_of n d p)
  pub is : after ≡ bumps n (bump n before p) (pairs_of n d p)

-- ---- the holders in the order of the pass: each page and right behind it the sectors of its entries
module _ (n : ℕ) (d : List ℕ) where
  -- the sectors of the line that starts at x; none where it is not in use
  unfoldable pub line_sectors : ℕ → Outcome (List Place)
  line_sectors x = cond (live (entry_from d x)) (sectors_from n d (entry_from d x).list) (Ok [])

  -- with those of a line more
  unfoldable pub with_line : ℕ → Outcome (List Place) → Outcome (List Place)
  with_line x o = o >>= λ hs. line_sectors x >>= λ t. Ok (hs ++ t)

  -- with the first i lines of a page
  unfoldable pub with_lines : Place → (i : ℕ) → Outcome (List Place) → Outcome (List Place)
  with_lines p zero o = o
  with_lines p (suc i) o = with_line (start n p + (11 + 35 * i)) (with_lines p i o)

  -- with a page more, and its seven lines
  unfoldable pub with_page : Outcome (List Place) → Place → Outcome (List Place)
  with_page o p = with_lines p 7 (o >>= λ hs. Ok (hs ++ p ∷ []))

  unfoldable pub on_page : Place → Outcome (List Place) → Outcome (List Place)
  on_page p o = with_page o p

  -- the pages from p on
  unfoldable pub walk_held : Place → Outcome (Outcome (List Place))
  walk_held p = walk n (sound_page n d) (next_page n d) (sectors n + 1) [] p >>= λ ps. Ok (foldl with_page (Ok []) ps)

  -- all that is met: 1, 2, then the pages' refusals, then the entries'
  unfoldable pub met_from : Place → Outcome (List Place)
  met_from p = walk_held p >>= λ o. o

  unfoldable pub all_met : Outcome (List Place)
  all_met = readable n d >> (met_from (first_page n d) >>= λ hs. Ok (vtoc ∷ hs))

-- ---- the tests of a count
-- sector k has the count v
unfoldable pub is_held : List ℕ → ℕ → ℕ → Bool
is_held c v k = eqb (get_or c k 0) v

-- sector k is held, and the map calls it free
unfoldable pub is_free : (n : ℕ) (d c : List ℕ) → ℕ → Bool
is_free n d c k = ltb 0 (get_or c k 0) && free n d (place_of n k)

-- .. by track and sector
unfoldable pub is_free_in : (n : ℕ) (d c : List ℕ) → (t s : ℕ) → Bool
is_free_in n d c t s = ltb 0 (get_or c (n * t + s) 0) && free n d (place t s)

-- r says only where it is so that no sector of the n from number `from` on has a count
pub record Idle (n : ℕ) (c : List ℕ) (from : ℕ) (r : Bool) : Type 0 where
  pub none : r ≡ true → (s : ℕ) → s < n → get_or c (from + s) 0 ≡ 0
