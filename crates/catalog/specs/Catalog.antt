-- The catalog: its pages, and its live entries in chain order (01: the roll). Document 01, "Catalog page" under Records and "Roll" under Modules;
-- the first page is document 02's, Req 08.
use Rattle.std.specs.Prelude.{Bool, true, false, cond, not, ◌&&◌, ◌||◌, ℕ, ◌+◌, ◌*◌, ◌-◌, ◌/◌, ◌%◌, get_or, take, drop, ltb, eqb}
use mathlib.Core.List.{List, [], ◌∷◌, map, flat_map}
use Rattle.std.proofs.Math.Option.{Option, none, some}
use Rattle.lists.specs.Fill.{below}
use Rattle.lists.specs.Select.{all, filter, among}
use Rattle.lists.specs.Words.{word_at}
use Rattle.std.specs.Prelude.{Ok}
use Rattle.outcome.specs.declared.Refusal.TheVariants.{BadLetter}
use Rattle.outcome.specs.Outcome.{Outcome, ◌>>=◌, ◌>>◌, require}
use Rattle.disk.specs.declared.Place.{Place}
use Rattle.disk.specs.Disk.{place, byte_of, link_of, start, sectors}
use Rattle.disk.specs.Vtoc.{vtoc, readable}
use Rattle.disk.specs.Chain.{walk}

-- an entry of a page: where its first list stands, type, lock, the 30 name bytes, sector count
pub record Entry : Type 0 where
  pub list : Place
  pub kind : ℕ
  pub locked : ℕ
  pub raw : List ℕ
  pub count : ℕ

-- the Rust's eight codes
abbrev pub known_type : ℕ → Bool
known_type c = eqb c 0 || (eqb c 1 || (eqb c 2 || (eqb c 4 || (eqb c 8 || (eqb c 10 || (eqb c 20 || eqb c 40))))))

-- the type of a code: any other is 41, Unknown
unfoldable pub kind_of : ℕ → ℕ
kind_of c = cond (known_type c) c 41

-- the list has no element
abbrev pub is_nil : List ℕ → Bool
is_nil [] = true
is_nil (x ∷ xs) = false

-- without the spaces at the end
unfoldable pub trimmed : List ℕ → List ℕ
trimmed [] = []
trimmed (b ∷ bs) = let r = trimmed bs in cond (eqb b 32 && is_nil r) [] (b ∷ r)

-- a name byte as it is shown: above 80h it loses 80h
abbrev pub letter : ℕ → ℕ
letter b = cond (ltb 128 b) (b - 128) b

-- the name as it is shown
unfoldable pub shown : List ℕ → List ℕ
shown raw = trimmed (map letter raw)

-- a list track that an entry in use has: 0 and FFh are skipped
unfoldable pub valid_file : ℕ → Bool
valid_file t = not (eqb t 0 || eqb t 255)

-- an entry in use
abbrev pub live : Entry → Bool
live e = valid_file e.list.track.0

-- no name of these entries holds 80h
abbrev pub plain_names : List Entry → Bool
plain_names = all (λ (e : Entry). not (among 128 e.raw))

-- the entry in the 35 bytes of d from x on
abbrev pub entry_from : List ℕ → ℕ → Entry
entry_from d x =
    record {
      list = place (get_or d x 0) (get_or d (x + 1) 0);
      kind = kind_of (get_or d (x + 2) 0 % 128);
      locked = get_or d (x + 2) 0 / 128;
      raw = take 30 (drop (x + 3) d);
      count = word_at d (x + 33);
    }

module _ (n : ℕ) (d : List ℕ) where
  -- entry i of a page, i from 0 to 6
  abbrev pub entry_at : Place → ℕ → Entry
  entry_at p i = entry_from d (start n p + (11 + 35 * i))

  -- the live ones of a page's seven
  unfoldable pub entries_of : Place → List Entry
  entries_of p = filter live (map (entry_at p) (below 7))

  -- a page's own test: 6 where a live name holds 80h
  unfoldable pub sound_page : Place → Outcome (Unit {0})
  sound_page p = require (plain_names (entries_of p)) BadLetter

  -- a link with a zero in either byte ends the catalog
  unfoldable pub last_page : Place → Bool
  last_page p = eqb (byte_of n d p 1) 0 || eqb (byte_of n d p 2) 0

  -- the link of a page
  unfoldable pub next_page : Place → Option Place
  next_page p = cond (last_page p) none (some (link_of n d p))

  -- the first page: its track and sector are bytes 1 and 2 of the VTOC
  abbrev pub first_page : Place
  first_page = place (byte_of n d vtoc 1) (byte_of n d vtoc 2)

  -- the pages: 1, 2, then page by page 3, 4, 6
  unfoldable pub pages : Outcome (List Place)
  pages = readable n d >> walk n sound_page next_page (sectors n + 1) [] first_page

  -- the catalog: the live entries of all pages
  unfoldable pub catalog : Outcome (List Entry)
  catalog = pages >>= λ ps. Ok (flat_map entries_of ps)
