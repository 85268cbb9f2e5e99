-- What the two sides may rely on: the claims of Req 10.
use Rattle.std.specs.Prelude.{◌≡◌, Bool, true, false, cond, ℕ, ◌+◌, ◌/◌, ◌<◌, ◌≤◌, length, get_or}
use mathlib.Core.List.{List, [], map, flat_map}
use Rattle.lists.specs.Fill.{Bytes}
use Rattle.lists.specs.Every.{Every}
use Rattle.lists.specs.Select.{any, among}
use Rattle.std.specs.Prelude.{Ok, Err}
use Rattle.outcome.specs.declared.Refusal.TheVariants.{NoSpace, OtherSide, OverLimit}
use Rattle.outcome.specs.Outcome.{Outcome, ◌>>=◌, each}
use Rattle.disk.specs.declared.Place.{Place}
use Rattle.disk.specs.Disk.{number_of, bytes_of}
use Rattle.catalog.specs.Catalog.{entry_from, pages}
use Rattle.files.specs.Contents.{lists, pairs_of}
use Rattle.amend.specs.Lines.{is_named, starts}
use Rattle.amend.specs.Amending.{Op, OfBytes, amend, bare, kept, Clean}
use Rattle.amend.specs.Amending
use Rattle.sides.specs.declared.Side.{Side}
use Rattle.sides.specs.Steps.{tally}
use Rattle.sides.specs.Sides.{other, belongs, of_side, within, own_lines, own_entries, own_sectors, held_by, Call, answer, run_for}

-- what is asked for is bytes
abbrev pub BytesIn : Call → Type 0
BytesIn c = OfBytes c.op

-- ---- 0. the calls of Req 09
-- the name that is asked for
abbrev pub asked_name : Op → List ℕ
asked_name (Amending.Op.save name address bytes) = name
asked_name (Amending.Op.delete name) = name

-- the side's limit has room: a delete asks for none
abbrev pub HasRoom : ℕ → List ℕ → Side → ℕ → Op → Type 0
HasRoom n d s limit (Amending.Op.save name address bytes) = within n d s limit (length bytes) ≡ Ok tt
HasRoom n d s limit (Amending.Op.delete name) = Unit {0}

-- ---- 1. what the other side has stays
-- e has the lines and files of a side as d has them: the lines in use by it are the same, each with its 35 bytes, and so are the sectors of its files, lists
-- and data, each with its 256 bytes
pub record KeptFor (n : ℕ) (s : Side) (d e : List ℕ) : Type 0 where
  pub lines : own_lines n e s ≡ own_lines n d s
  pub line_bytes : (xs : List ℕ) → own_lines n d s ≡ Ok xs → Every (λ (x : ℕ). (k : ℕ) → k < 35 → get_or e (x + k) 0 ≡ get_or d (x + k) 0) xs
  pub sectors : own_sectors n e s ≡ own_sectors n d s
  pub sector_bytes : (ps : List Place) → own_sectors n d s ≡ Ok ps → Every (λ (p : Place). bytes_of n e p ≡ bytes_of n d p) ps

-- ---- 2. limits
-- the side holds no more than the limit
abbrev pub InLimit : ℕ → Side → ℕ → List ℕ → Type 0
InLimit n s limit d = (k : ℕ) × (held_by n d s ≡ Ok k) × (k ≤ limit)

-- every call of the side has this limit; those of the other have any
abbrev pub OneLimit : Side → ℕ → List Call → Type 0
OneLimit s limit = Every (λ (c : Call). c.side ≡ s → c.limit ≡ limit)

-- ---- 3. what decides the answer
-- a line of the side shows the name x
unfoldable pub owns_name : ℕ → List ℕ → Side → List ℕ → Outcome Bool
owns_name n d s x = own_entries n d s >>= λ es. Ok (any (is_named x) es)

-- the same lines and threads of its own, as far as answers go: the same names stand on its lines, and it holds as many sectors
pub record SameOwn (n : ℕ) (s : Side) (d e : List ℕ) : Type 0 where
  pub names : (x : List ℕ) → owns_name n e s x ≡ owns_name n d s x
  pub count : held_by n e s ≡ held_by n d s

-- ---- 4. data bytes of the other's files
-- the data sectors of the side's file in the line at x; none where the line is not its own
unfoldable pub own_data_at : ℕ → List ℕ → Side → ℕ → Outcome (List Place)
own_data_at n d s x = cond (of_side s (entry_from d x)) (lists n d (entry_from d x) >>= λ ls. Ok (flat_map (pairs_of n d) ls)) (Ok [])

-- all data sectors of its files
unfoldable pub own_data : ℕ → List ℕ → Side → Outcome (List Place)
own_data n d s = pages n d >>= λ ps. each (own_data_at n d s) (starts n ps) >>= λ ts. Ok (flat_map (λ t. t) ts)

-- d and e have the same size, and every byte outside the sectors ps is equal
pub record DifferIn (n : ℕ) (ps : List Place) (d e : List ℕ) : Type 0 where
  pub size : length e ≡ length d
  pub outside : (i : ℕ) → among (i / 256) (map (number_of n) ps) ≡ false → get_or e i 0 ≡ get_or d i 0

-- what a call on d and on e comes to, where these differ in the data sectors ps of the other side alone
pub record AlikeAlways (n : ℕ) (ps : List Place) (d e : List ℕ) (c : Call) : Type 0 where
  -- the answers are alike: the same refusal, or none, ..
  pub answers : bare (answer n e c) ≡ bare (answer n d c)
  -- .. what is left differs there alone, and there are still the other's data sectors
  pub leaves : DifferIn n ps (kept d (answer n d c)) (kept e (answer n e c))
  pub still : own_data n (kept d (answer n d c)) (other c.side) ≡ Ok ps

-- ---- the claims
-- Req 10, for disks of n sectors a track
pub record SidesOf (n : ℕ) : Type 0 where
  -- a call under a name of its own, with room, is the save or delete of Req 09; and so is every call that is not refused as 23 or 24
  pub served : (d : List ℕ) (c : Call) → belongs c.side (asked_name c.op) ≡ true → HasRoom n d c.side c.limit c.op → answer n d c ≡ amend n d c.op
  pub otherwise : (d : List ℕ) (c : Call) → (answer n d c ≡ Err OtherSide → ⊥) → (answer n d c ≡ Err OverLimit → ⊥) → answer n d c ≡ amend n d c.op
  -- what the code counts page by page is what a side holds, on every disk whose lists can be followed
  pub counted : (d : List ℕ) (s : Side) (m : ℕ) → held_by n d s ≡ Ok m → tally n d s ≡ m
  -- calls of both sides leave a clean disk clean
  pub stays : (d : List ℕ) → Clean n d → (cs : List Call) → Every BytesIn cs → Clean n (run_for n d cs)
  -- 1. no list of calls by one side changes a byte of the other's files, or an entry line in use by the other; on a disk that is not clean all are refused
  pub keeps : (d : List ℕ) → Bytes d → (s : Side) → (cs : List Call) → Every BytesIn cs → Every (λ (c : Call). c.side ≡ s) cs
      → KeptFor n (other s) d (run_for n d cs)
  -- 2. a side never holds more than its limit if it began within it and the limit is the same in every call of its own, whatever the other does between
  pub limits : (d : List ℕ) → Bytes d → (s : Side) (limit : ℕ) → InLimit n s limit d → (cs : List Call) → Every BytesIn cs → OneLimit s limit cs
      → InLimit n s limit (run_for n d cs)
  -- 3. one call on two clean disks with the same lines and threads of its own is answered alike unless one answer is 21
  pub alike : (d e : List ℕ) → Clean n d → Clean n e → (c : Call) → SameOwn n c.side d e
      → (answer n d c ≡ Err NoSpace → ⊥) → (answer n e c ≡ Err NoSpace → ⊥) → bare (answer n e c) ≡ bare (answer n d c)
  -- .. and they have these where its entries, in chain order, and their sectors are the same
  pub same_own : (d e : List ℕ) (s : Side) → own_entries n e s ≡ own_entries n d s → own_sectors n e s ≡ own_sectors n d s → SameOwn n s d e
  -- 4. where the disks differ only in the data bytes of the other's files, it is answered alike always, and what it leaves differs only there
  pub always : (d e : List ℕ) → Clean n d → (c : Call) → BytesIn c → (ps : List Place) → own_data n d (other c.side) ≡ Ok ps → DifferIn n ps d e
      → AlikeAlways n ps d e c
  -- .. and such a disk is clean, if it is of bytes
  pub twin : (d e : List ℕ) → Clean n d → Bytes e → (s : Side) → (ps : List Place) → own_data n d s ≡ Ok ps → DifferIn n ps d e → Clean n e

-- .. and that is 16 on the disks that are saved to
abbrev pub Sides : Type 0
Sides = SidesOf 16
