-- The survey office on our disk: Req 10. Two sides save to the same map and catalog; side and limit are given with the call, which is otherwise a save or a
-- delete of Req 09. The disks are those of 16 sectors a track, which is n.
use Rattle.std.specs.Prelude.{Bool, false, cond, not, ◌&&◌, ℕ, ◌+◌, length, leb, eqb}
use mathlib.Core.List.{List, [], ◌∷◌, map, flat_map}
use Rattle.lists.specs.Select.{filter}
use Rattle.std.specs.Prelude.{Ok}
use Rattle.outcome.specs.declared.Refusal.TheVariants.{UnwritableName, NameTaken, OtherSide, OverLimit}
use Rattle.outcome.specs.Outcome.{Outcome, ◌>>=◌, ◌>>◌, require, each}
use Rattle.disk.specs.declared.Place.{Place}
use Rattle.catalog.specs.Catalog.{Entry, live, shown, entry_from, pages}
use Rattle.holders.specs.Holders.{sectors_of}
use Rattle.amend.specs.Lines.{savable, starts, tidy}
use Rattle.amend.specs.Save.{data_for, lists_for, is_new, stored, removed}
use Rattle.amend.specs.Amending.{Op, kept}
use Rattle.amend.specs.Amending
use Rattle.sides.specs.declared.Side.{Side}
use Rattle.sides.specs.declared.Side.TheVariants.{Survey, Ours}

-- ---- whose name it is
-- the side that is not s
abbrev pub other : Side → Side
other Survey = Ours
other Ours = Survey

-- the name begins with S, which is 53h; an empty one does not
abbrev pub begins_s : List ℕ → Bool
begins_s [] = false
begins_s (b ∷ bs) = eqb b 0x53

-- names beginning with S are the survey office's, all others ours
abbrev pub belongs : Side → List ℕ → Bool
belongs Survey name = begins_s name
belongs Ours name = not (begins_s name)

-- an entry in use whose shown name is the side's
abbrev pub of_side : Side → Entry → Bool
of_side s e = live e && belongs s (shown e.raw)

-- ---- what a side has on a disk
module _ (n : ℕ) (d : List ℕ) (s : Side) where
  -- where the lines in use by it start, in chain order: 1 to 6
  unfoldable pub own_lines : Outcome (List ℕ)
  own_lines = pages n d >>= λ ps. Ok (filter (λ x. of_side s (entry_from d x)) (starts n ps))

  -- the entries of these lines
  unfoldable pub own_entries : Outcome (List Entry)
  own_entries = own_lines >>= λ xs. Ok (map (entry_from d) xs)

  -- the sectors that it holds in the line at x, lists and data; none where the line is not its own
  unfoldable pub own_at : ℕ → Outcome (List Place)
  own_at x = cond (of_side s (entry_from d x)) (sectors_of n d (entry_from d x)) (Ok [])

  -- all sectors that it holds, line by line
  unfoldable pub own_sectors : Outcome (List Place)
  own_sectors = pages n d >>= λ ps. each own_at (starts n ps) >>= λ ts. Ok (flat_map (λ t. t) ts)

  -- how many they are
  unfoldable pub held_by : Outcome ℕ
  held_by = own_sectors >>= λ ps. Ok (length ps)

  -- 24 where these and the sectors of k more bytes, lists included, are over the limit
  unfoldable pub within : (limit k : ℕ) → Outcome (Unit {0})
  within limit k = held_by >>= λ m. require (leb (m + (lists_for (data_for k) + data_for k)) limit) OverLimit

  -- ---- the calls
  -- a save: 1 to 6, 20, 14, 23, 22, 24, then 21 as Req 09 has it; or the disk after
  unfoldable pub saved_for : (limit : ℕ) (name : List ℕ) (address : ℕ) (bytes : List ℕ) → Outcome (List ℕ)
  saved_for limit name address bytes =
      tidy n d >>= λ c.
      require (savable name) UnwritableName >>
      require (belongs s name) OtherSide >>
      require (is_new c name) NameTaken >>
      within limit (length bytes) >>
      stored n d name address bytes

  -- a delete: 1 to 6, 20, 14, 23, 18; or the disk after. Its limit is not looked at
  unfoldable pub deleted_for : (limit : ℕ) (name : List ℕ) → Outcome (List ℕ)
  deleted_for limit name =
      tidy n d >> require (savable name) UnwritableName >> require (belongs s name) OtherSide >> removed n d name

-- a call, as it is made: by whom, with which limit, and the save or delete
pub record Call : Type 0 where
  pub side : Side
  pub limit : ℕ
  pub op : Op

-- the answer to a save or delete by a side: a refusal, or the disk after
abbrev pub call_of : ℕ → List ℕ → Side → ℕ → Op → Outcome (List ℕ)
call_of n d s limit (Amending.Op.save name address bytes) = saved_for n d s limit name address bytes
call_of n d s limit (Amending.Op.delete name) = deleted_for n d s limit name

-- .. of a call
abbrev pub answer : ℕ → List ℕ → Call → Outcome (List ℕ)
answer n d c = call_of n d c.side c.limit c.op

-- one after the other; a refused one leaves the disk as it was
unfoldable pub run_for : ℕ → List ℕ → List Call → List ℕ
run_for n d [] = d
run_for n d (c ∷ cs) = run_for n (kept d (answer n d c)) cs
