-- What the steps of a sector by its key and of denibblize promise each other. Document 01 has no part of it but the rules that they carry.
use Rattle.std.specs.Prelude.{◌≡◌, Bool, true, false, cond, not, ◌&&◌, ◌||◌, List, ℕ, ◌+◌, ◌-◌, ◌*◌, ◌<◌, ◌≤◌, ltb, eqb, length, get_or, take, drop}
use Rattle.lists.specs.Fill.{put}
use Rattle.lists.specs.Select.{any}
use Rattle.std.specs.Prelude.{Ok, Err}
use Rattle.outcome.specs.declared.Refusal.TheVariants.{DataSum, Absent}
use Rattle.outcome.specs.Outcome.{Outcome, ◌>>=◌, ◌>>◌}
use Rattle.fields.specs.declared.Edition.{Edition}
use Rattle.fields.specs.declared.FieldPair.{FieldPair}
use Rattle.fields.specs.Editions.{nibbles_of, per_track, dos_sector, data_of}
use Rattle.fields.specs.Fields.{Field}
use Rattle.fields.specs.Scan.{fields_from, field_of, Run}
use Rattle.stream.specs.Stream.{same_key, sum_ok, image}

-- ---- small steps
-- the place of the first nibbles that are wanted: `at`, or those of p if p is wanted
abbrev pub first_place : ℕ → Bool → ℕ → ℕ
first_place at wanted nibbles = cond (eqb at 0) (cond wanted nibbles 0) at

-- p has the key
abbrev pub keyed : ℕ → ℕ → ℕ → FieldPair → Bool
keyed v t s p = eqb p.volume v && (eqb p.track t && eqb p.sector s)

-- where the sector of a key stands: 9 where a sum is wrong, 10 for no place
abbrev pub verdict : Bool → ℕ → Outcome ℕ
verdict good at = cond good (cond (eqb at 0) (Err Absent) (Ok at)) (Err DataSum)

module _ (ed : Edition) where
  -- ---- a sector by its key
  -- r says whether a pair before place e has the key of p
  pub record Repeats (s : List ℕ) (e : ℕ) (p : FieldPair) (r : Bool) : Type 0 where
    pub is : (xs : List Field) → Run ed s 0 e xs → r ≡ any (same_key (field_of ed s p)) xs

  -- r says whether the sums of the fields that count are right up to the pair p at place e, where `good` says so of those before it
  pub record Judges (s : List ℕ) (e : ℕ) (p : FieldPair) (good r : Bool) : Type 0 where
    pub is : (xs : List Field) → Run ed s 0 e xs → r ≡ (good && (any (same_key (field_of ed s p)) xs || sum_ok ed (field_of ed s p).nibbles))

  -- the bytes of the nibbles at a place; 10 for no place
  unfoldable pub sector_at : List ℕ → ℕ → Outcome (List ℕ)
  sector_at s at = cond (eqb at 0) (Err Absent) (Ok (data_of ed (take (nibbles_of ed) (drop at s))))

  -- r says where in s the bytes that o gives stand as nibbles, or why there are none
  pub record Locates (s : List ℕ) (o : Outcome (List ℕ)) (r : Outcome ℕ) : Type 0 where
    pub is : o ≡ (r >>= λ a. Ok (data_of ed (take (nibbles_of ed) (drop a s))))
    pub within : (a : ℕ) → r ≡ Ok a → a + (nibbles_of ed + 3) ≤ length s

  -- ---- denibblize
  -- p is not of volume v, or not on the disk
  abbrev pub strange : ℕ → FieldPair → Bool
  strange v p = not (eqb p.volume v) || (ltb 34 p.track || ltb (per_track ed - 1) p.sector)

  -- the number of the DOS sector that p holds
  abbrev pub number_of : FieldPair → ℕ
  number_of p = per_track ed * p.track + dos_sector ed p.sector

  -- the sum of p is right, or an earlier pair of its sector stands at `old`
  abbrev pub sum_counts : List ℕ → FieldPair → ℕ → Bool → Bool
  sum_counts s p old good = good && (not (eqb old 0) || sum_ok ed (take (nibbles_of ed) (drop p.nibbles s)))

  -- d with the bytes of p put in from place `at`; as it is where an earlier pair of its sector stands at `old`
  unfoldable pub held_in : List ℕ → FieldPair → (old at : ℕ) → List ℕ → List ℕ
  held_in s p old at d = cond (eqb old 0) (put at (data_of ed (take (nibbles_of ed) (drop p.nibbles s))) d) d

  -- r says whether each sector has a place
  pub data Complete (at : List ℕ) (r : Bool) : Type 0 where
    yes : r ≡ true → ((k : ℕ) → k < 35 * per_track ed → get_or at k 0 ≡ 0 → ⊥) → Complete at r
    no : r ≡ false → (k : ℕ) → k < 35 * per_track ed → get_or at k 0 ≡ 0 → Complete at r

  -- what is refused at the end of the scan
  pub data Decides (good : Bool) (at : List ℕ) (r : Outcome (Unit {0})) : Type 0 where
    sum : good ≡ false → r ≡ Err DataSum → Decides good at r
    absent : good ≡ true → r ≡ Err Absent → (k : ℕ) → k < 35 * per_track ed → get_or at k 0 ≡ 0 → Decides good at r
    all : good ≡ true → r ≡ Ok tt → ((k : ℕ) → k < 35 * per_track ed → get_or at k 0 ≡ 0 → ⊥) → Decides good at r

  -- whether the scan from place i on meets a wrong address sum
  abbrev pub address_sums : List ℕ → ℕ → Outcome (Unit {0})
  address_sums s i = fields_from ed s i >> Ok tt

  -- r is the refusal of the image of s; where there is none, the image is the front of d
  pub record Collects (s d : List ℕ) (r : Outcome (Unit {0})) : Type 0 where
    pub is : image ed s ≡ (r >> Ok (take (256 * (35 * per_track ed)) d))
