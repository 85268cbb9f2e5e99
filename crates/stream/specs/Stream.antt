-- What a nibble stream holds: the flat disk (01: unroll), and a sector by its key. Document 01, "Unroll" under Modules, and the nibble order under
-- "Numbers on the slip".
use Rattle.std.specs.Prelude.{Bool, cond, not, ◌&&◌, ◌||◌, ℕ, ◌-◌, ◌*◌, ◌/◌, ◌%◌, length, ltb, eqb}
use mathlib.Core.List.{List, [], ◌∷◌, flatten}
use Rattle.lists.specs.Fill.{below}
use Rattle.lists.specs.Select.{all, any}
use Rattle.std.specs.Prelude.{Ok, Err}
use Rattle.outcome.specs.declared.Refusal.TheVariants.{DataSum, Absent, Stranger}
use Rattle.outcome.specs.Outcome.{Outcome, ◌>>=◌, ◌>>◌, require, each, Hands}
use Rattle.fields.specs.declared.Edition.{Edition}
use Rattle.fields.specs.Editions.{per_track, dos_sector, sum_of, data_of}
use Rattle.fields.specs.Fields.{Field, fields}

-- two fields of one volume, track and sector
abbrev pub same_key : Field → Field → Bool
same_key f g = eqb f.volume g.volume && (eqb f.track g.track && eqb f.sector g.sector)

-- the first field of each key counts; those in `seen` came before
unfoldable pub firsts : List Field → List Field → List Field
firsts seen [] = []
firsts seen (f ∷ fs) = let r = firsts (f ∷ seen) fs in cond (any (same_key f) seen) r (f ∷ r)

-- ---- denibblize (01: unroll)
-- the volume of the first field
abbrev pub first_volume : List Field → ℕ
first_volume [] = 0
first_volume (f ∷ fs) = f.volume

module _ (ed : Edition) where
  -- the XOR with the sum nibble is zero
  abbrev pub sum_ok : List ℕ → Bool
  sum_ok ns = eqb (sum_of ed ns) 0

  -- the data sums of these fields are right
  abbrev pub sums_ok : List Field → Bool
  sums_ok = all (λ (f : Field). sum_ok f.nibbles)

  -- a field that is not of volume v, or not on the disk
  abbrev pub is_stranger : ℕ → Field → Bool
  is_stranger v f = not (eqb f.volume v) || (ltb 34 f.track || ltb (per_track ed - 1) f.sector)

  -- the bytes of DOS sector s of track t: of the first field that holds it, else 10
  unfoldable pub bytes_at : ℕ → ℕ → List Field → Outcome (List ℕ)
  bytes_at t s [] = Err Absent
  bytes_at t s (f ∷ fs) =
      let r = bytes_at t s fs in cond (eqb f.track t && eqb (dos_sector ed f.sector) s) (Ok (data_of ed f.nibbles)) r

  -- the flat disk that a stream holds: 8, 11, 9, 10
  unfoldable pub image : List ℕ → Outcome (List ℕ)
  image s =
      fields ed (length s) s >>= λ fs.
      require (not (any (is_stranger (first_volume fs)) fs)) Stranger >>
      require (sums_ok (firsts [] fs)) DataSum >>
      each (λ k. bytes_at (k / per_track ed) (k % per_track ed) fs) (below (35 * per_track ed)) >>= λ ss. Ok (flatten ss)

  -- ---- a sector by its key
  -- the bytes of the first field with that key, else 10
  unfoldable pub of_key : ℕ → ℕ → ℕ → List Field → Outcome (List ℕ)
  of_key v t s [] = Err Absent
  of_key v t s (f ∷ fs) =
      let r = of_key v t s fs in
      cond (eqb f.volume v && (eqb f.track t && eqb f.sector s)) (Ok (data_of ed f.nibbles)) r

  -- the bytes of the address field's volume, track and sector: 8, 9 for any field that counts, 10
  unfoldable pub sector_of : ℕ → ℕ → ℕ → List ℕ → Outcome (List ℕ)
  sector_of v t s stream = fields ed (length stream) stream >>= λ fs. require (sums_ok (firsts [] fs)) DataSum >> of_key v t s fs

-- the promise of denibblize: of the stream s, with space from `before` to `after`, answered r
abbrev pub Denibblized : Edition → List ℕ → (before after : List ℕ) → Outcome ℕ → Type 0
Denibblized ed s before after r = Hands (image ed s) before after r
