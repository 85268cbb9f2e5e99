-- The scan of a stream as code makes it, from place to place: document 01, "Fields".
use Rattle.std.specs.Prelude.{◌≡◌, Bool, cond, ◌&&◌, List, [], ◌∷◌, ℕ, ◌+◌, ◌-◌, ltb, eqb, length, get_or, take, drop}
use Rattle.std.specs.Prelude.{Option, Some, None, Ok}
use Rattle.std.specs.Int.Bits.{bit_xor}
use Rattle.outcome.specs.declared.Refusal.TheVariants.{AddressSum}
use Rattle.outcome.specs.Outcome.{Outcome, ◌>>=◌, ◌>>◌, require}
use Rattle.fields.specs.Editions.{mark_of, nibbles_of}
use Rattle.fields.specs.Fields.{after, byte4, Field, fields}
use Rattle.fields.specs.declared.Edition.{Edition}
use Rattle.fields.specs.declared.AddressField.{AddressField}
use Rattle.fields.specs.declared.DataField.{DataField}
use Rattle.fields.specs.declared.FieldPair.{FieldPair}

-- ---- marks
-- the mark D5 AA c stands at place k
unfoldable pub mark_at : ℕ → List ℕ → ℕ → Bool
mark_at c s k = eqb (get_or s k 0) 0xD5 && (eqb (get_or s (k + 1) 0) 0xAA && eqb (get_or s (k + 2) 0) c)

-- the last byte of the prologue at place k; 0 where there is none
unfoldable pub prologue_at : List ℕ → ℕ → ℕ
prologue_at s k = cond (mark_at 0x96 s k) 0x96 (cond (mark_at 0xB5 s k) 0xB5 0)

-- the place in s of what stands at its end
abbrev pub place_of : List ℕ → Option (List ℕ) → Option ℕ
place_of s None = None
place_of s (Some r) = Some (length s - length r)

-- the place after the first D5 AA c from place i on
unfoldable pub place_after : ℕ → List ℕ → ℕ → Option ℕ
place_after c s i = place_of s (after c (drop i s))

-- ---- an address field
-- byte k of what stands from place j on, in 4-and-4
unfoldable pub byte_at4 : List ℕ → ℕ → ℕ → ℕ
byte_at4 s j k = byte4 (drop j s) k

-- the address after a mark, where a is what stands there: none where it is not whole, 8 where its sum is wrong; 11: the eight bytes and the three unread
unfoldable pub address_in : List ℕ → ℕ → Outcome (Option AddressField)
address_in a place =
    cond (ltb (length a) 11) (Ok None)
    (require (eqb (byte4 a 3) (bit_xor (bit_xor (byte4 a 0) (byte4 a 1)) (byte4 a 2))) AddressSum >>
    Ok (Some (record { volume = byte4 a 0; track = byte4 a 1; sector = byte4 a 2; next = place + 11 })))

-- the same, where o is the place after the mark
abbrev pub address_at : List ℕ → Option ℕ → Outcome (Option AddressField)
address_at s None = Ok None
address_at s (Some j) = address_in (drop j s) j

-- the first address from place i on
unfoldable pub address_from : Edition → List ℕ → ℕ → Outcome (Option AddressField)
address_from ed s i = address_at s (place_after (mark_of ed) s i)

-- ---- a data field
-- the data field after a mark, where o is the place after it: none where it is not whole; 3: the three unread bytes
abbrev pub data_at : Edition → List ℕ → Option ℕ → Option DataField
data_at ed s None = None
data_at ed s (Some j) = cond (ltb (length (drop j s)) (nibbles_of ed + 3)) None (Some (record { nibbles = j; next = j + (nibbles_of ed + 3) }))

-- the first data field from place i on
unfoldable pub data_from : Edition → List ℕ → ℕ → Option DataField
data_from ed s i = data_at ed s (place_after 0xAD s i)

-- ---- a pair of them
-- an address and its data
abbrev pub pair_of : AddressField → Option DataField → Option FieldPair
pair_of a None = None
pair_of a (Some d) = Some (record { volume = a.volume; track = a.track; sector = a.sector; nibbles = d.nibbles; next = d.next })

-- the same, where the address may be missing
abbrev pub pair_with : Edition → List ℕ → Option AddressField → Option FieldPair
pair_with ed s None = None
pair_with ed s (Some a) = pair_of a (data_from ed s a.next)

-- the first pair from place i on
unfoldable pub pair_from : Edition → List ℕ → ℕ → Outcome (Option FieldPair)
pair_from ed s i = address_from ed s i >>= λ a. Ok (pair_with ed s a)

-- ---- the pairs of a stream
module _ (ed : Edition) where
  -- the fields from place i on
  unfoldable pub fields_from : List ℕ → ℕ → Outcome (List Field)
  fields_from s i = fields ed (length s) (drop i s)

  -- the field of a pair
  abbrev pub field_of : List ℕ → FieldPair → Field
  field_of s p = record { volume = p.volume; track = p.track; sector = p.sector; nibbles = take (nibbles_of ed) (drop p.nibbles s) }

  -- from place i on stand the pairs xs, and behind them is place e
  abbrev pub Run : List ℕ → ℕ → ℕ → List Field → Type 0
  Run s i e [] = i ≡ e
  Run s i e (x ∷ xs) = (p : FieldPair) × (Ok (Some p) ≡ pair_from ed s i) × (field_of s p ≡ x) × Run s p.next e xs
