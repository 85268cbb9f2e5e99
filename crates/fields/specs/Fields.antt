-- The fields of a nibble stream: document 01, "Fields".
use Rattle.std.specs.Prelude.{cond, ◌&&◌, List, [], ◌∷◌, ℕ, zero, suc, ◌+◌, ◌*◌, length, get_or, take, drop, ltb, eqb}
use Rattle.std.specs.Prelude.{Option, Some, None}
use Rattle.std.specs.Int.Bits.{bit_xor}
use Rattle.std.specs.Prelude.{Ok}
use Rattle.outcome.specs.declared.Refusal.TheVariants.{AddressSum}
use Rattle.outcome.specs.Outcome.{Outcome, ◌>>=◌, ◌>>◌, require}
use Rattle.nibble.specs.Nibble.{of44}
use Rattle.fields.specs.declared.Edition.{Edition}
use Rattle.fields.specs.Editions.{mark_of, nibbles_of}

-- what stands after the first D5 AA c
unfoldable pub after : ℕ → List ℕ → Option (List ℕ)
after c [] = None
after c (x ∷ xs) =
    let r = after c xs in
    cond (eqb x 0xD5 && (eqb (get_or xs 0 0) 0xAA && eqb (get_or xs 1 0) c)) (Some (drop 2 xs)) r

-- a whole pair of fields: what the address says, and the nibbles of the data, the sum among them
pub record Field : Type 0 where
  pub volume : ℕ
  pub track : ℕ
  pub sector : ℕ
  pub nibbles : List ℕ

-- byte k of an address, in 4-and-4
abbrev pub byte4 : List ℕ → ℕ → ℕ
byte4 s k = of44 (get_or s (2 * k) 0) (get_or s (2 * k + 1) 0)

module _ (ed : Edition) where
  -- The fields from the pair with the address a on, where o is what stands after the data mark; `rest` gives the fields of what follows the pair.
  -- 3: the three unread bytes.
  unfoldable pub from_data : (List ℕ → Outcome (List Field)) → List ℕ → Option (List ℕ) → Outcome (List Field)
  from_data rest a None = Ok []
  from_data rest a (Some b) =
      cond (ltb (length b) (nibbles_of ed + 3)) (Ok [])
      (rest (drop (nibbles_of ed + 3) b) >>= λ fs.
      Ok (record { volume = byte4 a 0; track = byte4 a 1; sector = byte4 a 2; nibbles = take (nibbles_of ed) b } ∷ fs))

  -- The same, where o is what stands after the address mark: 8 where the sum is wrong. 11: the eight bytes and the three unread.
  unfoldable pub from_address : (List ℕ → Outcome (List Field)) → Option (List ℕ) → Outcome (List Field)
  from_address rest None = Ok []
  from_address rest (Some a) =
      cond (ltb (length a) 11) (Ok [])
      (require (eqb (byte4 a 3) (bit_xor (bit_xor (byte4 a 0) (byte4 a 1)) (byte4 a 2))) AddressSum >>
      from_data rest a (after 0xAD (drop 11 a)))

  -- all whole pairs of s, in order; the stream's length is fuel enough (proofs/Scanning.antt, fields_fuel)
  unfoldable pub fields : ℕ → List ℕ → Outcome (List Field)
  fields zero s = Ok []
  fields (suc fuel) s = from_address (fields fuel) (after (mark_of ed) s)
