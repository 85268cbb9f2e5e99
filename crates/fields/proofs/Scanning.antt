-- One step of the search for fields, and that the stream's length is fuel enough. Assumes nothing.
use mathlib.Core.Path.{◌≡◌, refl, sym}
use mathlib.Core.List.{List, [], ◌∷◌}
use Rattle.std.specs.Prelude.{Option, Some, None}
use Prim.Native.Nat.{ℕ, zero, suc, ◌+◌, ◌<◌, ◌≤◌}
use native.Mathlib.Omega.{arith}
use lib.ListN.{length, drop, length-drop}
use Rattle.std.specs.Prelude.{Ok}
use Rattle.outcome.specs.Outcome.{Outcome, ◌>>=◌}
use Rattle.fields.specs.declared.Edition.{Edition}
use Rattle.fields.specs.Editions.{mark_of, nibbles_of}
use Rattle.fields.specs.Search.{Free}
use Rattle.fields.specs.Fields.{after, Field, fields, from_data, from_address}
use Rattle.fields.proofs.Marks.{free_nil, after_none, after_shorter}

abbrev pub field : ℕ → ℕ → ℕ → List ℕ → Field
field v t p ns = record { volume = v; track = t; sector = p; nibbles = ns }

-- f in front of what the rest gives
abbrev pub behind : Field → Outcome (List Field) → Outcome (List Field)
behind f o = o >>= λ fs. Ok (f ∷ fs)

-- a stream without D5h has no field
pub fields_none : (ed : Edition) (fuel : ℕ) (g : List ℕ) → Free g → fields ed fuel g ≡ Ok []
unfolding fields from_address
fields_none ed zero g h = refl
fields_none ed (suc fuel) g h = rw (after_none (mark_of ed) g h) refl

-- ---- fuel
-- an empty stream
free_short : (s : List ℕ) → length s ≤ 0 → Free s
free_short [] h = free_nil
free_short (x ∷ s) h = absurd (omega arith)

-- if the rest of the stream is the same for m and n, so is the whole, behind the data mark ..
fuel_data : (ed : Edition) (m n : ℕ) (a : List ℕ) (o : Option (List ℕ)) → ((b : List ℕ) → o ≡ Some b → fields ed m (drop (nibbles_of ed + 3) b) ≡ fields ed n (drop (nibbles_of ed + 3) b))
    → from_data ed (fields ed m) a o ≡ from_data ed (fields ed n) a o
unfolding from_data
fuel_data ed m n a None same = refl
fuel_data ed m n a (Some b) same = rw (same b refl) refl

-- .. and behind the address mark
fuel_address : (ed : Edition) (m n : ℕ) (s : List ℕ) → ((r : List ℕ) → length r < length s → fields ed m r ≡ fields ed n r)
    → (o : Option (List ℕ)) → after (mark_of ed) s ≡ o → from_address ed (fields ed m) o ≡ from_address ed (fields ed n) o
unfolding from_address
fuel_address ed m n s same None e = refl
fuel_address ed m n s same (Some a) e =
    rw (fuel_data ed m n a (after 0xAD (drop 11 a)) (λ b q. same (drop (nibbles_of ed + 3) b)
    (omega (arith, length-drop (nibbles_of ed + 3) b, after_shorter 0xAD (drop 11 a) b q, length-drop 11 a, after_shorter (mark_of ed) s a e)))) refl

-- the length of the stream is fuel enough: more changes nothing
pub fields_fuel : (ed : Edition) (m n : ℕ) (s : List ℕ) → length s ≤ m → length s ≤ n → fields ed m s ≡ fields ed n s
unfolding fields
fields_fuel ed zero zero s h i = refl
fields_fuel ed zero (suc n) s h i = sym (fields_none ed (suc n) s (free_short s h))
fields_fuel ed (suc m) zero s h i = fields_none ed (suc m) s (free_short s i)
fields_fuel ed (suc m) (suc n) s h i = fuel_address ed m n s (λ r l. fields_fuel ed m n r (omega arith) (omega arith)) (after (mark_of ed) s) refl
