-- The field of a sector that is written behind a gap. Assumes nothing.
use mathlib.Core.Path.{◌≡◌, refl, ap, ◌∙◌}
use mathlib.Core.List.{List, [], ◌∷◌, ◌++◌, append_assoc}
use Prim.Native.Nat.{ℕ, suc, ◌+◌, ◌/◌, ◌<◌, ◌≤◌}
use native.Mathlib.Omega.{arith}
use borrow.Author.Tests.{eq-eqb, le-ltb}
use lib.Bits.{bit_xor, bit_or, xor_lt}
use lib.ListN.{length, take, drop, replicate, length-append}
use lib.Seq.{take_at, drop_at}
use Rattle.nibble.specs.Nibble.{of44, encode}
use Rattle.nibble.proofs.Callers.{length_encode}
use Rattle.nibble.proofs.Four.{four_back}
use Rattle.fields.specs.declared.Edition.TheVariants.{Sixteen}
use Rattle.fields.specs.Editions.{mark_of, nibbles_of}
use Rattle.fields.specs.Search.{Free}
use Rattle.fields.specs.Fields.{Field, fields, from_data, from_address}
use Rattle.fields.proofs.Marks.{after_found}
use Rattle.fields.proofs.Scanning.{field, behind}
use Rattle.nibblize.specs.Nibblize.{address_writing, data_writing, sector_spaced, sector_writing}
use Rattle.nibblize.proofs.Gaps.{free_replicate}

-- an address and its data: any two gaps free of D5h, any 4-and-4 bytes whose sum is right
pair : (fuel v t p a₀ a₁ a₂ a₃ a₄ a₅ a₆ a₇ x y z : ℕ) (g h b : List ℕ) → Free g → Free h
    → of44 a₀ a₁ ≡ v → of44 a₂ a₃ ≡ t → of44 a₄ a₅ ≡ p → of44 a₆ a₇ ≡ bit_xor (bit_xor v t) p → 346 ≤ length b
    → fields Sixteen (suc fuel) (g ++ (0xD5 ∷ 0xAA ∷ 0x96 ∷ a₀ ∷ a₁ ∷ a₂ ∷ a₃ ∷ a₄ ∷ a₅ ∷ a₆ ∷ a₇ ∷ x ∷ y ∷ z ∷ (h ++ (0xD5 ∷ 0xAA ∷ 0xAD ∷ b))))
    ≡ behind (field v t p (take 343 b)) (fields Sixteen fuel (drop 346 b))
unfolding fields from_address from_data mark_of nibbles_of
pair fuel v t p a₀ a₁ a₂ a₃ a₄ a₅ a₆ a₇ x y z g h b i j e₀ e₁ e₂ e₃ l =
    let a : List ℕ = a₀ ∷ a₁ ∷ a₂ ∷ a₃ ∷ a₄ ∷ a₅ ∷ a₆ ∷ a₇ ∷ x ∷ y ∷ z ∷ (h ++ (0xD5 ∷ 0xAA ∷ 0xAD ∷ b)) in
    let f : Field = field (of44 a₀ a₁) (of44 a₂ a₃) (of44 a₄ a₅) (take 343 b) in
    let q : f ≡ field v t p (take 343 b) = λ i. field (e₀ i) (e₁ i) (e₂ i) (take 343 b) in
    rw (after_found 0x96 g a i, le-ltb (length a) 11 (omega arith), e₀, e₁, e₂, e₃, eq-eqb _ _ refl, after_found 0xAD h b j, le-ltb _ _ l)
    (ap (λ (f : Field). behind f (fields Sixteen fuel (drop 346 b))) q)

-- a sector with a gap of 5 has 368 bytes
pub length_sector : (h : List ℕ) (v t p : ℕ) (d : List ℕ) → length (sector_spaced h v t p d) ≡ 363 + length h
unfolding sector_spaced address_writing data_writing
length_sector h v t p d =
    rw (length-append h (0xD5 ∷ 0xAA ∷ 0xAD ∷ encode d ++ (0xDE ∷ 0xAA ∷ 0xEB ∷ [])), length-append (encode d) (0xDE ∷ 0xAA ∷ 0xEB ∷ []), length_encode d)
    (omega arith)

-- a sector behind a gap: its field, and then the fields of what follows
pub fields_spaced : (fuel v t p : ℕ) (g h d rest : List ℕ) → Free g → Free h → v < 256 → t < 256 → p < 256
    → fields Sixteen (suc fuel) (g ++ (sector_spaced h v t p d ++ rest)) ≡ behind (field v t p (encode d)) (fields Sixteen fuel rest)
unfolding sector_spaced address_writing data_writing
fields_spaced fuel v t p g h d rest i j hv ht hp =
    let n : List ℕ = encode d in
    let end : List ℕ = 0xDE ∷ 0xAA ∷ 0xEB ∷ [] in
    let b : List ℕ = (n ++ end) ++ rest in
    let l : length (n ++ end) ≡ 346 = length-append n end ∙ rw (length_encode d) refl in
    let m : 346 ≤ length b = omega (arith, length-append (n ++ end) rest) in
    let take_b : take 343 b ≡ n = ap (take 343) (append_assoc n end rest) ∙ take_at n (end ++ rest) 343 (length_encode d) in
    let drop_b : drop 346 b ≡ rest = drop_at (n ++ end) rest 346 l in
    let x : ℕ = bit_xor (bit_xor v t) p in
    let hx : x < 256 = xor_lt 8 (bit_xor v t) p (xor_lt 8 v t hv ht) hp in
    rw (append_assoc h (0xD5 ∷ 0xAA ∷ 0xAD ∷ n ++ end) rest)
    (pair fuel v t p (bit_or (v / 2) 0xAA) (bit_or v 0xAA) (bit_or (t / 2) 0xAA) (bit_or t 0xAA) (bit_or (p / 2) 0xAA) (bit_or p 0xAA) (bit_or (x / 2) 0xAA) (bit_or x 0xAA)
    0xDE 0xAA 0xEB g h b i j (four_back v hv) (four_back t ht) (four_back p hp) (four_back x hx) m
    ∙ λ i. behind (field v t p (take_b i)) (fields Sixteen fuel (drop_b i)))

-- the same of the writer's own
pub fields_writing : (fuel v t p : ℕ) (g d rest : List ℕ) → Free g → v < 256 → t < 256 → p < 256
    → fields Sixteen (suc fuel) (g ++ (sector_writing v t p d ++ rest)) ≡ behind (field v t p (encode d)) (fields Sixteen fuel rest)
unfolding sector_writing
fields_writing fuel v t p g d rest i = fields_spaced fuel v t p g (replicate 5 0xFF) d rest i (free_replicate 5 0xFF (omega arith))
