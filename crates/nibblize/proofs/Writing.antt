-- `put_address`, `put_sector`, `put_block`, `put_blocks` and `nibblize` over plain variables. Assumes nothing.
use mathlib.Core.Path.{◌≡◌, refl, ap, ◌∙◌}
use mathlib.Core.List.{List, [], ◌∷◌, ◌++◌, append_assoc}
use Prim.Native.Nat.{ℕ, ◌+◌, ◌-◌, ◌*◌, ◌/◌, ◌%◌, ◌≤◌, ◌<◌}
use native.Mathlib.Nat.{le_refl}
use native.Mathlib.Omega.{arith}
use borrow.Author.Rules.{rules}
use borrow.Author.Tests.{ne_eqb}
use borrow.Rule.Slice.PartMut.{put_mid, mid_of}
use lib.Bits.{bit_xor}
use lib.ListN.{length, get_or, take, drop, replicate, length-drop}
use lib.Seq.{length-take-le}
use Rattle.lists.specs.Fill.{put, placed, cats}
use Rattle.lists.proofs.Put.{Put, put_is_front, put_more, put_part, put_is, put_front, placed_put}
use Rattle.lists.proofs.Blocks.{Blocks, blocks_none, blocks_step, blocks_done, length_cats}
use Rattle.outcome.specs.declared.Refusal.TheVariants.{OffSize, TrayShort}
use Rattle.std.specs.Prelude.{Ok, Err}
use Rattle.outcome.specs.Outcome.{Outcome, Hands}
use Rattle.outcome.proofs.Outcome.{hands_refused, hands_short, hands_over_lem, hands_left}
use Rattle.disk.specs.Disk.{byte_of, bytes_of, sized}
use Rattle.disk.specs.Vtoc.{vtoc}
use Rattle.nibble.specs.Nibble.{four, encode, encoded}
use Rattle.nibble.proofs.Callers.{length_encode, encoded_given}
use Rattle.fields.specs.Editions.{interleave}
use Rattle.fields.proofs.Numbers.{interleave_lt}
use Rattle.nibblize.specs.Nibblize.{address_writing, data_writing, sector_spaced, sector_writing, held, block, nibblized}
use Rattle.nibblize.proofs.Written.{length_block, nibblized_is}

-- ---- put_address
pub address_is : (v t p at : ℕ) (a b c d o₀ o : List ℕ) → a ≡ four v → b ≡ four t → c ≡ four p → d ≡ four (bit_xor (bit_xor v t) p)
    → o ≡ placed at (0xD5 ∷ 0xAA ∷ 0x96 ∷ get_or a 0 0 ∷ get_or a 1 0 ∷ get_or b 0 0 ∷ get_or b 1 0 ∷ get_or c 0 0 ∷ get_or c 1 0 ∷ get_or d 0 0 ∷ get_or d 1 0 ∷ 0xDE ∷ 0xAA ∷ 0xEB ∷ []) o₀
    → o ≡ placed at (address_writing v t p) o₀
unfolding address_writing
address_is v t p at a b c d o₀ o ea eb ec ed e = e ∙ rw (ea, eb, ec, ed) refl

pub ruleset addresses = (address_is, rules)

-- ---- put_sector
six : (a b c d e f : List ℕ) → ((((a ++ b) ++ c) ++ d) ++ e) ++ f ≡ a ++ (b ++ (c ++ (d ++ (e ++ f))))
six a b c d e f = simp append_assoc

-- the list that the six calls put in
whole : (v t p : ℕ) (s : List ℕ)
    → ((((replicate 48 255 ++ address_writing v t p) ++ replicate 5 255) ++ (0xD5 ∷ 0xAA ∷ 0xAD ∷ [])) ++ encode s) ++ (0xDE ∷ 0xAA ∷ 0xEB ∷ [])
    ≡ replicate 48 255 ++ sector_writing v t p s
unfolding sector_writing sector_spaced data_writing
whole v t p s = six (replicate 48 255) (address_writing v t p) (replicate 5 255) (0xD5 ∷ 0xAA ∷ 0xAD ∷ []) (encode s) (0xDE ∷ 0xAA ∷ 0xEB ∷ [])

pub sector_put : (s : List ℕ) (at v t p : ℕ) (o₀ : List ℕ) {r : Outcome ℕ} {o₁ o₂ o₃ o₄ q o₆ : List ℕ}
    → length s ≡ 256 → at + 416 ≤ length o₀
    → o₁ ≡ placed at (replicate 48 255) o₀
    → o₂ ≡ placed (at + 48) (address_writing v t p) o₁
    → o₃ ≡ placed (at + 62) (replicate 5 255) o₂
    → o₄ ≡ placed (at + 67) (0xD5 ∷ 0xAA ∷ 0xAD ∷ []) o₃
    → Hands (encoded s) (mid_of (at + 70) (length o₄ - (at + 70)) o₄) q r
    → o₆ ≡ placed (at + 413) (0xDE ∷ 0xAA ∷ 0xEB ∷ []) (put_mid (at + 70) (length o₄ - (at + 70)) o₄ q)
    → o₆ ≡ put at (replicate 48 255 ++ sector_writing v t p s) o₀
unfolding address_writing
sector_put s at v t p o₀ {r} {o₁} {o₂} {o₃} {o₄} {q} {o₆} hs room e₁ e₂ e₃ e₄ h e₆ =
    let p₁ = placed_put e₁ (omega arith) in
    let p₂ = put_more p₁ (placed_put e₂ (omega (arith, p₁.long))) refl (omega arith) in
    let p₃ = put_more p₂ (placed_put e₃ (omega (arith, p₂.long))) (omega arith) (omega arith) in
    let p₄ = put_more p₃ (placed_put e₄ (omega (arith, p₃.long))) (omega arith) (omega arith) in
    let a : ℕ = at + 70 in
    let k : ℕ = length o₄ - a in
    let lm : length (mid_of a k o₄) ≡ k = length-take-le k (drop a o₄) (rw length-drop (le_refl k)) in
    let le : length (encode s) ≡ 343 = length_encode s in
    let fit : 343 ≤ length (mid_of a k o₄) = omega (arith, p₄.long) in
    let w : q ≡ encode s ++ drop (length (encode s)) (mid_of a k o₄) = hands_left (encode s) h (encoded_given s hs) (omega arith) in
    let g : Put 0 (encode s) (mid_of a k o₄) q = put_is_front 343 (rw le at w) le fit in
    let p₅ = put_more {i = a} p₄ (put_part a k g (omega arith) (omega arith) (omega arith)) (omega arith) (omega arith) in
    let p₆ = put_more p₅ (placed_put e₆ (omega (arith, p₅.long))) (omega arith) (omega arith) in
    p₆.is ∙ ap (λ (x : List ℕ). put at x o₀) (whole v t p s)

pub ruleset sectors = (sector_put, rules)

-- ---- put_block
pub block_put : (d o₀ o : List ℕ) (v k p : ℕ) → k < 560 → p ≡ interleave (k % 16)
    → o ≡ put (416 * k) (replicate 48 255 ++ sector_writing v (k / 16) (k % 16) (take (256 * (16 * (k / 16) + p) + 256 - 256 * (16 * (k / 16) + p)) (drop (256 * (16 * (k / 16) + p)) d))) o₀
    → o ≡ put (416 * k) (block v d k) o₀
unfolding block held bytes_of
block_put d o₀ o v k p h e q =
    let l : 256 * (16 * (k / 16) + p) + 256 - 256 * (16 * (k / 16) + p) ≡ 256 = omega arith in
    q ∙ rw (l, e) refl

-- a DOS sector is on its track
pub dos_lt : (k p : ℕ) → p ≡ interleave (k % 16) → p < 16
dos_lt k p e = rw e (interleave_lt (k % 16) (omega arith))

-- the sector is on the disk
pub sector_fits : (d : List ℕ) (k p : ℕ) → length d ≡ 143360 → k < 560 → p ≡ interleave (k % 16) → 256 * (16 * (k / 16) + p) + 256 ≤ length d
sector_fits d k p l h e = omega (arith, dos_lt k p e)

pub ruleset blocks = (block_put, dos_lt, sector_fits, rules)

-- ---- put_blocks: k blocks are put in
pub record Writing (v : ℕ) (d o₀ o : List ℕ) (k : ℕ) : Type 0 where
  pub count : k ≤ 560
  pub long : length o ≡ length o₀
  pub blocks : Blocks (block v d) 0 k o₀ o

pub writing_start : (v : ℕ) (d o : List ℕ) → Writing v d o o 0
writing_start v d o = record { count = omega arith; long = refl; blocks = blocks_none (block v d) 0 o }

pub writing_turn : (v : ℕ) (d o₀ o p : List ℕ) (k : ℕ) → Writing v d o₀ o k → k < 560 → 232960 ≤ length o₀ → p ≡ put (416 * k) (block v d k) o
    → Writing v d o₀ p (k + 1)
writing_turn v d o₀ o p k w h room e =
    let b : Blocks (block v d) 0 (k + 1) o₀ p = blocks_step 416 (416 * k) (length_block v d) w.blocks e (omega arith) (omega arith) in
    record { count = omega arith; long = b.puts.long; blocks = b }

pub writing_room : (v : ℕ) (d o₀ o : List ℕ) (k : ℕ) → Writing v d o₀ o k → 232960 ≤ length o₀ → 232960 ≤ length o
writing_room v d o₀ o k w h = omega (arith, w.long)

pub writing_done : (v : ℕ) (d o₀ o : List ℕ) (k : ℕ) → Writing v d o₀ o k → 560 ≤ k → o ≡ put 0 (cats (block v d) 560) o₀
writing_done v d o₀ o k w h = blocks_done 560 w.blocks w.count h

pub ruleset writes = (writing_start, writing_turn, writing_room, writing_done, rules)

-- ---- the returns of nibblize
pub wrong : (d o : List ℕ) (h : Outcome ℕ) → (length d ≡ 143360 → ⊥) → h ≡ Err OffSize → Hands (nibblized d) o o h
unfolding nibblized sized
wrong d o h n e = hands_refused (nibblized d) o OffSize (rw (ne_eqb _ _ n) refl) h e

-- what is given, and its length
given_length : (v : ℕ) (d : List ℕ) → length (cats (block v d) 560) ≡ 232960
given_length v d = length_cats (block v d) 416 (length_block v d) 560

pub short : (d o : List ℕ) (h : Outcome ℕ) → length d ≡ 143360 → length o < 232960 → h ≡ Err TrayShort → Hands (nibblized d) o o h
short d o h n l e =
    let v : ℕ = byte_of 16 d vtoc 6 in
    hands_short (nibblized d) o (cats (block v d) 560) (nibblized_is d n) (rw (given_length v d) l) h e

pub done : (d o₀ o : List ℕ) (v : ℕ) (h : Outcome ℕ) → length d ≡ 143360 → 232960 ≤ length o₀ → v ≡ byte_of 16 d vtoc 6
    → o ≡ put 0 (cats (block v d) 560) o₀ → h ≡ Ok 232960 → Hands (nibblized d) o₀ o h
done d o₀ o v h n room ev e q =
    let l : length (cats (block v d) 560) ≡ 232960 = given_length v d in
    let f : o ≡ cats (block v d) 560 ++ drop (length (cats (block v d) 560)) o₀ = put_front (put_is e (omega arith)) in
    hands_over_lem (nibblized d) o₀ o (cats (block v d) 560) (nibblized_is d n ∙ rw ev refl) (rw l room) f h (rw l q)

pub ruleset nibblizes = (wrong, short, done, rules)
