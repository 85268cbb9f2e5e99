-- What the nibble writer writes is made of the disk's sector writings, so it unrolls to that disk. Assumes nothing.
use mathlib.Core.Path.{◌≡◌, refl, sym, ap, ◌∙◌}
use mathlib.Core.List.{List, [], ◌∷◌, ◌++◌}
use Prim.Native.Nat.{ℕ, zero, suc, ◌/◌, ◌%◌, ◌<◌, ◌≤◌}
use native.Mathlib.Omega.{arith}
use borrow.Author.Tests.{eq-eqb, eqb-true}
use lib.Dec.{eqb}
use lib.ListN.{length, take, drop, replicate, length-append}
use lib.Seq.{take_at}
use Rattle.lists.specs.Every.{Every}
use Rattle.lists.specs.Fill.{tab, cats, Bytes}
use Rattle.lists.proofs.Among.{among_tab}
use Rattle.lists.proofs.Blocks.{length_cats, cats_front}
use Rattle.lists.proofs.Chunks.{every_tab}
use Rattle.disk.specs.Vtoc.{vtoc}
use Rattle.disk.specs.Disk.{byte_of, sized}
use Rattle.std.specs.Prelude.{Ok}
use Rattle.outcome.specs.declared.Refusal.TheVariants.{OffSize}
use Rattle.outcome.specs.Outcome.{Outcome, answer_of, Hands}
use Rattle.outcome.proofs.Outcome.{met, handed_fits, hands_given, hands_left}
use Rattle.fields.specs.declared.Edition.TheVariants.{Sixteen}
use Rattle.fields.proofs.Marks.{free_nil}
use Rattle.stream.specs.Stream.{image, Denibblized}
use Rattle.nibblize.specs.Nibblize.{sector_spaced, sector_writing, held, block, nibblized}
use Rattle.nibblize.specs.Layouts.{Piece, writing_of, laid, order_of, FreeGaps, Covers, MadeOf}
use Rattle.nibblize.specs.Claims.{Flat}
use Rattle.nibblize.proofs.Gaps.{free_replicate}
use Rattle.nibblize.proofs.Sectors.{length_sector}
use Rattle.nibblize.proofs.Unrolls.{unrolls_made}

-- the writer's pieces: the sectors h 0, h 1, .., h (n - 1), behind 48 of FFh each
row : (ℕ → ℕ) → ℕ → List Piece
row h zero = []
row h (suc n) = record { before = replicate 48 0xFF; number = h 0; between = replicate 5 0xFF } ∷ row (λ k. h (suc k)) n

-- its gaps are free of D5h
row_free : (h : ℕ → ℕ) (n : ℕ) → Every FreeGaps (row h n)
unfolding row
row_free h zero = Every.none
row_free h (suc n) = Every.more (free_replicate 48 0xFF (omega arith), free_replicate 5 0xFF (omega arith)) (row_free (λ k. h (suc k)) n)

-- its sectors are these
row_numbers : (h : ℕ → ℕ) (n : ℕ) → order_of (row h n) ≡ tab h n
unfolding row tab
row_numbers h zero = refl
row_numbers h (suc n) = ap (λ (ks : List ℕ). h 0 ∷ ks) (row_numbers (λ k. h (suc k)) n)

-- the pieces are the blocks
row_laid : (v : ℕ) (d : List ℕ) (h : ℕ → ℕ) (n : ℕ) → laid v d (row h n) [] ≡ cats (λ k. block v d (h k)) n
unfolding row laid writing_of cats block sector_writing
row_laid v d h zero = refl
row_laid v d h (suc n) =
    ap (λ (t : List ℕ). block v d (h 0) ++ t) (row_laid v d (λ k. h (suc k)) n) ∙ sym (cats_front (λ k. block v d (h k)) n)

-- ---- the writer's blocks
-- 48 + 368
pub length_block : (v : ℕ) (d : List ℕ) (k : ℕ) → length (block v d k) ≡ 416
unfolding block sector_writing
length_block v d k = rw (length-append (replicate 48 0xFF) (sector_spaced (replicate 5 0xFF) v (k / 16) (k % 16) (held d k)), length_sector) refl

-- ---- the writer
-- a disk of the right size is written
pub nibblized_is : (d : List ℕ) → length d ≡ 143360 → nibblized d ≡ Ok (cats (block (byte_of 16 d vtoc 6) d) 560)
unfolding nibblized sized
nibblized_is d l = rw (eq-eqb (length d) 143360 l) refl

-- 560 * 416
pub length_nibblized : (d s : List ℕ) → length d ≡ 143360 → nibblized d ≡ Ok s → length s ≡ 232960
length_nibblized d s l e =
    let v : ℕ = byte_of 16 d vtoc 6 in
    let q : cats (block v d) 560 ≡ s = cc (nibblized_is d l) in
    rw (← q) (length_cats (block v d) 416 (length_block v d) 560)

-- the sectors 0 to 559 are all of them
covers : Covers (order_of (row (λ k. k) 560))
covers = rw row_numbers (record { each = among_tab (λ k. k) 560; numbers = every_tab (λ (k : ℕ). k < 560) (λ k. k) 560 (λ k h. h) })

-- the size was tested
nibblized_sized : (d s : List ℕ) → nibblized d ≡ Ok s → length d ≡ 143360
unfolding nibblized sized
nibblized_sized d s e = eqb-true (length d) 143360 (met (eqb (length d) 143360) OffSize _ e).0

-- what is written is made of the disk's sector writings ..
pub nibblized_made : (d s : List ℕ) → Bytes d → nibblized d ≡ Ok s → MadeOf d s
nibblized_made d s b e =
    let v : ℕ = byte_of 16 d vtoc 6 in
    let ps : List Piece = row (λ k. k) 560 in
    let q : s ≡ laid v d ps [] = cc (nibblized_is d (nibblized_sized d s e), row_laid v d (λ k. k) 560) in
    (record { volume = v; pieces = ps; behind = [] }, record { byte = b _; gaps = row_free (λ k. k) 560; last = free_nil }, covers, q)

-- .. so it unrolls to the disk again
pub nibblized_unrolls : (d s : List ℕ) → length d ≡ 143360 → Bytes d → nibblized d ≡ Ok s → image Sixteen s ≡ Ok d
nibblized_unrolls d s l b e = unrolls_made d s (l, b) (nibblized_made d s b e)

-- ---- the same of the calls
-- from a stream so made, into enough space, denibblize hands the disk over
pub made_denibblizes : (d s : List ℕ) → Flat d → MadeOf d s → (before after : List ℕ) (r : Outcome ℕ) → Denibblized Sixteen s before after r
    → 143360 ≤ length before → (r ≡ Ok 143360) × (after ≡ d ++ drop 143360 before)
made_denibblizes d s (l, b) m before after r h room =
    let i : image Sixteen s ≡ Ok d = unrolls_made d s (l, b) m in
    (h.answer ∙ ap answer_of (handed_fits (image Sixteen s) before i (omega arith)) ∙ ap Ok l, hands_left d h i (omega arith) ∙ ap (λ (n : ℕ). d ++ drop n before) l)

-- what a call of nibblize accepted and wrote is so made
pub written_made : (d before after : List ℕ) (n : ℕ) → Bytes d → Hands (nibblized d) before after (Ok n) → MadeOf d (take n after)
written_made d before after n b h =
    let g = hands_given n h refl in
    let w : List ℕ = g.0 in
    let q : ◌≡◌ {A = Outcome ℕ} (Ok n) (Ok (length w)) = h.answer ∙ ap answer_of (handed_fits (nibblized d) before g.1 g.2) in
    let m : n ≡ length w = cc in
    let t : take n after ≡ w = ap (λ (k : ℕ). take k after) m ∙ ap (take (length w)) g.3 ∙ take_at w (drop (length w) before) (length w) refl in
    rw t (nibblized_made d w b g.1)

-- what nibblize accepts and writes, denibblize accepts, and gives the disk back
pub written_denibblizes : (d before after : List ℕ) (n : ℕ) → Bytes d → Hands (nibblized d) before after (Ok n)
    → (out image-out : List ℕ) (q : Outcome ℕ) → 143360 ≤ length out → Hands (image Sixteen (take n after)) out image-out q
    → (q ≡ Ok 143360) × (image-out ≡ d ++ drop 143360 out)
written_denibblizes d before after n b h out image-out q room k =
    let g = hands_given n h refl in
    made_denibblizes d (take n after) (nibblized_sized d g.0 g.1, b) (written_made d before after n b h) out image-out q k room
