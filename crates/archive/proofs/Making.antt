-- Blocks are made as they are defined. Assumes nothing.
use mathlib.Core.Path.{◌≡◌, refl, ◌∙◌}
use mathlib.Core.List.{List, [], ◌∷◌, ◌++◌, append_assoc}
use Prim.Native.Nat.{ℕ, ◌+◌, ◌/◌, ◌%◌, ◌≤◌}
use native.Mathlib.Omega.{arith}
use lib.ListN.{length, get_or, take, drop, replicate, length-take, length-append}
use borrow.Author.Rules.{rules}
use mir.Syntax.{w16, w32}
use Rattle.std.specs.Int.{to_le_bytes}
use Rattle.lists.specs.Fill.{padded, placed}
use Rattle.lists.specs.Words.{le2, le3}
use Rattle.lists.proofs.Laws.{length_padded, placed_zeros}
use Rattle.lists.proofs.Put.{Put, placed_put, put_more, put_zeros}
use Rattle.archive.specs.Archive.{entry_block, first_block}
use Rattle.catalog.specs.declared.Name.{Name}
use Rattle.catalog.specs.Catalog.{shown}
use Rattle.catalog.specs.Listing.{name_of}
use Rattle.catalog.proofs.Names.{shown_short}
use Rattle.archive.specs.Blocks.{entry_bytes}

-- no more than was asked for
short : (n : ℕ) (x : List ℕ) → length (take n x) ≤ n
short n x = rw length-take (omega arith)

-- block 0
pub first_made : (volume next blocks : ℕ) (z o : List ℕ) → z ≡ replicate 256 0
    → o ≡ placed 0 (volume ∷ next % 256 ∷ next / 256 % 256 ∷ blocks % 256 ∷ blocks / 256 % 256 ∷ []) z → o ≡ first_block volume next blocks
unfolding first_block
first_made volume next blocks z o e p =
    let x : List ℕ = volume ∷ le2 next ++ le2 blocks in
    p ∙ rw e (placed_zeros 256 x (omega arith))

-- an entry block
pub entry_made : (next first size kind locked count : ℕ) (raw x : List ℕ) (w : Name) (z a b c o : List ℕ) → z ≡ replicate 256 0 → w ≡ name_of (take 30 raw)
    → a ≡ placed 0 (next % 256 ∷ next / 256 % 256 ∷ first % 256 ∷ first / 256 % 256 ∷ kind ∷ locked ∷ w.length ∷ []) z
    → b ≡ placed 7 w.letters a
    → c ≡ placed 37 (count % 256 ∷ count / 256 % 256 ∷ size % 256 ∷ size / 256 % 256 ∷ size / 65536 % 256 ∷ []) b
    → x ≡ take 30 (drop 0 raw) → o ≡ placed 42 x c
    → o ≡ entry_bytes next first size kind locked raw count
unfolding entry_bytes entry_block
entry_made next first size kind locked count raw x w z a b c o e g p q r h k =
    let n : List ℕ = shown (take 30 raw) in
    let H : List ℕ = next % 256 ∷ next / 256 % 256 ∷ first % 256 ∷ first / 256 % 256 ∷ kind ∷ locked ∷ length n ∷ [] in
    let F : List ℕ = padded 30 n in
    let T : List ℕ = le2 count ++ le3 size in
    let X : List ℕ = take 30 raw in
    let p₀ : a ≡ placed 0 H z = p ∙ rw g refl in
    let q₀ : b ≡ placed 7 F a = q ∙ rw g refl in
    let k₀ : o ≡ placed 42 X c = k ∙ rw h refl in
    let lz : length z ≡ 256 = rw e refl in
    let s = shown_short X in
    let lx = short 30 raw in
    let lf : length F ≡ 30 = length_padded 30 n (omega arith) in
    let p₁ : Put 0 H z a = placed_put p₀ (omega arith) in
    let q₂ : Put 7 F a b = placed_put q₀ (omega (arith, p₁.long)) in
    let p₂ : Put 0 (H ++ F) z b = put_more p₁ q₂ refl (omega arith) in
    let l₂ : 37 ≡ 0 + length (H ++ F) = omega arith in
    let q₃ : Put 37 T b c = placed_put r (omega (arith, p₂.long)) in
    let p₃ : Put 0 ((H ++ F) ++ T) z c = put_more p₂ q₃ l₂ (omega arith) in
    let l₃ : 42 ≡ 0 + length ((H ++ F) ++ T) = omega (arith, length-append (H ++ F) T) in
    let q₄ : Put 42 X c o = placed_put k₀ (omega (arith, p₃.long)) in
    let p₄ : Put 0 (((H ++ F) ++ T) ++ X) z o = put_more p₃ q₄ l₃ (omega arith) in
    put_zeros 256 e p₄ ∙ rw (append_assoc (H ++ F) T X, append_assoc H F (T ++ X)) refl

-- .. where the numbers came as their bytes
pub entry_joined : (next first size kind locked count : ℕ) (raw x : List ℕ) (w : Name) (n f m s z a b c o : List ℕ) → n ≡ to_le_bytes w16 next → f ≡ to_le_bytes w16 first
    → m ≡ to_le_bytes w16 count → s ≡ to_le_bytes w32 size → z ≡ replicate 256 0 → w ≡ name_of (take 30 raw)
    → a ≡ placed 0 (get_or n 0 0 ∷ get_or n 1 0 ∷ get_or f 0 0 ∷ get_or f 1 0 ∷ kind ∷ locked ∷ w.length ∷ []) z
    → b ≡ placed 7 w.letters a
    → c ≡ placed 37 (get_or m 0 0 ∷ get_or m 1 0 ∷ get_or s 0 0 ∷ get_or s 1 0 ∷ get_or s 2 0 ∷ []) b
    → x ≡ take 30 (drop 0 raw) → o ≡ placed 42 x c
    → o ≡ entry_bytes next first size kind locked raw count
entry_joined next first size kind locked count raw x w n f m s z a b c o en ef em es e g p q r h k =
    entry_made next first size kind locked count raw x w z a b c o e g (p ∙ rw (en, ef) refl) q (r ∙ rw (em, es) refl) h k

pub ruleset making = (entry_joined, rules)
