-- A data block, made of pieces of two sectors. Assumes nothing.
use mathlib.Core.Path.{◌≡◌, refl, sym, ap, subst, ◌∙◌}
use mathlib.Core.List.{List, ◌∷◌, ◌++◌}
use Prim.Native.Nat.{ℕ, ◌+◌, ◌-◌, ◌*◌, ◌/◌, ◌%◌, ◌<◌, ◌≤◌, min}
use native.Mathlib.Omega.{arith}
use native.Mathlib.Nat.{mod-mod}
use lib.Arith.{mod-mul, digits_mod, digits_div}
use lib.ListN.{length, length-take, take, drop, get_or, replicate, length-append, length-replicate}
use borrow.Author.Tests.{eq-eqb, ne_eqb, lt-leb}
use borrow.Author.Rules.{rules}
use Rattle.lists.specs.Fill.{placed, padded}
use Rattle.lists.specs.Words.{le2, le3}
use Rattle.lists.proofs.Laws.{length_padded}
use Rattle.lists.proofs.Placed.{placed_fits}
use Rattle.lists.proofs.Put.{Put, placed_put, put_more, put_whole}
use Rattle.catalog.specs.Catalog.{shown}
use Rattle.files.specs.Contents.{File}
use Rattle.archive.specs.Archive.{data_block, entry_block}
use Rattle.writer.specs.Passes.{head_of, tail_of, next_data, made_at}

module _ (d ns : List ℕ) (from size : ℕ) where
  pub head_is : (n k : ℕ) (x : List ℕ) → n ≡ get_or ns (from / 256) 0 → k ≡ min size (256 - from % 256) → x ≡ take k (drop (n + from % 256) d)
      → x ≡ head_of d ns from size
  unfolding head_of
  head_is n k x e q h = h ∙ rw (e, q) refl

  pub tail_is : (n b : ℕ) (x : List ℕ) → n ≡ get_or ns (from / 256 + 1) 0 → b ≡ length (head_of d ns from size) → x ≡ take (size - b) (drop n d)
      → x ≡ tail_of d ns from size
  unfolding tail_of
  tail_is n b x e q h = h ∙ rw (e, q) refl

  pub tail_less : (b : ℕ) → b ≡ length (head_of d ns from size) → b ≤ size
  unfolding head_of
  tail_less b e = rw e (rw length-take (omega arith))

pub ruleset pieces = (head_is, tail_is, tail_less, rules)

-- a data block is 256 bytes
length_data : (next : ℕ) (x y : List ℕ) → length x + length y ≤ 254 → length (data_block next (x ++ y)) ≡ 256
unfolding data_block
length_data next x y l =
    let p : length (padded 254 (x ++ y)) ≡ 254 = length_padded 254 (x ++ y) (rw length-append l) in
    rw (length-append, p) refl

-- a number, two pieces and zeros put in one behind the other
module _ (next : ℕ) (x y o : List ℕ) (at : ℕ) where
  pub data_short : length o < at + 256 → length x + length y ≤ 254 → o ≡ placed at (data_block next (x ++ y)) o
  unfolding placed
  data_short h l = let n = length_data next x y l in sym (rw (n, lt-leb _ _ h) refl)

  pub data_put : (z₁ z₂ z₃ z₄ : List ℕ) → at + 256 ≤ length o → length x + length y ≤ 254 → z₁ ≡ placed at (le2 next) o → z₂ ≡ placed (at + 2) x z₁
      → z₃ ≡ placed (at + 2 + length x) y z₂ → z₄ ≡ placed (at + 2 + length x + length y) (replicate (254 - (length x + length y)) 0) z₃
      → z₄ ≡ placed at (data_block next (x ++ y)) o
  unfolding data_block padded
  data_put z₁ z₂ z₃ z₄ h l p q r s =
      let zs : List ℕ = replicate (254 - (length x + length y)) 0 in
      let n : length zs ≡ 254 - (length x + length y) = length-replicate {A = ℕ} (254 - (length x + length y)) 0 in
      let a : Put at (le2 next) o z₁ = placed_put p (omega arith) in
      let b : Put (at + 2) x z₁ z₂ = placed_put q (omega (arith, a.long)) in
      let c : Put at (le2 next ++ x) o z₂ = put_more a b refl (omega arith) in
      let f : Put (at + 2 + length x) y z₂ z₃ = placed_put r (omega (arith, c.long)) in
      let g : Put at ((le2 next ++ x) ++ y) o z₃ = put_more c f (rw length-append (omega arith)) (omega arith) in
      let i : Put (at + 2 + length x + length y) zs z₃ z₄ = placed_put s (omega (arith, g.long, n)) in
      let k : Put at (((le2 next ++ x) ++ y) ++ zs) o z₄ = put_more g i (rw (length-append, length-append) (omega arith)) (omega arith) in
      let t : length (((le2 next ++ x) ++ y) ++ zs) ≡ 256 = rw (length-append, length-append, length-append, n) (omega arith) in
      let v : ((le2 next ++ x) ++ y) ++ zs ≡ le2 next ++ padded 254 (x ++ y) = rw length-append refl in
      subst (λ (w : List ℕ). z₄ ≡ placed at w o) v (placed_fits at (((le2 next ++ x) ++ y) ++ zs) o z₄ (omega arith) (omega (arith, t)) k.is)

-- into 256 zeros
pub data_made : (next : ℕ) (x y z o : List ℕ) → z ≡ replicate 256 0 → length x + length y ≤ 254 → o ≡ placed 0 (data_block next (x ++ y)) z
    → o ≡ data_block next (x ++ y)
data_made next x y z o e l p =
    let n : length z ≡ 256 = rw e (length-replicate {A = ℕ} 256 0) in
    let k : length (data_block next (x ++ y)) ≡ 256 = length_data next x y l in
    put_whole (placed_put p (omega (arith, n, k))) (k ∙ sym n)

pub ruleset datas = (data_short, data_put, data_made, rules)

-- ---- a data block by its number
module _ (k b j : ℕ) where
  pub next_none : j + 1 ≡ k → 0 ≡ next_data k b j % 65536
  next_none e = rw (eq-eqb _ _ e) refl

  pub next_some : (j + 1 ≡ k → ⊥) → (b + j + 1) % 65536 ≡ next_data k b j % 65536
  next_some h = rw (ne_eqb _ _ h) refl

-- of a number that is written in two bytes, only these count
le2_mod : (x : ℕ) → le2 (x % 65536) ≡ le2 x
le2_mod x =
    let r : x % 65536 ≡ (x / 256 % 256) * 256 + x % 256 = mod-mul x {m = 256} {c = 256} (omega arith) (omega arith) in
    let a : x % 65536 % 256 ≡ x % 256 = rw r (digits_mod (x / 256 % 256) {m = 256} {r = x % 256} (omega arith)) in
    let b : x % 65536 / 256 ≡ x / 256 % 256 = rw r (digits_div (x / 256 % 256) {m = 256} {r = x % 256} (omega arith)) in
    let c : x / 256 % 256 % 256 ≡ x / 256 % 256 = mod-mod (x / 256) 256 in
    rw (a, b, c) refl

pub data_mod : (next : ℕ) (xs : List ℕ) → data_block (next % 65536) xs ≡ data_block next xs
unfolding data_block
data_mod next xs = ap (λ (t : List ℕ). t ++ padded 254 xs) (le2_mod next)

pub entry_mod : (next first size : ℕ) (f : File) → entry_block (next % 65536) (first % 65536) size f ≡ entry_block next first size f
unfolding entry_block
entry_mod next first size f =
    let r : List ℕ = f.kind ∷ f.locked ∷ length (shown f.raw) ∷ padded 30 (shown f.raw) ++ (le2 f.count ++ (le3 size ++ f.raw)) in
    ap (λ (t : List ℕ). padded 256 (t ++ (le2 (first % 65536) ++ r))) (le2_mod next)
    ∙ ap (λ (t : List ℕ). padded 256 (le2 next ++ (t ++ r))) (le2_mod first)

module _ (d ns : List ℕ) (start size k b j : ℕ) (n : ℕ) (e : n ≡ min 254 (size - 254 * j)) where
  head_short : length (head_of d ns (start + 254 * j) n) ≤ n
  unfolding head_of
  head_short = rw length-take (omega arith)

  tail_short : length (tail_of d ns (start + 254 * j) n) ≤ n - length (head_of d ns (start + 254 * j) n)
  unfolding tail_of
  tail_short = rw length-take (omega arith)

  module _ (x y : List ℕ) (h : x ≡ head_of d ns (start + 254 * j) n) (t : y ≡ tail_of d ns (start + 254 * j) n) where
    pub make_short : length x + length y ≤ 254
    make_short = rw (h, t) (omega (arith, head_short, tail_short))

    pub make_is : (v : ℕ) (r : List ℕ) → v ≡ next_data k b j % 65536 → r ≡ data_block v (x ++ y) → r ≡ made_at d ns start size k b j
    unfolding made_at
    make_is v r p q = q ∙ rw (p, h, t, e) (data_mod (next_data k b j) _)

    -- .. and put in its place
    pub make_put : (v at : ℕ) (o o' : List ℕ) → v ≡ next_data k b j % 65536 → o' ≡ placed at (data_block v (x ++ y)) o → o' ≡ placed at (made_at d ns start size k b j) o
    make_put v at o o' p q = q ∙ ap (λ (w : List ℕ). placed at w o) (make_is v (data_block v (x ++ y)) p refl)

pub length_at : (x y : List ℕ) → x ≡ y → length x ≡ length y
length_at x y e = ap length e

pub ruleset makings = (make_short, make_is, make_put, length_at, rules)
