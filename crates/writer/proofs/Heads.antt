-- Entry blocks, and the data blocks of a file one after the other. Assumes nothing.
use mathlib.Core.Path.{◌≡◌, refl, sym, ap, subst, ◌∙◌}
use mathlib.Core.Bool.{Bool, cond}
use mathlib.Core.List.{List, [], map, foldl}
use Prim.Native.Nat.{ℕ, ◌+◌, ◌*◌, ◌%◌, ◌<◌, ◌≤◌}
use native.Mathlib.Omega.{arith}
use lib.ListN.{length, get_or}
use lib.Dec.{eqb}
use borrow.Author.Tests.{eq-eqb, ne_eqb, le-leb, lt-leb}
use borrow.Author.Rules.{rules}
use Rattle.lists.specs.Fill.{below}
use Rattle.lists.specs.Words.{word_at}
use Rattle.lists.proofs.Select.{onward, onward_next, onward_end}
use Rattle.catalog.specs.declared.EntryHead.{EntryHead}
use Rattle.files.specs.Survey.{blocks_for}
use Rattle.archive.specs.Blocks.{entry_bytes}
use Rattle.writer.specs.declared.Mark.{Mark}
use Rattle.writer.specs.Passes.{Pass, pass_of, size_by, start_by, stated_in, made_at, head_at, file_with, stepped, Made}
use Rattle.writer.proofs.Pieces.{entry_mod}
use Rattle.writer.proofs.Emits.{emit_written, target_written}

-- ---- the numbers in an entry block
pub entry_last : (a t : ℕ) → a ≡ t → 0 ≡ cond (eqb a t) 0 a % 65536
entry_last a t e = rw (eq-eqb _ _ e) refl

pub entry_on : (a t : ℕ) → (a ≡ t → ⊥) → a % 65536 ≡ cond (eqb a t) 0 a % 65536
entry_on a t h = rw (ne_eqb _ _ h) refl

pub data_none : (k b : ℕ) → k ≡ 0 → 0 ≡ cond (eqb k 0) 0 (b + 1) % 65536
data_none k b e = rw (eq-eqb _ _ e) refl

pub data_some : (k b : ℕ) → (k ≡ 0 → ⊥) → (b + 1) % 65536 ≡ cond (eqb k 0) 0 (b + 1) % 65536
data_some k b h = rw (ne_eqb _ _ h) refl

pub ruleset links = (entry_last, entry_on, data_none, data_some, rules)

-- ---- an entry block
pub head_made : (t b k size : ℕ) (e : EntryHead) (raw : List ℕ) (u v : ℕ) (r : List ℕ) → u ≡ cond (eqb (b + 1 + k) t) 0 (b + 1 + k) % 65536 → v ≡ cond (eqb k 0) 0 (b + 1) % 65536
    → r ≡ entry_bytes u v size e.file_type e.locked raw e.count → r ≡ head_at t b k size (file_with e raw [])
unfolding entry_bytes
head_made t b k size e raw u v r p q z =
    z ∙ rw (p, q) (entry_mod (cond (eqb (b + 1 + k) t) 0 (b + 1 + k)) (cond (eqb k 0) 0 (b + 1)) size (file_with e raw []))

-- what is emitted is what was made
pub emit_of : (w : Bool) (a : List ℕ) (s : Pass) (m : Mark) (o o' : List ℕ) (r : Mark) (y z : List ℕ) → y ≡ z → Made (stepped w a s y) 1 m o o' r → Made (stepped w a s z) 1 m o o' r
emit_of w a s m o o' r y z e h = subst (λ (x : List ℕ). Made (stepped w a s x) 1 m o o' r) e h

pub ruleset heads = (head_made, emit_of, emit_written, target_written, rules)

-- ---- a file's size
pub stated_is : (d ns : List ℕ) (n v : ℕ) → n ≡ get_or ns 0 0 → v ≡ word_at d (n + 2) → v ≡ stated_in d ns
stated_is d ns n v e q = q ∙ rw e refl

module _ (n s : ℕ) where
  pub size_fits : 4 + s ≤ 256 * n → s ≡ size_by n s
  size_fits h = rw (le-leb _ _ h) refl

  pub size_all : 256 * n < 4 + s → 256 * n ≡ size_by n s
  size_all h = rw (lt-leb _ _ h) refl

  pub start_fits : 4 + s ≤ 256 * n → 4 ≡ start_by n s
  start_fits h = rw (le-leb _ _ h) refl

  pub start_all : 256 * n < 4 + s → 0 ≡ start_by n s
  start_all h = rw (lt-leb _ _ h) refl

pub ruleset sizes = (stated_is, size_fits, size_all, start_fits, start_all, rules)

-- ---- the data blocks
module _ (w : Bool) (a d ns : List ℕ) (start size k b : ℕ) (m : Mark) (o₀ : List ℕ) where
  -- j of them are emitted
  pub record Emitting (j : ℕ) (t : Mark) (o : List ℕ) : Type 0 where
    pub count : j ≤ k
    pub first : b ≡ m.block
    pub long : length o ≡ length o₀
    pub block : t.block ≡ m.block + j
    pub is : foldl (stepped w a) (pass_of m o₀) (map (made_at d ns start size k b) (below k))
        ≡ foldl (stepped w a) (pass_of t o) (onward (made_at d ns start size k b) k j)

  pub data_start : b ≡ m.block → Emitting 0 m o₀
  data_start e = record { first = e; long = refl; count = omega arith; block = omega arith; is = refl }

  module _ (q : k ≡ blocks_for size) (z : size ≤ 65792) (j : ℕ) (t : Mark) (o : List ℕ) (c : Emitting j t o) where
    pub data_left : j < k → 254 * j ≤ size
    data_left h = omega arith

    pub data_first : m.block ≤ 19000000 → j < k → b + j ≤ 20000000
    data_first l h = omega (arith, c.first)

    pub data_block_lem : m.block ≤ 19000000 → j < k → t.block ≤ 20000000
    data_block_lem l h = omega (arith, c.block)

    pub data_more : j < k → (r : Mark) (o' : List ℕ) → Made (stepped w a (pass_of t o) (made_at d ns start size k b j)) 1 t o o' r → Emitting (j + 1) r o'
    unfolding stepped
    data_more h r o' u =
        let e : r.block ≡ t.block + 1 = ap (λ (y : Pass). y.block) u.is in
        record {
          first = c.first;
          long = u.long ∙ c.long;
          count = omega arith;
          block = omega (arith, c.block);
          is =
              c.is
              ∙ ap (foldl (stepped w a) (pass_of t o)) (onward_next (made_at d ns start size k b) k j h)
              ∙ ap (λ (s : Pass). foldl (stepped w a) s (onward (made_at d ns start size k b) k (j + 1))) (sym u.is);
        }

    pub data_long : (r : Mark) (o' : List ℕ) (s : Pass) → Made s 1 t o o' r → length o' ≡ length o₀
    data_long r o' s u = u.long ∙ c.long

    pub data_end : k ≤ j → Made (foldl (stepped w a) (pass_of m o₀) (map (made_at d ns start size k m.block) (below k))) 260 m o₀ o t
    data_end h =
        record {
          is =
              sym (c.is ∙ ap (foldl (stepped w a) (pass_of t o)) (onward_end (made_at d ns start size k b) k j h))
              ∙ ap (λ (i : ℕ). foldl (stepped w a) (pass_of m o₀) (map (made_at d ns start size k i) (below k))) c.first;
          long = c.long;
          bound = omega (arith, c.block, c.count);
        }

pub ruleset chains = (data_start, data_left, data_first, data_block_lem, data_long, data_more, data_end, rules)
