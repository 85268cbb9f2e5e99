-- The reader as its code will go: over the whole archive a, by the block's number b and the blocks left; one law for each `return`. Assumes nothing.
use mathlib.Core.Path.{◌≡◌, refl, sym}
use mathlib.Core.Bool.{true, false}
use mathlib.Core.List.{List, [], ◌∷◌, ◌++◌}
use Prim.Native.Nat.{ℕ, zero, suc, ◌+◌, ◌*◌, ◌-◌, ◌≤◌, ◌<◌}
use native.Mathlib.Omega.{arith}
use lib.ListN.{drop}
use lib.Seq.{drop-drop}
use Rattle.std.specs.Prelude.{Ok, Err}
use Rattle.outcome.specs.declared.Refusal.TheVariants.{NotItsReturn}
use Rattle.outcome.specs.Outcome.{Outcome, ◌>>=◌}
use Rattle.files.specs.Contents.{File}
use Rattle.archive.specs.Reader.{size_in, entry_in, sound_entry, part_in, sound_data, entries_from, data_from, whether}
use Rattle.archive.proofs.Steps.{entry_empty, entry_data, data_last, data_more}

-- from block b on
abbrev pub from_block : ℕ → List ℕ → List ℕ
from_block b a = drop (256 * b) a

-- the block behind
next_block : (b : ℕ) (a : List ℕ) → drop 256 (from_block b a) ≡ from_block (b + 1) a
next_block b a = let e : 256 * b + 256 ≡ 256 * (b + 1) = omega arith in rw (drop-drop, e) refl

-- what is made of the value changes no refusal
whether_then : {A B : Type 0} (o : Outcome A) (f : A → B) → whether (o >>= λ x. Ok (f x)) ≡ whether o
whether_then (Err r) f = refl
whether_then (Ok x) f = refl

module _ (b : ℕ) (a : List ℕ) where
  -- no block left
  pub entry_0 : (left : ℕ) → left ≡ 0 → Ok tt ≡ whether (entries_from left b (from_block b a))
  unfolding entries_from data_from
  entry_0 left z = rw z refl

  -- not an entry block
  pub entry_13 : (left : ℕ) → (left ≡ 0 → ⊥) → sound_entry (left - 1) b (from_block b a) ≡ false → Err NotItsReturn ≡ whether (entries_from left b (from_block b a))
  unfolding entries_from data_from
  entry_13 zero h e = absurd (h refl)
  entry_13 (suc n) h e = let z : suc n - 1 ≡ n = omega arith in rw (rw z at e) refl

  -- no data: as the entry in the next block
  pub entry_next : (left : ℕ) → (left ≡ 0 → ⊥) → sound_entry (left - 1) b (from_block b a) ≡ true → size_in (from_block b a) ≡ 0
      → whether (entries_from (left - 1) (b + 1) (from_block (b + 1) a)) ≡ whether (entries_from left b (from_block b a))
  entry_next zero h e q = absurd (h refl)
  entry_next (suc n) h e q =
      let z : suc n - 1 ≡ n = omega arith in
      rw (z, entry_empty n b (from_block b a) (rw z at e) q, next_block b a) (sym (whether_then (entries_from n (b + 1) (from_block (b + 1) a)) (λ fs. entry_in (from_block b a) [] ∷ fs)))

  -- data: as the data chain from the next block on
  pub entry_chain_lem : (left : ℕ) → (left ≡ 0 → ⊥) → sound_entry (left - 1) b (from_block b a) ≡ true → (size_in (from_block b a) ≡ 0 → ⊥)
      → whether (data_from (left - 1) (b + 1) (size_in (from_block b a)) (from_block (b + 1) a)) ≡ whether (entries_from left b (from_block b a))
  entry_chain_lem zero h e q = absurd (h refl)
  entry_chain_lem (suc n) h e q =
      let z : suc n - 1 ≡ n = omega arith in
      rw (z, entry_data n b (from_block b a) (rw z at e) q, next_block b a)
      (sym (whether_then (data_from n (b + 1) (size_in (from_block b a)) (from_block (b + 1) a)) (λ r. entry_in (from_block b a) r.0 ∷ r.1)))

  -- data is left, and no block
  pub data_0 : (size left : ℕ) → left ≡ 0 → Err NotItsReturn ≡ whether (data_from left b size (from_block b a))
  unfolding entries_from data_from
  data_0 size left z = rw z refl

  -- not the data block
  pub data_13 : (size left : ℕ) → (left ≡ 0 → ⊥) → sound_data b size (from_block b a) ≡ false → Err NotItsReturn ≡ whether (data_from left b size (from_block b a))
  unfolding entries_from data_from
  data_13 size zero h e = absurd (h refl)
  data_13 size (suc n) h e = rw e refl

  -- the chain's last block: as the entry in the next block
  pub data_next : (size left : ℕ) → (left ≡ 0 → ⊥) → sound_data b size (from_block b a) ≡ true → size ≤ 254
      → whether (entries_from (left - 1) (b + 1) (from_block (b + 1) a)) ≡ whether (data_from left b size (from_block b a))
  data_next size zero h e q = absurd (h refl)
  data_next size (suc n) h e q =
      let z : suc n - 1 ≡ n = omega arith in
      rw (z, data_last n b size (from_block b a) e q, next_block b a)
      (sym (whether_then {B = List ℕ × List File} (entries_from n (b + 1) (from_block (b + 1) a)) (λ fs. (part_in size (from_block b a), fs))))

  -- a full block: as the chain from the next block on
  pub data_chain_lem : (size left : ℕ) → (left ≡ 0 → ⊥) → sound_data b size (from_block b a) ≡ true → 254 < size
      → whether (data_from (left - 1) (b + 1) (size - 254) (from_block (b + 1) a)) ≡ whether (data_from left b size (from_block b a))
  data_chain_lem size zero h e q = absurd (h refl)
  data_chain_lem size (suc n) h e q =
      let z : suc n - 1 ≡ n = omega arith in
      rw (z, data_more n b size (from_block b a) e q, next_block b a)
      (sym (whether_then {B = List ℕ × List File} (data_from n (b + 1) (size - 254) (from_block (b + 1) a)) (λ r. (part_in size (from_block b a) ++ r.0, r.1))))
