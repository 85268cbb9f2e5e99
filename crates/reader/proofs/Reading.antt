-- Entries and data read block by block: one law for each `return`. Assumes nothing.
use mathlib.Core.Path.{◌≡◌, sym, ◌∙◌}
use mathlib.Core.Bool.{Bool, true, false}
use mathlib.Core.List.{List}
use Prim.Native.Nat.{ℕ, ◌+◌, ◌*◌, ◌-◌, ◌≤◌, ◌<◌}
use lib.ListN.{drop}
use borrow.Author.Tests.{not-true, not-false}
use borrow.Author.Rules.{rules}
use Rattle.std.specs.Prelude.{Err}
use Rattle.outcome.specs.declared.Refusal.TheVariants.{NotItsReturn}
use Rattle.outcome.specs.Outcome.{Outcome}
use Rattle.archive.specs.Reader.{size_in, sound_entry, sound_data, entries_from, data_from, whether}
use Rattle.archive.proofs.Returns.{entry_0, entry_13, entry_next, entry_chain_lem, data_0, data_13, data_next, data_chain_lem}

module _ (a s : List ℕ) (b left : ℕ) (q : s ≡ drop (256 * b) a) (h : left ≡ 0 → ⊥) where
  -- entries
  module _ (t : Bool) (e : t ≡ sound_entry (left - 1) b s) where
    pub entries_13 : t ≡ false → Err NotItsReturn ≡ whether (entries_from left b (drop (256 * b) a))
    entries_13 z = entry_13 b a left h (rw (← q) (sym e ∙ z))

    pub entries_next : (size : ℕ) (r : Outcome (Unit {0})) → t ≡ true → size ≡ size_in s → size ≡ 0 → r ≡ whether (entries_from (left - 1) (b + 1) (drop (256 * (b + 1)) a))
        → r ≡ whether (entries_from left b (drop (256 * b) a))
    entries_next size r z k l o = o ∙ entry_next b a left h (rw (← q) (sym e ∙ z)) (rw (← q) (sym k ∙ l))

    pub entries_chain : (size : ℕ) (r : Outcome (Unit {0})) → t ≡ true → size ≡ size_in s → (size ≡ 0 → ⊥) → r ≡ whether (data_from (left - 1) (b + 1) size (drop (256 * (b + 1)) a))
        → r ≡ whether (entries_from left b (drop (256 * b) a))
    entries_chain size r z k l o = o ∙ rw (k, q) (entry_chain_lem b a left h (rw (← q) (sym e ∙ z)) (rw (← q, ← k) l))

  -- data
  module _ (size : ℕ) (t : Bool) (e : t ≡ sound_data b size s) where
    pub bytes_13 : t ≡ false → Err NotItsReturn ≡ whether (data_from left b size (drop (256 * b) a))
    bytes_13 z = data_13 b a size left h (rw (← q) (sym e ∙ z))

    pub bytes_next : (r : Outcome (Unit {0})) → t ≡ true → size ≤ 254 → r ≡ whether (entries_from (left - 1) (b + 1) (drop (256 * (b + 1)) a))
        → r ≡ whether (data_from left b size (drop (256 * b) a))
    bytes_next r z l o = o ∙ data_next b a size left h (rw (← q) (sym e ∙ z)) l

    pub bytes_chain : (r : Outcome (Unit {0})) → t ≡ true → 254 < size → r ≡ whether (data_from (left - 1) (b + 1) (size - 254) (drop (256 * (b + 1)) a))
        → r ≡ whether (data_from left b size (drop (256 * b) a))
    bytes_chain r z l o = o ∙ data_chain_lem b a size left h (rw (← q) (sym e ∙ z)) l

pub ruleset reads = (entry_0, entries_13, entries_next, entries_chain, data_0, bytes_13, bytes_next, bytes_chain, not-true, not-false, rules)
