-- The reader step by step: one law for each way on. Assumes nothing.
use mathlib.Core.Path.{◌≡◌, refl}
use mathlib.Core.Bool.{true}
use mathlib.Core.List.{List, [], ◌∷◌, ◌++◌}
use Prim.Native.Nat.{ℕ, suc, ◌+◌, ◌-◌, ◌≤◌, ◌<◌}
use lib.ListN.{drop}
use borrow.Author.Tests.{eq-eqb, ne_eqb, le-leb, lt-leb}
use Rattle.std.specs.Prelude.{Ok}
use Rattle.outcome.specs.declared.Refusal.TheVariants.{NotItsReturn}
use Rattle.outcome.specs.Outcome.{◌>>=◌}
use Rattle.outcome.proofs.Outcome.{refused_given, met}
use Rattle.files.specs.Contents.{File}
use Rattle.archive.specs.Reader.{size_in, entry_in, sound_entry, part_in, sound_data, entries_from, data_from}

-- no block left
pub entries_none : (b : ℕ) (s : List ℕ) → entries_from 0 b s ≡ Ok []
unfolding entries_from data_from
entries_none b s = refl

-- what is read was tested
pub entry_tested : (n b : ℕ) (s : List ℕ) {fs : List File} → entries_from (suc n) b s ≡ Ok fs → sound_entry n b s ≡ true
unfolding entries_from data_from
entry_tested n b s e = (met (sound_entry n b s) NotItsReturn _ e).0

pub data_tested : (n b size : ℕ) (s : List ℕ) {r : List ℕ × List File} → data_from (suc n) b size s ≡ Ok r → sound_data b size s ≡ true
unfolding entries_from data_from
data_tested n b size s e = (met (sound_data b size s) NotItsReturn _ e).0

-- data with no block left
pub data_none : (b size : ℕ) (s : List ℕ) {r : List ℕ × List File} → data_from 0 b size s ≡ Ok r → ⊥
unfolding entries_from data_from
data_none b size s e = refused_given e

module _ (n b : ℕ) (s : List ℕ) (e : sound_entry n b s ≡ true) where
  -- an entry with no data: the next entry follows
  pub entry_empty : size_in s ≡ 0 → entries_from (suc n) b s ≡ (entries_from n (b + 1) (drop 256 s) >>= λ fs. Ok (entry_in s [] ∷ fs))
  unfolding entries_from data_from
  entry_empty z = rw (e, eq-eqb _ _ z) refl

  -- an entry with data: its data chain follows
  pub entry_data : (size_in s ≡ 0 → ⊥)
      → entries_from (suc n) b s ≡ (data_from n (b + 1) (size_in s) (drop 256 s) >>= λ r. Ok (entry_in s r.0 ∷ r.1))
  unfolding entries_from data_from
  entry_data z = rw (e, ne_eqb _ _ z) refl

module _ (n b size : ℕ) (s : List ℕ) (e : sound_data b size s ≡ true) where
  -- a chain's last block: the next entry follows
  pub data_last : size ≤ 254 → data_from (suc n) b size s ≡ (entries_from n (b + 1) (drop 256 s) >>= λ fs. Ok (part_in size s, fs))
  unfolding entries_from data_from
  data_last h = rw (e, le-leb _ _ h) refl

  -- a full block: the chain goes on
  pub data_more : 254 < size
      → data_from (suc n) b size s ≡ (data_from n (b + 1) (size - 254) (drop 256 s) >>= λ r. Ok (part_in size s ++ r.0, r.1))
  unfolding entries_from data_from
  data_more h = rw (e, lt-leb _ _ h) refl
