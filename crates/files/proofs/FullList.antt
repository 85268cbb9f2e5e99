-- A list that is filled to its end: all of its pairs are kept, the last one too (document 02, Req 05). Assumes nothing.
use mathlib.Core.Path.{◌≡◌, refl, sym, ap, ◌∙◌}
use mathlib.Core.List.{List, ◌∷◌, map}
use Prim.Native.Nat.{ℕ, zero, suc, ◌+◌, ◌*◌, ◌<◌}
use native.Mathlib.Omega.{arith}
use lib.ListN.{length}
use Rattle.lists.specs.Fill.{below}
use Rattle.lists.proofs.Select.{onward, onward_next, onward_end, length_onward}
use Rattle.disk.specs.declared.Place.{Place}
use Rattle.disk.specs.Disk.{place, byte_of}
use Rattle.files.specs.Contents.{max_pairs, pair_at, pairs_of}
use Rattle.files.proofs.Runs.{behind, next, none_behind}

-- the pairs go to the end of the list's sector, and no further
pub pairs_end : 12 + 2 * max_pairs ≡ 256
pairs_end = refl

module _ (n : ℕ) (d : List ℕ) (p : Place) where
  -- the last pair is at the sector's last two bytes
  pub last_pair : (i : ℕ) → i + 1 ≡ max_pairs → pair_at n d p i ≡ place (byte_of n d p 254) (byte_of n d p 255)
  last_pair i e =
      let t : 12 + 2 * i ≡ 254 = omega arith in
      let s : 13 + 2 * i ≡ 255 = omega arith in
      rw (t, s) refl

  module _ (full : (i : ℕ) → i < max_pairs → (pair_at n d p i).track.0 ≡ 0 → ⊥) where
    from : (f i : ℕ) → i + f ≡ max_pairs → behind n d p i ≡ onward (pair_at n d p) max_pairs i
    from zero i e = none_behind n d p i (omega arith) ∙ sym (onward_end (pair_at n d p) max_pairs i (omega arith))
    from (suc f) i e =
        let h : i < max_pairs = omega arith in
        next n d p i h (pair_at n d p i) refl (full i h) ∙ ap (λ (ps : List Place). pair_at n d p i ∷ ps) (from f (i + 1) (omega arith))
        ∙ sym (onward_next (pair_at n d p) max_pairs i h)

    -- where no track is zero, all are kept
    pub full_list : pairs_of n d p ≡ map (pair_at n d p) (below max_pairs)
    unfolding pairs_of
    full_list = from max_pairs 0 refl

    -- .. and counted
    pub full_count : length (pairs_of n d p) ≡ max_pairs
    full_count = ap length full_list ∙ length_onward (pair_at n d p) max_pairs
