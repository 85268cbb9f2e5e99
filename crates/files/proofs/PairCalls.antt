-- The pairs of a list stand in a row: they are handed over as a part of the disk. Assumes nothing.
use mathlib.Core.Path.{◌≡◌, refl, sym, ap, ◌∙◌}
use mathlib.Core.Bool.{Bool, true, false}
use mathlib.Core.List.{List, [], ◌∷◌, flat_map}
use Prim.Native.Nat.{ℕ, zero, suc, ◌+◌, ◌*◌, ◌<◌, ◌≤◌}
use native.Mathlib.Omega.{arith}
use lib.ListN.{length, get_or, take, drop}
use lib.Seq.{drop-cons}
use lib.Dec.{eqb}
use borrow.Author.Tests.{eq-eqb, ne_eqb, eqb-true, eqb-false, not-true, not-false}
use borrow.Author.Rules.{rules}
use Rattle.lists.specs.Fill.{placed}
use Rattle.lists.proofs.Split.{by_test}
use Rattle.lists.proofs.Put.{Put, placed_put, put_front}
use Rattle.std.specs.Prelude.{Ok, Err}
use Rattle.outcome.specs.declared.Refusal.TheVariants.{OffSize, OffDisc, TrayShort}
use Rattle.outcome.specs.Outcome.{Outcome, Hands}
use Rattle.outcome.proofs.Outcome.{hands_refused, hands_short, hands_over_lem}
use Rattle.disk.specs.declared.Place.{Place}
use Rattle.disk.specs.Disk.{sectors, per_of, start, on_disk, sized}
use Rattle.disk.proofs.Places.{number_small}
use Rattle.files.specs.declared.PairRun.{PairRun}
use Rattle.files.specs.Contents.{max_pairs, place_bytes, pair_at, pairs_of, pairs_at, pair_bytes}
use Rattle.files.specs.Threads.{run_of}
use Rattle.files.proofs.Runs.{behind, stop, next, none_behind}

module _ (n : ℕ) (d : List ℕ) (p : Place) (fits : start n p + 256 ≤ length d) where
  -- the pairs from i on
  row : (f i : ℕ) → i + f ≡ max_pairs → flat_map place_bytes (behind n d p i) ≡ take (2 * length (behind n d p i)) (drop (start n p + (12 + 2 * i)) d)
  unfolding flat_map
  row zero i h = rw (none_behind n d p i (omega arith)) refl
  row (suc f) i h =
      let q : Place = pair_at n d p i in
      let x : ℕ = start n p + (12 + 2 * i) in
      let s₁ : start n p + (13 + 2 * i) ≡ suc x = omega arith in
      let s₂ : start n p + (12 + 2 * (i + 1)) ≡ suc (suc x) = omega arith in
      by_test (eqb q.track.0 0)
      (λ e. rw (stop n d p i (omega arith) q refl (eqb-true _ _ e)) refl)
      (λ e.
      let k = next n d p i (omega arith) q refl (eqb-false _ _ e) in
      let m : ℕ = length (behind n d p (i + 1)) in
      let a : 2 * suc m ≡ suc (suc (2 * m)) = omega arith in
      rw (k, a, drop-cons d x 0 (omega arith), drop-cons d (suc x) 0 (omega arith))
      (rw s₁ (ap (λ (t : List ℕ). get_or d x 0 ∷ get_or d (suc x) 0 ∷ t) (row f (i + 1) (omega arith) ∙ rw s₂ refl))))

  pub pairs_row : flat_map place_bytes (pairs_of n d p) ≡ take (2 * length (pairs_of n d p)) (drop (start n p + 12) d)
  unfolding pairs_of
  pairs_row = row max_pairs 0 refl

-- two bytes a pair
pub length_two : (ps : List Place) → length (flat_map place_bytes ps) ≡ 2 * length ps
unfolding flat_map
length_two [] = refl
length_two (p ∷ ps) = let i = length_two ps in omega arith

-- ---- the call
module _ (per : ℕ) (d : List ℕ) (p : Place) (o : List ℕ) where
  pub pairs_size : (length d ≡ 256 * sectors per → ⊥) → Hands (pair_bytes per d p) o o (Err OffSize)
  unfolding pair_bytes pairs_at sized
  pairs_size m = hands_refused (pair_bytes per d p) o OffSize (rw (ne_eqb _ _ m) refl) (Err OffSize) refl

  module _ (l : length d ≡ 256 * sectors per) (on : Bool) (w : on ≡ on_disk per p) where
    pub pairs_off : on ≡ false → Hands (pair_bytes per d p) o o (Err OffDisc)
    unfolding pair_bytes pairs_at sized
    pairs_off z = hands_refused (pair_bytes per d p) o OffDisc (rw (eq-eqb _ _ l, ← w, z) refl) (Err OffDisc) refl

    module _ (z : on ≡ true) (r : PairRun) (u : r ≡ run_of per d p) where
      -- the bytes
      gives : pair_bytes per d p ≡ Ok (flat_map place_bytes (pairs_of per d p))
      unfolding pair_bytes pairs_at sized
      gives = rw (eq-eqb _ _ l, ← w, z) refl

      inside : start per p + 256 ≤ length d
      inside = let s = number_small per p (sym w ∙ z) in omega arith

      counts : r.count ≡ length (pairs_of per d p)
      counts = ap (λ (y : PairRun). y.count) u

      long : length (flat_map place_bytes (pairs_of per d p)) ≡ 2 * r.count
      long = rw counts (length_two (pairs_of per d p))

      pub pairs_short : length o < 2 * r.count → Hands (pair_bytes per d p) o o (Err TrayShort)
      pairs_short m = hands_short (pair_bytes per d p) o (flat_map place_bytes (pairs_of per d p)) gives (rw long m) (Err TrayShort) refl

      pub pairs_done : (b : ℕ) (y o' : List ℕ) → b ≡ start per p → 2 * r.count ≤ length o → y ≡ take (2 * r.count) (drop (b + 12) d)
          → o' ≡ placed 0 y o → Hands (pair_bytes per d p) o o' (Ok (2 * r.count))
      pairs_done b y o' q m f g =
          let x : List ℕ = flat_map place_bytes (pairs_of per d p) in
          let k : y ≡ x = f ∙ rw (q, counts) (sym (pairs_row per d p inside)) in
          let t : Put 0 x o o' = placed_put (rw k at g) (omega (arith, long)) in
          hands_over_lem (pair_bytes per d p) o o' x gives (omega (arith, long)) (put_front t) (Ok (2 * r.count)) (rw long refl)

-- by the disk's own size
pub pairs_per : (d o o' : List ℕ) (r : Outcome ℕ) (p : Place) (n : ℕ) → n ≡ per_of d → Hands (pair_bytes n d p) o o' r → Hands (pair_bytes (per_of d) d p) o o' r
pairs_per d o o' r p n e q = rw e at q

pub ruleset pair_calls = (pairs_per, pairs_size, pairs_off, pairs_short, pairs_done, not-true, not-false, rules)
