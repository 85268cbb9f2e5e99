-- One pair of a list, and what is answered for a run: one law for each return. Assumes nothing.
use mathlib.Core.Path.{◌≡◌, refl, sym, ap, ◌∙◌}
use mathlib.Core.Bool.{Bool, true, false}
use mathlib.Core.List.{List, map}
use Prim.Native.Nat.{ℕ, ◌+◌, ◌*◌, ◌<◌, ◌≤◌}
use native.Mathlib.Omega.{arith}
use lib.Dec.{leb}
use lib.ListN.{length, get_or, set, length-map, get_or-map}
use borrow.Author.Tests.{eq-eqb, ne_eqb, lt-ltb, le-ltb, le-leb, lt-leb, not-true, not-false}
use borrow.Author.Rules.{rules}
use Rattle.lists.specs.Fill.{below}
use Rattle.lists.specs.Select.{take_while}
use Rattle.lists.proofs.Laws.{get_or_tab}
use Rattle.lists.proofs.Select.{take_while_short, take_while_get_d, length_onward}
use Rattle.std.specs.Prelude.{Ok, Err}
use Rattle.outcome.specs.declared.Refusal.{Refusal}
use Rattle.outcome.specs.declared.Refusal.TheVariants.{OffSize, OffDisc, TrayShort}
use Rattle.outcome.specs.Outcome.{Outcome, ◌>>=◌, ◌>>◌, require, answer_of, left_by, Hands}
use Rattle.outcome.proofs.Outcome.{refused_given, then_gives}
use Rattle.disk.specs.declared.Place.{Place}
use Rattle.disk.specs.Disk.{per_of, sectors, on_disk, sized}
use Rattle.files.specs.declared.PairRun.{PairRun}
use Rattle.files.specs.Contents.{max_pairs, is_pair, pair_at, pairs_of, pairs_at}
use Rattle.files.specs.Threads.{run_of}
use Rattle.pairs.specs.declared.TrackSectorPair.{TrackSectorPair}
use Rattle.pairs.specs.Run.{as_pair, pair_in, pair_run, fitting}
use Rattle.pairs.proofs.Storing.{hands_over, stored, stored_more, stored_all, count_is, count_fits}

module _ (per : ℕ) (d : List ℕ) (p : Place) where
  -- ---- a pair
  pub pair_here : (i : ℕ) (q : Place) → i < max_pairs → q ≡ pair_at per d p i → as_pair q ≡ pair_in per d p i
  pair_here i q h e = rw (lt-ltb i max_pairs h, e) refl

  -- ---- the answer
  module _ (room : ℕ) where
    pub answer_size : (h : Outcome ℕ) → (length d ≡ 256 * sectors per → ⊥) → h ≡ Err OffSize → h ≡ answer_of (fitting room (pair_run per d p))
    unfolding pair_run pairs_at sized
    answer_size h m e = rw (ne_eqb _ _ m) e

    module _ (l : length d ≡ 256 * sectors per) (on : Bool) (w : on ≡ on_disk per p) where
      pub answer_off : (h : Outcome ℕ) → on ≡ false → h ≡ Err OffDisc → h ≡ answer_of (fitting room (pair_run per d p))
      unfolding pair_run pairs_at sized
      answer_off h z e = rw (eq-eqb _ _ l, ← w, z) e

      module _ (z : on ≡ true) (r : PairRun) (u : r ≡ run_of per d p) where
        gives : pair_run per d p ≡ Ok (map as_pair (pairs_of per d p))
        unfolding pair_run pairs_at sized
        gives = rw (eq-eqb _ _ l, ← w, z) refl

        long : length (map as_pair (pairs_of per d p)) ≡ r.count
        long = length-map (pairs_of per d p) as_pair ∙ sym (ap (λ (y : PairRun). y.count) u)

        pub answer_short : (h : Outcome ℕ) → room < r.count → h ≡ Err TrayShort → h ≡ answer_of (fitting room (pair_run per d p))
        answer_short h m e = rw (gives, long, lt-leb _ _ m) e

        pub answer_done : (h : Outcome ℕ) → r.count ≤ room → h ≡ Ok r.count → h ≡ answer_of (fitting room (pair_run per d p))
        answer_done h m e = rw (gives, long, le-leb _ _ m, long) e

-- what is handed over at place i is pair i
module _ (per : ℕ) (d : List ℕ) (p : Place) (i : ℕ) where
  -- the pairs, one by one
  pub pair_of : (ps : List Place) → ps ≡ pairs_of per d p → i < length (map as_pair ps) → pair_in per d p i ≡ get_or (map as_pair ps) i (as_pair (pair_at per d p 0))
  unfolding pairs_of
  pair_of ps e h =
      let z : Place = pair_at per d p 0 in
      let l : i < length (take_while is_pair (map (pair_at per d p) (below max_pairs))) = rw (e, length-map) at h in
      let m : i < max_pairs = omega (arith, take_while_short is_pair (map (pair_at per d p) (below max_pairs)), length_onward (pair_at per d p) max_pairs) in
      let q : get_or ps i z ≡ pair_at per d p i =
      rw e (take_while_get_d is_pair z (map (pair_at per d p) (below max_pairs)) i l ∙ get_or-map (pair_at per d p) (below max_pairs) i 0 ∙ ap (pair_at per d p) (get_or_tab (λ k. k) max_pairs i 0 m)) in
      sym (pair_here per d p i (pair_at per d p i) m refl) ∙ ap as_pair (sym q) ∙ sym (get_or-map as_pair ps i z)

  given_pairs : (ps : List Place) → pairs_at per d p ≡ Ok ps → ps ≡ pairs_of per d p
  unfolding pairs_at
  given_pairs ps e = let t = (then_gives (sized per d >> require (on_disk per p) OffDisc) (Ok (pairs_of per d p)) ps e).1 in cc

  pub pair_is : (n : ℕ) → i < length (hands_over (fitting n (pair_run per d p))) → pair_in per d p i ≡ get_or (hands_over (fitting n (pair_run per d p))) i (as_pair (pair_at per d p 0))
  unfolding pair_run
  pair_is n h = go (pairs_at per d p) given_pairs h
    where
      fits : (ps : List Place) (t : Bool) → ps ≡ pairs_of per d p → i < length (hands_over (require t TrayShort >> Ok (map as_pair ps)))
          → pair_in per d p i ≡ get_or (hands_over (require t TrayShort >> Ok (map as_pair ps))) i (as_pair (pair_at per d p 0))
      fits ps true e h = pair_of ps e h
      fits ps false e h = absurd (omega arith)

      go : (o : Outcome (List Place)) → ((ps : List Place) → o ≡ Ok ps → ps ≡ pairs_of per d p) → i < length (hands_over (fitting n (o >>= λ ps. Ok (map as_pair ps))))
          → pair_in per d p i ≡ get_or (hands_over (fitting n (o >>= λ ps. Ok (map as_pair ps)))) i (as_pair (pair_at per d p 0))
      go (Err r) k h = absurd (omega arith)
      go (Ok ps) k h = fits ps (leb (length (map as_pair ps)) n) (k ps refl) h

-- ---- the loop that stores them, for a run that stood as ys
module _ (d : List ℕ) (p : Place) (ys : List TrackSectorPair) where
  -- what is stored
  abbrev pub all_pairs : Outcome (List TrackSectorPair)
  all_pairs = fitting (length ys) (pair_run (per_of d) d p)

  -- a refusal leaves the run as it was
  pub stored_none : (r : Refusal) → Err r ≡ answer_of all_pairs → Hands (pair_run (per_of d) d p) ys ys (Err r)
  stored_none r e = record { answer = e; left = go all_pairs e }
    where
      go : (o : Outcome (List TrackSectorPair)) → Err r ≡ answer_of o → ys ≡ left_by o ys
      go (Err q) h = refl
      go (Ok w) h = absurd (refused_given h)

  module _ (i n : ℕ) (run : List TrackSectorPair) (e : Ok n ≡ answer_of all_pairs) (q : run ≡ stored i (hands_over all_pairs) ys) where
    -- one pair more
    pub stored_pair : (r : TrackSectorPair) → i < n → r ≡ pair_in (per_of d) d p i → set run i r ≡ stored (i + 1) (hands_over all_pairs) ys
    stored_pair r l u =
        let m : i < length (hands_over all_pairs) = omega (arith, count_is n all_pairs e) in
        rw q
        (stored_more i (hands_over all_pairs) ys (count_fits (length ys) (pair_run (per_of d) d p)) (as_pair (pair_at (per_of d) d p 0)) r m (u ∙ pair_is (per_of d) d p i (length ys) m))

    -- all of them
    pub stored_run : i ≡ n → Hands (pair_run (per_of d) d p) ys run (Ok n)
    stored_run l = record { answer = e; left = q ∙ stored_all i n all_pairs ys e l }

pub ruleset answers = (answer_size, answer_off, answer_short, answer_done, not-true, not-false, rules)
