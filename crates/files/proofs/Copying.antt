-- Copying a part of joined sectors, sector by sector. Assumes nothing.
use mathlib.Core.Path.{◌≡◌, refl, sym, ap, ◌∙◌}
use mathlib.Core.List.{List, [], ◌∷◌, ◌++◌, flat_map, append-nil, append_assoc}
use Prim.Native.Nat.{ℕ, zero, suc, ◌+◌, ◌-◌, ◌<◌, ◌≤◌}
use native.Mathlib.Omega.{arith}
use lib.ListN.{length, take, drop, length-append, length-take}
use lib.Seq.{take-nil, drop-nil}
use borrow.Author.Rules.{rules}
use Rattle.lists.specs.Fill.{placed}
use Rattle.lists.proofs.Chunks.{flat_map_append, flat_map_one}
use Rattle.lists.proofs.Put.{Put, put_none, put_is, put_more, placed_put}
use Rattle.disk.specs.declared.Place.{Place}
use Rattle.disk.specs.Disk.{start, bytes_of}
use Rattle.files.specs.declared.Spot.{Spot}
use Rattle.files.specs.Contents.{max_pairs, pair_at, pairs_of}
use Rattle.files.specs.Copies.{cut_of, Copied, Roomy, list_of}
use Rattle.files.proofs.Runs.{behind, stop, next, none_behind}

-- ---- a part of two lists
drop_two : (a : ℕ) (u v : List ℕ) → drop a (u ++ v) ≡ drop a u ++ drop (a - length u) v
drop_two zero u v = let e : 0 - length u ≡ 0 = omega arith in rw e refl
drop_two (suc a) [] v = let e : suc a - 0 ≡ suc a = omega arith in rw e refl
drop_two (suc a) (x ∷ u) v = let e : suc a - suc (length u) ≡ a - length u = omega arith in rw e (drop_two a u v)

take_two : (a : ℕ) (u v : List ℕ) → take a (u ++ v) ≡ take a u ++ take (a - length u) v
take_two zero u v = let e : 0 - length u ≡ 0 = omega arith in rw e refl
take_two (suc a) [] v = let e : suc a - 0 ≡ suc a = omega arith in rw e refl
take_two (suc a) (x ∷ u) v = let e : suc a - suc (length u) ≡ a - length u = omega arith in rw e (ap (λ (t : List ℕ). x ∷ t) (take_two a u v))

pub cut_two : (size skip : ℕ) (u v : List ℕ) → cut_of size skip (u ++ v) ≡ cut_of size skip u ++ cut_of (size - length (cut_of size skip u)) (skip - length u) v
cut_two size skip u v =
    let l : size - length (drop skip u) ≡ size - length (take size (drop skip u)) = rw length-take (omega arith) in
    rw (drop_two skip u v, take_two size (drop skip u) (drop (skip - length u) v), l) refl

-- a part is no longer than asked for
cut_short : (size skip : ℕ) (u : List ℕ) → length (cut_of size skip u) ≤ size
cut_short size skip u = rw length-take (omega arith)

-- ---- copies one after the other
module _ (size : ℕ) where
  pub copied_none : (s : Spot) (o : List ℕ) → Copied size [] s o o s
  copied_none s o =
      let e : cut_of (size - s.at) s.skip [] ≡ [] = rw (drop-nil {A = ℕ} s.skip, take-nil {A = ℕ} (size - s.at)) refl in
      record { puts = rw e (put_none s.at o).is; at = rw e (omega arith); skip = omega arith }

  -- what is left has room
  pub copied_roomy : (y o o' : List ℕ) (s r : Spot) → Roomy size s o → Copied size y s o o' r → Roomy size r o'
  copied_roomy y o o' s r m c =
      let l = cut_short (size - s.at) s.skip y in
      let p : Put s.at (cut_of (size - s.at) s.skip y) o o' = put_is c.puts (omega (arith, m.within, m.fits)) in
      record { within = omega (arith, c.at, m.within); fits = omega (arith, p.long, m.fits) }

  -- the space stays as long as it was
  pub copied_long : (y o o' : List ℕ) (s r : Spot) → Roomy size s o → Copied size y s o o' r → length o' ≡ length o
  copied_long y o o' s r m c =
      let l = cut_short (size - s.at) s.skip y in
      let p : Put s.at (cut_of (size - s.at) s.skip y) o o' = put_is c.puts (omega (arith, m.within, m.fits)) in
      p.long

  pub copied_more : (u v o₀ o o' : List ℕ) (s r q : Spot) → Roomy size s o₀ → Copied size u s o₀ o r → Copied size v r o o' q → Copied size (u ++ v) s o₀ o' q
  copied_more u v o₀ o o' s r q m a b =
      let x : List ℕ = cut_of (size - s.at) s.skip u in
      let l = cut_short (size - s.at) s.skip u in
      let k : size - r.at ≡ size - s.at - length x = omega (arith, a.at) in
      let y : List ℕ = cut_of (size - r.at) r.skip v in
      let e : cut_of (size - s.at) s.skip (u ++ v) ≡ x ++ y = cut_two (size - s.at) s.skip u v ∙ rw (a.skip, k) refl in
      let p : Put s.at x o₀ o = put_is a.puts (omega (arith, m.within, m.fits)) in
      let h = cut_short (size - r.at) r.skip v in
      let w : Put r.at y o o' = put_is b.puts (omega (arith, a.at, m.within, m.fits, p.long)) in
      let z : Put s.at (x ++ y) o₀ o' = put_more p w a.at (omega (arith, a.at, m.within, m.fits)) in
      record {
        puts = rw e z.is;
        at = rw (e, length-append) (omega (arith, a.at, b.at));
        skip = rw length-append (omega (arith, a.skip, b.skip));
      }

-- ---- one sector
pub less_none : (a b : ℕ) → a < b → 0 ≡ a - b
less_none a b h = omega arith

module _ (n : ℕ) (d : List ℕ) (q : Place) (size : ℕ) (s : Spot) (o : List ℕ) (m : Roomy size s o) where
  pub sector_within : s.at ≤ size
  sector_within = m.within

  module _ (b : ℕ) (y z : List ℕ) (e : b ≡ start n q) (h : y ≡ take 256 (drop b d)) (k : z ≡ take (size - s.at) (drop s.skip y)) where
    bytes : y ≡ bytes_of n d q
    unfolding bytes_of
    bytes = h ∙ rw e refl

    piece : z ≡ cut_of (size - s.at) s.skip (bytes_of n d q)
    piece = k ∙ rw bytes refl

    pub sector_copied : (o' : List ℕ) (f : ℕ) → o' ≡ placed s.at z o → f ≡ s.skip - length y
        → Copied size (bytes_of n d q) s o o' (record { at = s.at + length z; skip = f })
    sector_copied o' f u v =
        let l = cut_short (size - s.at) s.skip (bytes_of n d q) in
        let w : length z ≤ size - s.at = rw piece l in
        let p : Put s.at z o o' = placed_put u (omega (arith, m.within, m.fits)) in
        record { puts = p.is ∙ rw piece refl; at = rw piece refl; skip = v ∙ rw bytes refl }

pub ruleset sectors = (less_none, sector_within, sector_copied, rules)

-- ---- the pairs of a list
module _ (n : ℕ) (d : List ℕ) (g : Place → List ℕ) (p : Place) (size : ℕ) (s₀ : Spot) (o₀ : List ℕ) where
  -- what g gives of i pairs is copied
  pub record Pairs (i : ℕ) (s : Spot) (o : List ℕ) : Type 0 where
    pub count : i ≤ max_pairs
    pub done : List Place
    pub split : pairs_of n d p ≡ done ++ behind n d p i
    pub room : Roomy size s₀ o₀
    pub long : length o ≡ length o₀
    pub copied : Copied size (flat_map g done) s₀ o₀ o s

  pub pairs_none : Roomy size s₀ o₀ → Pairs 0 s₀ o₀
  unfolding pairs_of flat_map
  pairs_none m = record { count = omega arith; done = []; split = refl; room = m; long = refl; copied = copied_none size s₀ o₀ }

  module _ (i : ℕ) (s : Spot) (o : List ℕ) (c : Pairs i s o) where
    pub pairs_room : Roomy size s o
    pairs_room = copied_roomy size (flat_map g c.done) o₀ o s₀ s c.room c.copied

    ends : behind n d p i ≡ [] → Copied size (list_of n d g p) s₀ o₀ o s
    unfolding list_of
    ends e =
        let q : pairs_of n d p ≡ c.done = c.split ∙ ap (λ (y : List Place). c.done ++ y) e ∙ append-nil c.done in
        rw q c.copied

    pub pairs_stop : i < max_pairs → (q : Place) → q ≡ pair_at n d p i → q.track.0 ≡ 0 → Copied size (list_of n d g p) s₀ o₀ o s
    pairs_stop h q e z = ends (stop n d p i h q e z)

    pub pairs_full : max_pairs ≤ i → Copied size (list_of n d g p) s₀ o₀ o s
    pairs_full h = ends (none_behind n d p i h)

    pub pairs_more : i < max_pairs → (q : Place) → q ≡ pair_at n d p i → (q.track.0 ≡ 0 → ⊥) → (r : Spot) (o' : List ℕ) → Copied size (g q) s o o' r
        → Pairs (i + 1) r o'
    pairs_more h q e z r o' u =
        let k : behind n d p i ≡ q ∷ behind n d p (i + 1) = next n d p i h q e z in
        let f : flat_map g (c.done ++ (q ∷ [])) ≡ flat_map g c.done ++ g q =
        flat_map_append g c.done (q ∷ []) ∙ ap (λ (y : List ℕ). flat_map g c.done ++ y) (flat_map_one g q) in
        record {
          count = omega arith;
          done = c.done ++ (q ∷ []);
          split = c.split ∙ ap (λ (y : List Place). c.done ++ y) k ∙ sym (append_assoc c.done (q ∷ []) (behind n d p (i + 1)));
          room = c.room;
          long = copied_long size (g q) o o' s r pairs_room u ∙ c.long;
          copied = rw f (copied_more size (flat_map g c.done) (g q) o₀ o o' s₀ s r c.room c.copied u);
        }

pub ruleset pairings = (pairs_none, pairs_room, pairs_stop, pairs_full, pairs_more, rules)
