-- The map with one bit changed, and last track and direction written: what else the disk reads stays. Assumes nothing.
use mathlib.Core.Path.{◌≡◌, refl, ap, ◌∙◌}
use mathlib.Core.Bool.{true, false}
use mathlib.Core.Logic.{◌⊎◌, inl, inr, ⊎_elim}
use mathlib.Core.List.{List, [], ◌∷◌}
use Prim.Native.Nat.{ℕ, zero, suc, ◌+◌, ◌*◌, ◌-◌, ◌/◌, ◌%◌, ◌<◌, ◌≤◌}
use native.Mathlib.Omega.{arith}
use lib.ListN.{length, get_or}
use lib.Dec.{eqb}
use borrow.Author.Tests.{eqb-true, eqb-false}
use Rattle.lists.specs.Fill.{Bytes, put}
use Rattle.lists.proofs.Split.{by_lt, by_test}
use Rattle.lists.proofs.Put.{length_put}
use Rattle.disk.specs.declared.Place.{Place}
use Rattle.disk.specs.Disk.{start, number_of, byte_of, bytes_of, sectors, on_disk}
use Rattle.disk.specs.Vtoc.{vtoc, map_word}
use Rattle.disk.proofs.Places.{on_track, on_sector, is_on}
use Rattle.holders.specs.Holders.{free}
use Rattle.amend.specs.Search.{Spot, with_bit, marked, taken}
use Rattle.amend.proofs.Puts.{put_off, put_in, bytes_put, sector_ext, sector_fits}
use Rattle.amend.proofs.Bits.{with_same, with_else, with_small}

-- two bytes are bytes
pub bytes_two : (a b : ℕ) → a < 256 → b < 256 → Bytes (a ∷ b ∷ [])
bytes_two a b h l zero = h
bytes_two a b h l (suc zero) = l
bytes_two a b h l (suc (suc k)) = omega arith

-- e differs from d in the map, in last track and in direction alone
pub record Remap (n : ℕ) (d e : List ℕ) : Type 0 where
  pub size : length e ≡ length d
  pub bytes : Bytes d → Bytes e
  pub head : (k : ℕ) → k < 48 → byte_of n e vtoc k ≡ byte_of n d vtoc k
  pub table : (k : ℕ) → 50 ≤ k → k < 56 → byte_of n e vtoc k ≡ byte_of n d vtoc k
  pub tail : (k : ℕ) → 196 ≤ k → byte_of n e vtoc k ≡ byte_of n d vtoc k
  pub rest : (p : Place) → (number_of n p ≡ number_of n vtoc → ⊥) → bytes_of n e p ≡ bytes_of n d p

-- nothing was changed, and one change after the other
pub remap_none : (n : ℕ) (d : List ℕ) → Remap n d d
remap_none n d = record { size = refl; bytes = λ b. b; head = λ k h. refl; table = λ k h l. refl; tail = λ k h. refl; rest = λ p h. refl }

pub remap_more : {n : ℕ} {d e f : List ℕ} → Remap n d e → Remap n e f → Remap n d f
remap_more a b =
    record {
      size = b.size ∙ a.size;
      bytes = λ h. b.bytes (a.bytes h);
      head = λ k h. b.head k h ∙ a.head k h;
      table = λ k h l. b.table k h l ∙ a.table k h l;
      tail = λ k h. b.tail k h ∙ a.tail k h;
      rest = λ p h. b.rest p h ∙ a.rest p h;
    }

-- ---- a disk of its size, of 1 to 16 sectors a track
module _ (n : ℕ) (some : 0 < n) (few : n ≤ 16) (d : List ℕ) (size : length d ≡ 256 * sectors n) where
  fits : start n vtoc + 256 ≤ length d
  fits = sector_fits n d vtoc size (is_on n 17 0 (omega arith) some)

  -- two bytes put into the VTOC at c
  module _ (c a b : ℕ) (l : c + 2 ≤ 256) where
    room : start n vtoc + c + 2 ≤ length d
    room = omega (arith, fits)

    vtoc_off : (k : ℕ) → (k < c) ⊎ (c + 2 ≤ k) → byte_of n (put (start n vtoc + c) (a ∷ b ∷ []) d) vtoc k ≡ byte_of n d vtoc k
    vtoc_off k h =
        put_off (start n vtoc + c) (a ∷ b ∷ []) d room (start n vtoc + k) (⊎_elim (λ z. inl (omega arith)) (λ z. inr (omega arith)) h)

    vtoc_first : byte_of n (put (start n vtoc + c) (a ∷ b ∷ []) d) vtoc c ≡ a
    vtoc_first =
        let e : start n vtoc + c ≡ start n vtoc + c + 0 = omega arith in
        ap (λ (i : ℕ). get_or (put (start n vtoc + c) (a ∷ b ∷ []) d) i 0) e ∙ put_in (start n vtoc + c) (a ∷ b ∷ []) d room 0 (omega arith)

    vtoc_second : byte_of n (put (start n vtoc + c) (a ∷ b ∷ []) d) vtoc (c + 1) ≡ b
    vtoc_second =
        let e : start n vtoc + (c + 1) ≡ start n vtoc + c + 1 = omega arith in
        ap (λ (i : ℕ). get_or (put (start n vtoc + c) (a ∷ b ∷ []) d) i 0) e ∙ put_in (start n vtoc + c) (a ∷ b ∷ []) d room 1 (omega arith)

    vtoc_remap : (c ≡ 48) ⊎ ((56 ≤ c) × (c + 2 ≤ 196)) → (Bytes d → (a < 256) × (b < 256)) → Remap n d (put (start n vtoc + c) (a ∷ b ∷ []) d)
    vtoc_remap w s =
        record {
          size = length_put (start n vtoc + c) (a ∷ b ∷ []) d room;
          bytes = λ h. bytes_put (start n vtoc + c) (a ∷ b ∷ []) d (bytes_two a b (s h).0 (s h).1) h;
          head = λ k h. vtoc_off k (⊎_elim (λ z. inl (omega arith)) (λ z. inl (omega arith)) w);
          table = λ k h m. vtoc_off k (⊎_elim (λ z. inr (omega arith)) (λ z. inl (omega arith)) w);
          tail = λ k h. vtoc_off k (⊎_elim (λ z. inr (omega arith)) (λ z. inr (omega arith)) w);
          rest = λ p h.
              sector_ext n d (put (start n vtoc + c) (a ∷ b ∷ []) d) p (length_put (start n vtoc + c) (a ∷ b ∷ []) d room)
              (λ k m.
              put_off (start n vtoc + c) (a ∷ b ∷ []) d room (start n p + k)
              (by_lt (number_of n p) (number_of n vtoc) (λ y. inl (omega arith))
              (λ y. by_lt (number_of n vtoc) (number_of n p) (λ z. inr (omega arith)) (λ z. absurd (h (omega arith))))));
        }

  -- ---- one bit of the map
  module _ (v : ℕ) (bitv : v < 2) (p : Place) (on : on_disk n p ≡ true) where
    w : ℕ
    w = with_bit (p.sector.0 + (16 - n)) v (map_word n d p.track.0)

    small : Bytes d → w < 65536
    unfolding w
    small b =
        let h = on_sector n p on in
        let low = b (start n vtoc + (57 + 4 * p.track.0)) in
        let high = b (start n vtoc + (56 + 4 * p.track.0)) in
        with_small 16 (p.sector.0 + (16 - n)) v (map_word n d p.track.0) (omega arith) (omega arith) bitv

    pub marked_remap : Remap n d (marked n d v p)
    unfolding marked w
    marked_remap =
        let h = on_track n p on in
        vtoc_remap (56 + 4 * p.track.0) (w / 256) (w % 256) (omega arith) (inr (omega arith, omega arith)) (λ b. let z = small b in (omega arith, omega arith))

    -- the number of the track's two bytes
    map_same : map_word n (marked n d v p) p.track.0 ≡ w
    unfolding marked w
    map_same =
        let h = on_track n p on in
        let e : 57 + 4 * p.track.0 ≡ 56 + 4 * p.track.0 + 1 = omega arith in
        let a = vtoc_first (56 + 4 * p.track.0) (w / 256) (w % 256) (omega arith) in
        let b : byte_of n (marked n d v p) vtoc (57 + 4 * p.track.0) ≡ w % 256 =
        ap (byte_of n (marked n d v p) vtoc) e ∙ vtoc_second (56 + 4 * p.track.0) (w / 256) (w % 256) (omega arith) in
        let c : map_word n (marked n d v p) p.track.0 ≡ 256 * (w / 256) + w % 256 = λ i. 256 * a i + b i in
        c ∙ omega arith

    map_else : (u : ℕ) → (u ≡ p.track.0 → ⊥) → map_word n (marked n d v p) u ≡ map_word n d u
    unfolding marked w
    map_else u h =
        let l = on_track n p on in
        let far : (k : ℕ) → (k ≡ 56 + 4 * u) ⊎ (k ≡ 57 + 4 * u) → (k < 56 + 4 * p.track.0) ⊎ (56 + 4 * p.track.0 + 2 ≤ k) =
        λ k e. by_lt u p.track.0 (λ y. inl (⊎_elim (λ z. omega arith) (λ z. omega arith) e))
        (λ y. by_lt p.track.0 u (λ z. inr (⊎_elim (λ x. omega arith) (λ x. omega arith) e)) (λ z. absurd (h (omega arith)))) in
        rw (vtoc_off (56 + 4 * p.track.0) (w / 256) (w % 256) (omega arith) (56 + 4 * u) (far _ (inl refl)), vtoc_off (56 + 4 * p.track.0) (w / 256) (w % 256) (omega arith) (57 + 4 * u) (far _ (inr refl))) refl

    -- the sector is as it was made
    pub marked_same : free n (marked n d v p) p ≡ eqb v 1
    unfolding free w
    marked_same = rw (map_same, with_same (p.sector.0 + (16 - n)) v (map_word n d p.track.0) bitv) refl

    -- .. and any other as it was
    pub marked_else : (q : Place) → (number_of n q ≡ number_of n p → ⊥) → free n (marked n d v p) q ≡ free n d q
    unfolding free w
    marked_else q h =
        by_test (eqb q.track.0 p.track.0)
        (λ e.
        let z : q.track.0 ≡ p.track.0 = eqb-true _ _ e in
        rw (z, map_same, with_else (q.sector.0 + (16 - n)) (p.sector.0 + (16 - n)) v (map_word n d p.track.0) (λ y. h (rw z (omega arith))) bitv) refl)
        (λ e. rw (map_else q.track.0 (eqb-false _ _ e)) refl)

  -- last track and direction
  pub last_free : (a b : ℕ) (q : Place) → free n (put (start n vtoc + 48) (a ∷ b ∷ []) d) q ≡ free n d q
  unfolding free
  last_free a b q =
      rw (vtoc_off 48 a b (omega arith) (56 + 4 * q.track.0) (inr (omega arith)), vtoc_off 48 a b (omega arith) (57 + 4 * q.track.0) (inr (omega arith))) refl

  pub last_remap : (a b : ℕ) → a < 256 → b < 256 → Remap n d (put (start n vtoc + 48) (a ∷ b ∷ []) d)
  last_remap a b h l = vtoc_remap 48 a b (omega arith) (inl refl) (λ z. (h, l))

-- ---- a sector taken
module _ (n : ℕ) (some : 0 < n) (few : n ≤ 16) (d : List ℕ) (size : length d ≡ 256 * sectors n) (q : Spot) (on : on_disk n q.place ≡ true) where
  mark : Remap n d (marked n d 0 q.place)
  mark = marked_remap n some few d size 0 (omega arith) q.place on

  size' : length (marked n d 0 q.place) ≡ 256 * sectors n
  size' = mark.size ∙ size

  pub taken_remap : q.direction < 256 → Remap n d (taken n d q)
  unfolding taken
  taken_remap h =
      let t = on_track n q.place on in
      remap_more mark (last_remap n some few (marked n d 0 q.place) size' q.place.track.0 q.direction (omega arith) h)

  pub taken_same : free n (taken n d q) q.place ≡ false
  unfolding taken
  taken_same = last_free n some few (marked n d 0 q.place) size' _ _ q.place ∙ marked_same n some few d size 0 (omega arith) q.place on

  pub taken_else : (p : Place) → (number_of n p ≡ number_of n q.place → ⊥) → free n (taken n d q) p ≡ free n d p
  unfolding taken
  taken_else p h = last_free n some few (marked n d 0 q.place) size' _ _ p ∙ marked_else n some few d size 0 (omega arith) q.place on p h
