-- Two disks that agree at some places, the VTOC among them: a search takes the same sectors on both, and what is marked, taken or written in both leaves them so.
-- Assumes nothing.
use mathlib.Core.Path.{◌≡◌, refl, sym, ap, subst, ◌∙◌}
use mathlib.Core.Bool.{Bool, true, false}
use mathlib.Core.Logic.{inl, inr}
use mathlib.Core.List.{List, [], ◌∷◌}
use mathlib.Core.Option.{Option}
use Prim.Native.Nat.{ℕ, zero, suc, ◌+◌, ◌*◌, ◌-◌, ◌/◌, ◌%◌, ◌<◌, ◌≤◌, min}
use native.Mathlib.Omega.{arith}
use lib.ListN.{length, get_or}
use Rattle.lists.specs.Every.{Every}
use Rattle.lists.specs.Fill.{put}
use Rattle.lists.proofs.Split.{by_lt}
use Rattle.lists.proofs.Put.{length_put}
use Rattle.lists.proofs.Every.{every_imp}
use Rattle.std.specs.Prelude.{Ok, Err}
use Rattle.outcome.specs.declared.Refusal.TheVariants.{NoSpace}
use Rattle.outcome.specs.Outcome.{Outcome, ◌>>=◌}
use Rattle.disk.specs.declared.Place.{Place}
use Rattle.disk.specs.Disk.{start, byte_of, sectors}
use Rattle.disk.specs.Vtoc.{vtoc, map_word}
use Rattle.disk.proofs.Places.{on_track, is_on}
use Rattle.files.specs.Contents.{max_pairs}
use Rattle.holders.specs.Holders.{free}
use Rattle.holders.proofs.Clean.{On}
use Rattle.amend.specs.Lines.{first_of, found}
use Rattle.amend.specs.Search.{Spot, spots, open_track, takable, seek, with_bit, marked, taken, take_one, freed}
use Rattle.amend.specs.Save.{Write, data_for, lists_for, take_data, take_parts, take_for, written}
use Rattle.amend.proofs.Puts.{put_off, put_in, sector_fits}
use Rattle.amend.proofs.Seeks.{first_same, spots_spotted, seek_given}
use Rattle.amend.proofs.Writes.{Whole}

-- ---- two disks of L bytes that agree at the places P
pub record Agree (L : ℕ) (P : ℕ → Type 0) (d e : List ℕ) : Type 0 where
  pub size_d : length d ≡ L
  pub size_e : length e ≡ L
  pub at : (i : ℕ) → P i → get_or e i 0 ≡ get_or d i 0

-- bytes put into both
pub agree_put : {L : ℕ} {P : ℕ → Type 0} (at : ℕ) (x d e : List ℕ) → at + length x ≤ L → Agree L P d e → Agree L P (put at x d) (put at x e)
agree_put {L} {P} at x d e f a =
    let u : length d ≡ L = a.size_d in
    let v : length e ≡ L = a.size_e in
    let fd : at + length x ≤ length d = omega arith in
    let fe : at + length x ≤ length e = omega arith in
    record {
      size_d = length_put at x d fd ∙ u;
      size_e = length_put at x e fe ∙ v;
      at = λ i p.
          by_lt i at (λ h. put_off at x e fe i (inl h) ∙ a.at i p ∙ sym (put_off at x d fd i (inl h)))
          (λ h.
          by_lt i (at + length x)
          (λ l.
          let j : ℕ = i - at in
          let q : i ≡ at + j = omega arith in
          ap (λ (k : ℕ). get_or (put at x e) k 0) q ∙ put_in at x e fe j (omega arith)
          ∙ sym (ap (λ (k : ℕ). get_or (put at x d) k 0) q ∙ put_in at x d fd j (omega arith)))
          (λ l. put_off at x e fe i (inr l) ∙ a.at i p ∙ sym (put_off at x d fd i (inr l))));
    }

-- two answers: refused alike, or the same value and disks that agree
abbrev pub Both : {A : Type 0} → ℕ → (ℕ → Type 0) → Outcome (A × List ℕ) → Outcome (A × List ℕ) → Type 0
Both L P (Err r) (Err q) = r ≡ q
Both L P (Err r) (Ok b) = ⊥
Both L P (Ok a) (Err q) = ⊥
Both L P (Ok a) (Ok b) = (a.0 ≡ b.0) × Agree L P a.1 b.1

-- one step after another
both_bind : {A B : Type 0} {L : ℕ} {P : ℕ → Type 0} (o w : Outcome (A × List ℕ)) (f g : A × List ℕ → Outcome (B × List ℕ)) → Both L P o w
    → ((x : A) (d e : List ℕ) → Agree L P d e → Both L P (f (x, d)) (g (x, e))) → Both L P (o >>= f) (w >>= g)
both_bind (Err r) (Err q) f g h k = h
both_bind (Err r) (Ok b) f g h k = absurd h
both_bind (Ok a) (Err q) f g h k = absurd h
both_bind {A} {B} {L} {P} (Ok a) (Ok b) f g h k = subst (λ (y : A). Both L P (f a) (g (y, b.1))) h.0 (k a.0 a.1 b.1 h.1)

module _ (n : ℕ) (some' : 0 < n) (P : ℕ → Type 0) (table : (k : ℕ) → k < 256 → P (start n vtoc + k)) where
  abbrev Two : List ℕ → List ℕ → Type 0
  Two = Agree (256 * sectors n) P

  module _ (d e : List ℕ) (a : Two d e) where
    -- the VTOC, and what is read of it
    byte_two : (k : ℕ) → k < 256 → byte_of n e vtoc k ≡ byte_of n d vtoc k
    byte_two k h = a.at (start n vtoc + k) (table k h)

    map_two : (t : ℕ) → t < 35 → map_word n e t ≡ map_word n d t
    map_two t h = let x = byte_two (56 + 4 * t) (omega arith) in let y = byte_two (57 + 4 * t) (omega arith) in λ i. 256 * x i + y i

    free_two : (q : Place) → q.track.0 < 35 → free n e q ≡ free n d q
    unfolding free
    free_two q h = rw (map_two q.track.0 h) refl

    takable_two : (later : Bool) (q : Place) → q.track.0 < 35 → takable n e later q ≡ takable n d later q
    unfolding takable open_track
    takable_two later q h = rw (free_two q h, byte_two 1 (omega arith)) refl

    spots_two : spots n e ≡ spots n d
    unfolding spots
    spots_two = rw (byte_two 48 (omega arith), byte_two 49 (omega arith)) refl

    seek_two : (later : Bool) → seek n e later ≡ seek n d later
    unfolding seek
    seek_two later =
        ap (λ (o : Option Spot). found o NoSpace)
        (ap (first_of (λ (q : Spot). takable n e later q.place)) spots_two
        ∙ first_same (λ (q : Spot). takable n e later q.place) (λ (q : Spot). takable n d later q.place)
        (every_imp (λ q s. takable_two later q.place (on_track n q.place s.0)) (spots_spotted n d some')))

    -- the VTOC is on the disk
    room : start n vtoc + 256 ≤ 256 * sectors n
    room = let f = sector_fits n d vtoc a.size_d (is_on n 17 0 (omega arith) some') in let l : length d ≡ 256 * sectors n = a.size_d in omega arith

    -- a sector marked, and taken
    marked_two : (v : ℕ) (p : Place) → p.track.0 < 35 → Two (marked n d v p) (marked n e v p)
    unfolding marked
    marked_two v p h =
        let k : ℕ = p.sector.0 + (16 - n) in
        let w : ℕ = with_bit (p.sector.0 + (16 - n)) v (map_word n d p.track.0) in
        let z : marked n e v p ≡ put (start n vtoc + (56 + 4 * p.track.0)) (w / 256 ∷ w % 256 ∷ []) e =
        ap (λ (m : ℕ). put (start n vtoc + (56 + 4 * p.track.0)) (with_bit k v m / 256 ∷ with_bit k v m % 256 ∷ []) e) (map_two p.track.0 h) in
        subst (λ (y : List ℕ). Two (marked n d v p) y) (sym z)
        (agree_put (start n vtoc + (56 + 4 * p.track.0)) (w / 256 ∷ w % 256 ∷ []) d e (let r = room in omega arith) a)

    taken_two : (q : Spot) → q.place.track.0 < 35 → Two (taken n d q) (taken n e q)
    unfolding taken
    taken_two q h =
        agree_put (start n vtoc + 48) (q.place.track.0 ∷ q.direction ∷ []) (marked n d 0 q.place) (marked n e 0 q.place) (let r = room in omega arith)
        (marked_two 0 q.place h)

  -- one sector, some data sectors, lists with their data, all for k bytes
  one_two : (later : Bool) (d e : List ℕ) → Two d e → Both (256 * sectors n) P (take_one n later d) (take_one n later e)
  unfolding take_one
  one_two later d e a = go (seek n d later) refl (seek n e later) (seek_two d e a later)
    where
      tracked : (q : Spot) → seek n d later ≡ Ok q → q.place.track.0 < 35
      tracked q h = on_track n q.place (seek_given n d some' later q h).on

      go : (o : Outcome Spot) → seek n d later ≡ o → (w : Outcome Spot) → w ≡ seek n d later
          → Both (256 * sectors n) P (o >>= λ q. Ok (q.place, taken n d q)) (w >>= λ q. Ok (q.place, taken n e q))
      go (Err r) h w k = rw (k ∙ h) refl
      go (Ok q) h w k = rw (k ∙ h) (refl, taken_two d e a q (tracked q h))

  data_two : (m : ℕ) (d e : List ℕ) → Two d e → Both (256 * sectors n) P (take_data n m d) (take_data n m e)
  unfolding take_data
  data_two zero d e a = (refl, a)
  data_two (suc m) d e a =
      both_bind (take_one n false d) (take_one n false e) _ _ (one_two false d e a)
      (λ p d₁ e₁ b. both_bind (take_data n m d₁) (take_data n m e₁) _ _ (data_two m d₁ e₁ b) (λ ps d₂ e₂ c. (refl, c)))

  parts_two : (k m : ℕ) (later : Bool) (d e : List ℕ) → Two d e → Both (256 * sectors n) P (take_parts n k m later d) (take_parts n k m later e)
  unfolding take_parts
  parts_two zero m later d e a = (refl, a)
  parts_two (suc k) m later d e a =
      both_bind (take_one n later d) (take_one n later e) _ _ (one_two later d e a)
      (λ p d₁ e₁ b.
      both_bind (take_data n (min max_pairs m) d₁) (take_data n (min max_pairs m) e₁) _ _ (data_two (min max_pairs m) d₁ e₁ b)
      (λ ps d₂ e₂ c.
      both_bind (take_parts n k (m - max_pairs) true d₂) (take_parts n k (m - max_pairs) true e₂) _ _ (parts_two k (m - max_pairs) true d₂ e₂ c)
      (λ gs d₃ e₃ f. (refl, f))))

  pub for_two : (k : ℕ) (d e : List ℕ) → Two d e → Both (256 * sectors n) P (take_for n k d) (take_for n k e)
  unfolding take_for
  for_two k d e a = parts_two (lists_for (data_for k)) (data_for k) false d e a

  -- sectors called free, and sectors written
  pub freed_two : {ps : List Place} → On n ps → (d e : List ℕ) → Two d e → Two (freed n ps d) (freed n ps e)
  unfolding freed
  freed_two Every.none d e a = a
  freed_two (Every.more {x = p} on o) d e a = freed_two o (marked n d 1 p) (marked n e 1 p) (marked_two d e a 1 p (on_track n p on))

  pub written_two : {ws : List Write} → Every (Whole n) ws → (d e : List ℕ) → Two d e → Two (written n ws d) (written n ws e)
  unfolding written
  written_two Every.none d e a = a
  written_two (Every.more {x = w} h o) d e a =
      written_two o (put (start n w.place) w.bytes d) (put (start n w.place) w.bytes e)
      (agree_put (start n w.place) w.bytes d e
      (let f = sector_fits n d w.place a.size_d h.on in
      let l : length d ≡ 256 * sectors n = a.size_d in
      let g : length w.bytes ≡ 256 = h.long in
      omega arith)
      a)
