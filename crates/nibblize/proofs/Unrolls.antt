-- A stream of the sector writings of one disk unrolls to that disk: any order, any gaps free of D5h, repetitions (Req 14). Assumes nothing.
use Rattle.std.specs.Prelude.{Ok}
use Rattle.outcome.specs.Outcome.{Outcome}
use mathlib.Core.Path.{◌≡◌, refl, ap, ◌∙◌}
use mathlib.Core.Logic.{⊎_elim, inl, inr}
use mathlib.Core.Bool.{Bool, true, false, cond, ◌&&◌, and-eq-true_iff}
use mathlib.Core.List.{List, [], ◌∷◌, map}
use Prim.Native.Nat.{ℕ, zero, suc, ◌+◌, ◌*◌, ◌/◌, ◌%◌, ◌<◌, ◌≤◌}
use native.Mathlib.Omega.{arith}
use borrow.Author.Tests.{eq-eqb, le-ltb, eqb-true}
use lib.Dec.{eqb}
use lib.ListN.{length, take, drop, length-append, length-drop}
use lib.Seq.{length-take-le}
use Rattle.lists.specs.Every.{Every}
use Rattle.lists.specs.Fill.{Bytes}
use Rattle.lists.specs.Select.{all, any, among}
use Rattle.lists.proofs.Among.{among_cases, among_here, among_there, unlike}
use Rattle.lists.proofs.Bounds.{bytes_take, bytes_drop}
use Rattle.lists.proofs.Every.{every_both, map_every}
use Rattle.disk.specs.Disk.{place, bytes_of}
use Rattle.nibble.specs.Nibble.{encode, decode}
use Rattle.nibble.proofs.RoundTrip.{round_trip, sum}
use Rattle.fields.specs.declared.Edition.TheVariants.{Sixteen}
use Rattle.fields.specs.Editions.{per_track, interleave, dos_sector, sum_of, data_of}
use Rattle.fields.specs.Search.{Free}
use Rattle.fields.specs.Fields.{Field, fields}
use Rattle.fields.proofs.Numbers.{way_back, interleave_lt, way_lt, way_back_lem}
use Rattle.fields.proofs.Scanning.{field, fields_none}
use Rattle.stream.specs.Stream.{sum_ok, sums_ok, same_key, firsts, is_stranger, first_volume, bytes_at, image}
use Rattle.stream.proofs.Sizes.{Sized}
use Rattle.stream.proofs.Joins.{each_joins}
use Rattle.nibblize.specs.Nibblize.{held}
use Rattle.nibblize.specs.Pieces.{Piece as Keyed, laid as keyed_laid, Sound as KeyedSound, Has}
use Rattle.nibblize.specs.Layouts.{Piece, writing_of, laid, length_of_parts, order_of, FreeGaps, Covers, MadeOf}
use Rattle.nibblize.specs.Claims.{Flat}
use Rattle.nibblize.proofs.Sectors.{fields_spaced, length_sector}

-- ---- the search
-- both arms are y
cond_is : {A : Type 0} (t : Bool) (a b y : A) → (t ≡ true → a ≡ y) → b ≡ y → cond t a b ≡ y
cond_is true a b y f e = f refl
cond_is false a b y f e = e

-- a field more, or not
sums_cond : (t : Bool) (f : Field) (r : List Field) → sum_ok Sixteen f.nibbles ≡ true → sums_ok Sixteen r ≡ true → sums_ok Sixteen (cond t r (f ∷ r)) ≡ true
unfolding all
sums_cond true f r e q = q
sums_cond false f r e q = rw (e, q) refl

-- a piece that can be read: its gaps are free of D5h, and it is one of the 560
abbrev Sound : Piece → Type 0
Sound x = FreeGaps x × (x.number < 560)

module _ (v : ℕ) (d : List ℕ) where
  -- DOS sector s of track t
  abbrev sector : ℕ → ℕ → List ℕ
  sector t s = bytes_of 16 d (place t s)

  -- the field of a piece
  field_of : Piece → Field
  field_of x = field v (x.number / 16) (x.number % 16) (encode (held d x.number))

  -- the stream is as long as its parts together
  pub length_laid : (ps : List Piece) (last : List ℕ) → length (laid v d ps last) ≡ length_of_parts ps + length last
  unfolding laid length_of_parts writing_of
  length_laid [] last = omega arith
  length_laid (x ∷ ps) last = rw (length-append, length-append, length_sector) (omega (arith, length_laid ps last))

  -- there are no more pieces than bytes
  few : (ps : List Piece) → length ps ≤ length_of_parts ps
  unfolding length_of_parts
  few [] = omega arith
  few (x ∷ ps) = omega (arith, few ps)

  -- each piece is of the volume and on the disk
  no_strangers : {ps : List Piece} → Every Sound ps → any (is_stranger Sixteen v) (map field_of ps) ≡ false
  unfolding any field_of per_track
  no_strangers Every.none = refl
  no_strangers (Every.more {x} s ss) =
      rw (eq-eqb v v refl, le-ltb 34 (x.number / 16) (omega (arith, s.1)), le-ltb 15 (x.number % 16) (omega arith)) (no_strangers ss)

  -- the first field has the volume of all
  one_volume : (ps : List Piece) → Every Sound ps → any (is_stranger Sixteen (first_volume (map field_of ps))) (map field_of ps) ≡ false
  unfolding any field_of per_track
  one_volume [] s = refl
  one_volume (x ∷ ps) s = no_strangers s

  module _ (hv : v < 256) (l : length d ≡ 143360) (b : Bytes d) where
    -- a sector of the disk
    sized_sector : (t s : ℕ) → t < 35 → s < 16 → Sized 256 (sector t s)
    unfolding bytes_of
    sized_sector t s ht hs =
        let n : ℕ = 256 * (16 * t + s) in
        (length-take-le 256 (drop n d) (rw length-drop (omega arith)), bytes_take 256 (drop n d) (bytes_drop n d b))

    -- the same by its number
    sized_held : (k : ℕ) → k < 560 → Sized 256 (held d k)
    unfolding held
    sized_held k h = sized_sector (k / 16) (interleave (k % 16)) (omega arith) (interleave_lt (k % 16) (omega arith))

    -- fuel for each piece is enough
    scan : (fuel : ℕ) (ps : List Piece) (last : List ℕ) → length ps ≤ fuel → Every Sound ps → Free last
        → fields Sixteen fuel (laid v d ps last) ≡ Ok (map field_of ps)
    unfolding laid field_of writing_of
    scan fuel [] last h s e = fields_none Sixteen fuel last e
    scan zero (x ∷ ps) last h s e = absurd (omega arith)
    scan (suc fuel) (x ∷ ps) last h (Every.more s ss) e =
        fields_spaced fuel v (x.number / 16) (x.number % 16) x.before x.between (held d x.number) (laid v d ps last)
        s.0.0 s.0.1 hv (omega (arith, s.1)) (omega arith)
        ∙ rw (scan fuel ps last (omega arith) ss e) refl

    -- the data sums are right
    sums : {ps : List Piece} (seen : List Field) → Every Sound ps → sums_ok Sixteen (firsts seen (map field_of ps)) ≡ true
    unfolding firsts all field_of sum_of
    sums seen Every.none = refl
    sums seen (Every.more {x} {xs} s ss) =
        let z = sized_held x.number s.1 in
        sums_cond (any (same_key (field_of x)) seen) (field_of x) (firsts (field_of x ∷ seen) (map field_of xs))
        (eq-eqb _ 0 (sum _ z.1 z.0)) (sums (field_of x ∷ seen) ss)

    -- a field that fits a track and a DOS sector holds that sector
    fits : (t s k : ℕ) → t < 35 → s < 16 → k / 16 ≡ t → interleave (k % 16) ≡ s → ◌≡◌ {A = Outcome (List ℕ)} (Ok (decode (encode (held d k)))) (Ok (sector t s))
    unfolding held
    fits t s k ht hs et es = let z = sized_sector t s ht hs in rw (et, es) (ap Ok (round_trip (sector t s) z.1 z.0))

    -- one is found where a number that fits is among the pieces
    found : (t s j : ℕ) → t < 35 → s < 16 → j / 16 ≡ t → interleave (j % 16) ≡ s
        → (ps : List Piece) → among j (order_of ps) ≡ true → bytes_at Sixteen t s (map field_of ps) ≡ Ok (sector t s)
    unfolding bytes_at field_of dos_sector data_of among
    found t s j ht hs et es [] m = absurd (unlike refl m)
    found t s j ht hs et es (x ∷ ps) m =
        ⊎_elim (λ e. rw (← e, eq-eqb _ _ et, eq-eqb _ _ es) (fits t s j ht hs et es))
        (λ i.
        cond_is (eqb (x.number / 16) t && eqb (interleave (x.number % 16)) s) _ _ _
        (λ c. let p = (and-eq-true_iff _ _).0 c in fits t s x.number ht hs (eqb-true _ _ p.0) (eqb-true _ _ p.1))
        (found t s j ht hs et es ps i))
        (among_cases j x.number (order_of ps) m)

    -- the 256 bytes number k of the disk, from the field of their track and DOS sector
    found_at : (ps : List Piece) → Covers (order_of ps)
        → (k : ℕ) → k < 560 → bytes_at Sixteen (k / 16) (k % 16) (map field_of ps) ≡ Ok (take 256 (drop (256 * k) d))
    unfolding bytes_of
    found_at ps c k h =
        let w : ℕ = way_back (k % 16) in
        let j : ℕ = 16 * (k / 16) + w in
        let hw : w < 16 = way_lt (k % 16) (omega arith) in
        let hj : j < 560 = omega arith in
        let et : j / 16 ≡ k / 16 = omega arith in
        let ew : j % 16 ≡ w = omega arith in
        let ek : 16 * (k / 16) + k % 16 ≡ k = omega arith in
        found (k / 16) (k % 16) j (omega arith) (omega arith) et (ap interleave ew ∙ way_back_lem (k % 16) (omega arith)) ps (c.each j hj)
        ∙ rw ek refl

    -- every sector is among the pieces: the stream unrolls to d
    unrolls_laid : (ps : List Piece) (last : List ℕ) → Every Sound ps → Free last → Covers (order_of ps)
        → image Sixteen (laid v d ps last) ≡ Ok d
    unfolding image per_track
    unrolls_laid ps last s e c =
        rw (scan (length (laid v d ps last)) ps last (omega (arith, length_laid ps last, few ps)) s e, one_volume ps s, sums [] s)
        (each_joins (λ k. bytes_at Sixteen (k / 16) (k % 16) (map field_of ps)) (λ k. k) 560 d l (found_at ps c))

-- a stream so made unrolls to the disk
pub unrolls_made : (d s : List ℕ) → Flat d → MadeOf d s → image Sixteen s ≡ Ok d
unrolls_made d s (l, b) (y, g, c, e) =
    ap (image Sixteen) e
    ∙ unrolls_laid y.volume d g.byte l b y.pieces y.behind (every_both g.gaps (map_every (λ (x : Piece). x.number) y.pieces c.numbers)) g.last c

-- ---- the same of pieces with their keys
-- a piece, as a duplicator's
turned : Keyed → Piece
turned x = record { before = x.gap; number = x.key; between = x.middle }

-- they make the same stream
turned_laid : (v : ℕ) (d : List ℕ) (ps : List Keyed) (last : List ℕ) → keyed_laid v d ps last ≡ laid v d (map turned ps) last
unfolding keyed_laid laid writing_of turned
turned_laid v d [] last = refl
turned_laid v d (x ∷ ps) last = rw (turned_laid v d ps last) refl

turned_sound : (ps : List Keyed) → KeyedSound ps → Every Sound (map turned ps)
unfolding turned
turned_sound [] s = Every.none
turned_sound (x ∷ ps) s = Every.more ((s.0, s.1), s.2) (turned_sound ps s.3)

turned_numbers : (ps : List Keyed) → KeyedSound ps → Every (λ (k : ℕ). k < 560) (order_of (map turned ps))
unfolding turned
turned_numbers [] s = Every.none
turned_numbers (x ∷ ps) s = Every.more s.2 (turned_numbers ps s.3)

turned_has : (k : ℕ) (ps : List Keyed) → Has k ps → among k (order_of (map turned ps)) ≡ true
unfolding turned
turned_has k [] m = absurd m
turned_has k (x ∷ ps) (inl e) = rw e (among_here k (order_of (map turned ps)))
turned_has k (x ∷ ps) (inr m) = among_there k x.key (order_of (map turned ps)) (turned_has k ps m)

-- every sector is among the pieces: the stream unrolls to d
pub unrolls : (v : ℕ) (d : List ℕ) → v < 256 → length d ≡ 143360 → Bytes d → (ps : List Keyed) (last : List ℕ) → KeyedSound ps → Free last
    → ((k : ℕ) → k < 560 → Has k ps) → image Sixteen (keyed_laid v d ps last) ≡ Ok d
unrolls v d hv l b ps last s e all =
    rw (turned_laid v d ps last)
    (unrolls_laid v d hv l b (map turned ps) last (turned_sound ps s) e (record { each = λ k h. turned_has k ps (all k h); numbers = turned_numbers ps s }))
