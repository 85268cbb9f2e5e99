-- What `image` gives is a flat disk: 256 bytes for each sector of its edition. Assumes nothing.
use mathlib.Core.Path.{◌≡◌, refl, ◌∙◌}
use mathlib.Core.Bool.{Bool, true, false, cond, not, ◌&&◌}
use mathlib.Core.List.{List, [], ◌∷◌, flatten}
use Prim.Native.Nat.{ℕ, ◌+◌, ◌-◌, ◌*◌, ◌/◌, ◌%◌, ◌<◌}
use native.Mathlib.Omega.{arith}
use lib.Dec.{ltb, eqb}
use lib.ListN.{length, get_or, length-append}
use Rattle.lists.specs.Fill.{below, Bytes}
use Rattle.lists.specs.Select.{any}
use Rattle.lists.proofs.Laws.{length_tab, tab_all}
use Rattle.lists.proofs.Split.{cond_both}
use Rattle.lists.proofs.Bounds.{bytes_append}
use Rattle.std.specs.Prelude.{Ok}
use Rattle.outcome.specs.declared.Refusal.TheVariants.{DataSum, Stranger}
use Rattle.outcome.specs.Outcome.{Outcome, ◌>>◌, require, each, Gives}
use Rattle.nibble.specs.Nibble.{low, values_of, byte_from, decode}
use Rattle.nibble.specs.FiveThree.{low_of, byte_of53, source_of, byte_from53, values_of53, decode53}
use Rattle.outcome.proofs.Outcome.{gives_then, gives_after, gives_bind}
use Rattle.nibble.proofs.FiveThree.{bits_lt}
use Rattle.fields.specs.declared.Edition.{Edition}
use Rattle.fields.specs.declared.Edition.TheVariants.{Sixteen, Thirteen}
use Rattle.fields.specs.Editions.{per_track, dos_sector, data_of}
use Rattle.fields.specs.Fields.{Field, fields}
use Rattle.stream.specs.Stream.{is_stranger, first_volume, firsts, sums_ok, bytes_at, image}

-- a sector's bytes, n of them
abbrev pub Sized : ℕ → List ℕ → Type 0
Sized n x = (length x ≡ n) × Bytes x

-- a decoded byte is one
byte_lt : (v : List ℕ) (i : ℕ) → byte_from v i < 256
unfolding byte_from
byte_lt v i =
    let high : ℕ = get_or v (i + 86) 0 % 64 * 4 in
    let h : high < 253 = omega arith in
    let small : ℕ → Type 0 = λ x. high + x < 256 in
    cond_both small (ltb i 86) {x = low (get_or v i 0)} (omega arith)
    (cond_both small (ltb i 172) {x = low (get_or v (i - 86) 0 / 4)} {y = low (get_or v (i - 172) 0 / 16)} (omega arith) (omega arith))

-- a decoded sector
pub sized_decode : (n : List ℕ) → Sized 256 (decode n)
unfolding decode
sized_decode n = (length_tab _ 256, tab_all (λ (x : ℕ). x < 256) (byte_from (values_of n)) 256 (omega arith) (byte_lt (values_of n)))

-- the same of 5-and-3
byte_lt_53 : (v : List ℕ) (i : ℕ) → byte_from53 v i < 256
unfolding byte_from53 byte_of53 low_of
byte_lt_53 v i =
    let j : ℕ = source_of i in
    let high : ℕ = get_or v (154 + j) 0 % 32 * 8 in
    let h : high < 249 = omega arith in
    let small : ℕ → Type 0 = λ x. high + x < 256 in
    cond_both small (ltb j 153) (omega arith)
    (cond_both small (ltb j 204) (omega (arith, bits_lt 2 (get_or v (153 - (j - 153)) 0) (get_or v (153 - (j - 153 + 51)) 0) (get_or v (153 - (j - 153 + 102)) 0)))
    (cond_both small (ltb j 255) (omega (arith, bits_lt 1 (get_or v (153 - (j - 204)) 0) (get_or v (153 - (j - 204 + 51)) 0) (get_or v (153 - (j - 204 + 102)) 0))) (omega arith)))

-- a sector of either edition
pub sized_data : (ed : Edition) (n : List ℕ) → Sized 256 (data_of ed n)
unfolding data_of decode53
sized_data Sixteen n = sized_decode n
sized_data Thirteen n = (length_tab _ 256, tab_all (λ (x : ℕ). x < 256) (byte_from53 (values_of53 n)) 256 (omega arith) (byte_lt_53 (values_of53 n)))

pub length_data : (ed : Edition) (n : List ℕ) → length (data_of ed n) ≡ 256
length_data ed n = (sized_data ed n).0

-- of both arms
gives_cond : {A : Type 0} (P : A → Type 0) (t : Bool) (x y : Outcome A) → Gives P x → Gives P y → Gives P (cond t x y)
gives_cond P true x y p q = p
gives_cond P false x y p q = q

-- a field gives a sector
field_sized : (ed : Edition) (t s : ℕ) (fs : List Field) → Gives (Sized 256) (bytes_at ed t s fs)
unfolding bytes_at
field_sized ed t s [] = tt
field_sized ed t s (f ∷ fs) =
    gives_cond (Sized 256) (eqb f.track t && eqb (dos_sector ed f.sector) s) (Ok (data_of ed f.nibbles)) (bytes_at ed t s fs)
    (sized_data ed f.nibbles) (field_sized ed t s fs)

-- sectors joined
each_sized : (f : ℕ → Outcome (List ℕ)) → ((k : ℕ) → Gives (Sized 256) (f k))
    → (ks : List ℕ) → Gives (λ xs. Sized (256 * length ks) (flatten xs)) (each f ks)
unfolding each flatten
each_sized f all [] = (refl, λ k. omega arith)
each_sized f all (k ∷ ks) =
    gives_bind _ (Sized 256) (f k) _ (all k) (λ x h.
    gives_bind _ (λ xs. Sized (256 * length ks) (flatten xs)) (each f ks) _ (each_sized f all ks) (λ xs i.
    (length-append x (flatten xs) ∙ rw (h.0, i.0) (omega arith), bytes_append x (flatten xs) h.1 i.1)))

-- whatever the stream is
pub image_sized : (ed : Edition) (s : List ℕ) → Gives (Sized (256 * (35 * per_track ed))) (image ed s)
unfolding image
image_sized ed s =
    gives_after (Sized (256 * (35 * per_track ed))) (fields ed (length s) s) _ (λ fs.
    let f : ℕ → Outcome (List ℕ) = λ k. bytes_at ed (k / per_track ed) (k % per_track ed) fs in
    let ks : List ℕ = below (35 * per_track ed) in
    let P : List (List ℕ) → Type 0 = λ xs. Sized (256 * length ks) (flatten xs) in
    let tests : Outcome (Unit {0}) = require (not (any (is_stranger ed (first_volume fs)) fs)) Stranger >> require (sums_ok ed (firsts [] fs)) DataSum in
    gives_bind (Sized (256 * (35 * per_track ed))) P (tests >> each f ks) (λ xs. Ok (flatten xs))
    (gives_then P tests (each f ks) (each_sized f (λ k. field_sized ed (k / per_track ed) (k % per_track ed) fs) ks))
    (λ xs h. rw (length_tab (λ k. k) (35 * per_track ed)) at h))

-- for any stream
pub sized_image : (ed : Edition) (s d : List ℕ) → image ed s ≡ Ok d → Sized (256 * (35 * per_track ed)) d
sized_image ed s d e = rw e at (image_sized ed s)
