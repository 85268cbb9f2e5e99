-- Numbers as code computes with them: a product of two bytes, a byte with a sign, a track's map bits. Assumes nothing.
use mathlib.Core.Path.{◌≡◌, refl, sym, ◌∙◌}
use mathlib.Core.Bool.{Bool, true, false}
use mathlib.Core.List.{List}
use Prim.Native.Nat.{ℕ, suc, ◌+◌, ◌*◌, ◌-◌, ◌/◌, ◌<◌, ◌≤◌}
use native.Mathlib.Nat.{mul-le-mul, div-le_self}
use native.Mathlib.Numerals.{add-one}
use native.Mathlib.Omega.{arith}
use lib.Count.{ones, ones-le}
use lib.Dec.{eqb}
use lib.ListN.{length, get_or}
use lib.IntN.{ℤ}
use mir.Syntax.{w8}
use mir.Val.{to_z, of_z, SFits}
use mir.Facts.{to_z_pos, to_z-neg, to_z-of_z}
use borrow.Author.Tests.{lt-ltb, le-ltb, eq-eqb, ne_eqb}
use borrow.Author.Rules.{rules}
use Rattle.disk.specs.declared.Place.{Place}
use Rattle.disk.specs.Vtoc.{readable, tabled, percent, free_below, one_of, valid_table, spare, vtoc, signed, free_in, table_of, parsed}
use Rattle.disk.specs.Disk.{per_of, place, start, byte_of, link_of}
use Rattle.disk.specs.declared.VolumeTableOfContents.{VolumeTableOfContents}
use Rattle.std.specs.Prelude.{Ok, Err}
use Rattle.outcome.specs.declared.Refusal.{Refusal}
use Rattle.outcome.specs.declared.Refusal.TheVariants.{OffSize, NoTable}
use Rattle.outcome.specs.Outcome.{Outcome}
use Rattle.disk.proofs.Places.{off_size, no_table, is_readable, readable_some}

-- a product of two bytes
pub bytes_times : (a b : ℕ) → a < 256 → b < 256 → a * b ≤ 65025
bytes_times a b h l = mul-le-mul {n₂ = 255} {m₂ = 255} (omega arith) (omega arith)

-- a byte of the lower half is itself
pub signed_low : (b : ℕ) → b < 128 → to_z w8 b ≡ signed b
unfolding signed
signed_low b h = to_z_pos w8 h ∙ sym (rw (lt-ltb b 128 h) refl)

-- .. and of the upper half the complement's complement
pub signed_high : (b : ℕ) → b < 256 → 128 ≤ b → to_z w8 (255 - (255 - b)) ≡ signed b
unfolding signed
signed_high b l h =
    let e : 255 - (255 - b) ≡ 256 - suc (255 - b) = omega arith in
    rw e (to_z-neg w8 (255 - b) (omega arith) ∙ sym (rw (le-ltb b 128 h) refl))

-- a sector's byte, read where the sector begins
pub byte_read : (d : List ℕ) (n i k r : ℕ) (p : Place) → i ≡ start n p → r ≡ get_or d (i + k) 0 → r ≡ byte_of n d p k
byte_read d n i k r p e h = rw e at h

-- a link that was read
pub link_read : (d : List ℕ) (n t s : ℕ) (p : Place) → t ≡ byte_of n d p 1 → s ≡ byte_of n d p 2 → place t s ≡ link_of n d p
link_read d n t s p a b = rw (a, b) refl

pub ruleset bytes = (byte_read, link_read, rules)

-- no more than 16 of two bytes' bits are set
pub ones_small : (w m : ℕ) → w < 65536 → 0 < m → ones (w / m) ≤ 16
ones_small w m a h = ones-le 16 (w / m) (omega (arith, div-le_self w m))

-- ---- the sectors of a track, and the bits below its map
pub per_13 : (d : List ℕ) → length d ≡ 116480 → 13 ≡ per_of d
unfolding per_of
per_13 d h = rw (eq-eqb (length d) 116480 h) refl

pub per_16 : (d : List ℕ) → (length d ≡ 116480 → ⊥) → 16 ≡ per_of d
unfolding per_of
per_16 d h = rw (ne_eqb (length d) 116480 h) refl

pub spare_13 : (n : ℕ) → n ≡ 13 → 8 ≡ spare n
unfolding spare
spare_13 n h = rw (eq-eqb n 13 h) refl

pub spare_16 : (n : ℕ) → (n ≡ 13 → ⊥) → 1 ≡ spare n
unfolding spare
spare_16 n h = rw (ne_eqb n 13 h) refl

-- a count of free sectors, k tracks on
pub record Counting (n : ℕ) (d : List ℕ) (sum k : ℕ) : Type 0 where
  pub count : k ≤ 35
  pub is : sum ≡ free_below n d k
  pub small : sum ≤ 16 * k

pub count_none : (n : ℕ) (d : List ℕ) → Counting n d 0 0
unfolding free_below
count_none n d = record { count = omega arith; is = refl; small = omega arith }

-- one track more
pub count_more : (n : ℕ) (d : List ℕ) (sum k f : ℕ) → Counting n d sum k → k < 35 → f ≡ free_in n d k → f ≤ 16 → Counting n d (sum + f) (k + 1)
unfolding free_below
count_more n d sum k f c h e l =
    let i = c.is in
    let s = c.small in
    record { count = omega arith; is = rw (add-one, i, e) refl; small = omega arith }

-- all tracks
pub count_done : (n : ℕ) (d : List ℕ) (sum k : ℕ) → Counting n d sum k → 35 ≤ k → sum ≡ free_below n d 35
count_done n d sum k c h = let e : k ≡ 35 = let i = c.count in omega arith in rw e at c.is

pub count_small : (n : ℕ) (d : List ℕ) (sum k : ℕ) → Counting n d sum k → sum ≤ 560
count_small n d sum k c = let i = c.count in let s = c.small in omega arith

pub ruleset counts = (ones_small, count_none, count_more, count_done, count_small, rules)

-- ---- the tests of a table
module _ (x a b : ℕ) where
  pub first_of : x ≡ a → true ≡ one_of x a b
  unfolding one_of
  first_of e = rw (eq-eqb x a e) refl

  pub second_of : (x ≡ a → ⊥) → eqb x b ≡ one_of x a b
  unfolding one_of
  second_of h = rw (ne_eqb x a h) refl

module _ (t s : ℕ) (r : Bool) (e : r ≡ one_of t 35 40) where
  pub tracks_good : r ≡ true → (n : ℕ) (q : Bool) → q ≡ one_of s 13 n → q ≡ valid_table n t s
  unfolding valid_table
  tracks_good h n q k = rw (k, ← e, h) refl

  pub tracks_bad : r ≡ false → (n : ℕ) → false ≡ valid_table n t s
  unfolding valid_table
  tracks_bad h n = rw (← e, h) refl

pub ruleset checks = (first_of, second_of, tracks_good, tracks_bad, rules)

-- ---- the table
module _ (n : ℕ) (d : List ℕ) where
  pub size_wrong : (length d ≡ 256 * (35 * n) → ⊥) → Err OffSize ≡ readable n d
  size_wrong h = sym (off_size n d h)

  module _ (h : length d ≡ 256 * (35 * n)) (a b : ℕ) (l : a ≡ byte_of n d vtoc 52) (m : b ≡ byte_of n d vtoc 53) (q : Bool) (e : q ≡ valid_table n a b) where
    is_tabled : tabled n d ≡ q
    unfolding tabled
    is_tabled = rw (← l, ← m) (sym e)

    pub table_good : q ≡ true → Ok tt ≡ readable n d
    table_good z = sym (is_readable n d h (is_tabled ∙ z))

    pub table_bad : q ≡ false → Err NoTable ≡ readable n d
    table_bad z = sym (no_table n d h (is_tabled ∙ z))

-- what is made of a table that is read, and of one that is not
module _ (n : ℕ) (d : List ℕ) where
  pub table_none : (r : Refusal) → Err r ≡ readable n d → Err r ≡ parsed n d
  unfolding parsed
  table_none r e = rw (← e) refl

  pub table_read : (v : VolumeTableOfContents) → Ok tt ≡ readable n d → v ≡ table_of n d → Ok v ≡ parsed n d
  unfolding parsed
  table_read v e b = rw (← e, b) refl

  -- a table is read only where a track has sectors
  pub table_some : Ok tt ≡ readable n d → 0 < n
  table_some e = readable_some n d (sym e)

-- the fields, as they were read one by one
pub table_is : (n : ℕ) (d : List ℕ) (a b r v m l x t s y w f u p : ℕ) (z : ℤ)
    → a ≡ byte_of n d vtoc 1
    → b ≡ byte_of n d vtoc 2
    → r ≡ byte_of n d vtoc 3
    → v ≡ byte_of n d vtoc 6
    → m ≡ byte_of n d vtoc 39
    → l ≡ byte_of n d vtoc 48
    → x ≡ byte_of n d vtoc 49
    → t ≡ byte_of n d vtoc 52
    → s ≡ byte_of n d vtoc 53
    → y ≡ byte_of n d vtoc 54
    → w ≡ byte_of n d vtoc 55
    → f ≡ free_below n d 35 → u ≡ 35 * n - f → p ≡ percent (35 * n) u → SFits w8 z → z ≡ signed x
    → record {
      track_number_of_first_catalog_sector = a;
      sector_number_of_first_catalog_sector = b;
      release_number_of_dos = r;
      diskette_volume_number = v;
      maximum_number_of_track_sector_pairs = m;
      last_track_where_sectors_were_allocated = l;
      direction_of_track_allocation = to_z w8 (of_z w8 z);
      number_of_tracks_per_diskette = t;
      number_of_sectors_per_track = s;
      number_of_bytes_per_sector = y + 256 * w;
      free = f;
      used = u;
      percent_used = p;
    } ≡ table_of n d
unfolding table_of
table_is n d a b r v m l x t s y w f u p z ha hb hr hv hm hl hx ht hs hy hw hf hu hp fits hz =
    rw (to_z-of_z fits, hz, hp, hu, hf, ha, hb, hr, hv, hm, hl, hx, ht, hs, hy, hw) refl

-- by the disk's own size
pub table_at : (d : List ℕ) (v : Outcome VolumeTableOfContents) (n : ℕ) → n ≡ per_of d → v ≡ parsed n d → v ≡ parsed (per_of d) d
table_at d v n e q = rw e at q

pub ruleset tables = (table_at, table_some, table_is, size_wrong, table_good, table_bad, table_none, table_read, rules)
