-- The starred cases of document 01, proved. Assumes nothing.
use mathlib.Core.Path.{◌≡◌, refl}
use mathlib.Core.List.{List, [], ◌∷◌}
use mathlib.Core.Bool.{false}
use Prim.Native.Nat.{ℕ, ◌+◌, ◌/◌}
use native.Mathlib.Omega.{arith}
use lib.ListN.{length, take, drop, length-take, length-drop}
use borrow.Author.Tests.{eq-eqb}
use Rattle.lists.specs.Fill.{padded}
use Rattle.lists.specs.Words.{word_at}
use Rattle.std.specs.Prelude.{Err}
use Rattle.outcome.specs.declared.Refusal.TheVariants.{OffDisc}
use Rattle.disk.specs.Disk.{place, on_disk, sized}
use Rattle.disk.specs.Vtoc.{percent}
use Rattle.disk.specs.Window.{sector_in}
use Rattle.catalog.specs.Catalog.{shown, trimmed}
use Rattle.files.specs.Contents.{File, bytes_in}
use Rattle.nibble.proofs.Starred
use Rattle.fields.specs.Editions.{interleave}
use Rattle.files.specs.Survey.{blocks, blocks_in}
use Rattle.archive.specs.Archive.{archive, first_block, entry_chain}
use Rattle.agreement.specs.Starred.{Starred as Cases}

-- a place that is off the disk
off_3 : (d : List ℕ) (t s : ℕ) → length d ≡ 143360 → on_disk 16 (place t s) ≡ false → sector_in 16 d (place t s) ≡ Err OffDisc
unfolding sector_in sized
off_3 d t s h e = rw (eq-eqb (length d) 143360 h, e) refl

-- the stated length, where it fits ..
fits_252 : (s : List ℕ) → length s ≡ 256 → word_at s 2 ≡ 252 → bytes_in 4 s ≡ take 252 (drop 4 s)
unfolding bytes_in
fits_252 s h e = rw (e, h) refl

-- .. and where it does not
over_253 : (s : List ℕ) → length s ≡ 256 → word_at s 2 ≡ 253 → bytes_in 4 s ≡ s
unfolding bytes_in
over_253 s h e = rw (e, h) refl

-- one entry's blocks
one_entry : (v k : ℕ) (f : File) → length f.bytes ≡ k → blocks (record { volume = v; files = f ∷ [] }) ≡ 1 + (1 + (k + 253) / 254 + 0)
unfolding blocks_in
one_entry v k f h = rw h refl

pub starred : Cases
unfolding interleave percent shown trimmed on_disk archive first_block entry_chain padded blocks_in
starred =
    record {
      four_AA_AA = refl;
      four_AA_BB = refl;
      four_FF_FE = refl;
      sector_1 = refl;
      sector_14 = refl;
      sector_15 = refl;
      zeros = Starred.zeros;
      last = Starred.last;
      fill_13 = refl;
      fill_14 = refl;
      fill_560 = refl;
      fill_42 = refl;
      name_A = refl;
      name_none = refl;
      place_34_15 = refl;
      place_35_0 = λ d h. off_3 d 35 0 h refl;
      place_34_16 = λ d h. off_3 d 34 16 h refl;
      length_252 = λ s h e. (fits_252 s h e, rw (fits_252 s h e, length-take, length-drop) (omega arith));
      length_253 = over_253;
      empty = refl;
      blocks_254 = λ v f h. one_entry v 254 f h;
      blocks_255 = λ v f h. one_entry v 255 f h;
    }
