-- Demand 3. Assumes nothing.
use mathlib.Core.Path.{◌≡◌, refl, sym, ap, ◌∙◌}
use mathlib.Core.Logic.{◌↔◌}
use mathlib.Core.List.{List}
use Prim.Native.Nat.{ℕ, ◌*◌, ◌≤◌}
use native.Mathlib.Omega.{arith}
use lib.ListN.{length, take, drop}
use lib.Seq.{take_at}
use Rattle.lists.specs.Fill.{Bytes}
use Rattle.lists.specs.Every.{Every}
use Rattle.std.specs.Prelude.{Ok}
use Rattle.outcome.specs.Outcome.{handed, Hands}
use Rattle.outcome.proofs.Outcome.{handed_fits, hands_given, hands_left}
use Rattle.files.specs.Contents.{Contents, Proper}
use Rattle.files.proofs.Proper.{all_proper}
use Rattle.disk.specs.Disk.{per_of}
use Rattle.fields.specs.declared.Edition.{Edition}
use Rattle.stream.specs.Stream.{image}
use Rattle.stream.proofs.Sizes.{sized_image}
use Rattle.files.specs.Survey.{blocks}
use Rattle.archive.specs.Archive.{archive, archive_of, check}
use Rattle.archive.proofs.Blocks.{length_archive, proper_short}
use Rattle.archive.proofs.Archive.{archive_injective, writes_archive, check_passes}
use Rattle.agreement.specs.Agreement.{Disk, flat, nibbles, OfBytes, contents_in, contents_of, EqualContents, ImageOf, Agreement}

-- where denibblize did not refuse, what it wrote is the stream's image
pub wrote_image : (ed : Edition) (s before after e : List ℕ) (n : ℕ) → Hands (image ed s) before after (Ok n) → e ≡ take n after → image ed s ≡ Ok e
wrote_image ed s before after e n h t =
    let g = hands_given n h refl in
    let w : List ℕ = g.0 in
    let a : Ok n ≡ Ok (length w) = h.answer ∙ rw (handed_fits (image ed s) before g.1 g.2) refl in
    let l : length w ≡ n = cc in
    let f : take n after ≡ w = ap (take n) g.3 ∙ take_at w (drop (length w) before) n l in
    g.1 ∙ ap Ok (sym (t ∙ f))

-- what writer and checker are handed has the disk's contents ..
same_contents : (a : Disk) (d : List ℕ) → ImageOf a d → contents_of a ≡ contents_in d
same_contents (flat x) d h = ap contents_in h
same_contents (nibbles ed s) d h = rw (wrote_image ed s h.0 h.1 d h.2 h.3 h.4) refl

-- .. and is bytes
image_bytes : (a : Disk) (d : List ℕ) → OfBytes a → ImageOf a d → Bytes d
image_bytes (flat x) d b h = rw h at b
image_bytes (nibbles ed s) d b h = (sized_image ed s d (wrote_image ed s h.0 h.1 d h.2 h.3 h.4)).1

-- the files of a disk of bytes are proper
proper : (a : Disk) (d : List ℕ) → OfBytes a → ImageOf a d → (c : Contents) → contents_of a ≡ Ok c → Every Proper c.files
proper a d b h c e = all_proper (per_of d) d (image_bytes a d b h) c (sym (same_contents a d h) ∙ e)

-- passed: these are the archive of the disk's contents
passed_is : (a : Disk) (d w : List ℕ) → ImageOf a d
    → (check (per_of d) d w ≡ Ok tt) ↔ ((c : Contents) × (contents_of a ≡ Ok c) × (blocks c ≤ 4096) × (w ≡ archive c))
passed_is a d w h = (
  (λ k. let i = (check_passes (per_of d) d w).0 k in (i.0, same_contents a d h ∙ i.1, i.2, i.3)),
  λ i. (check_passes (per_of d) d w).1 (i.0, sym (same_contents a d h) ∙ i.1, i.2, i.3),
)

-- two disks with one archive have equal contents
one_archive : (a b : Disk) (d e : List ℕ) → OfBytes a → OfBytes b → ImageOf a d → ImageOf b e
    → (c c' : Contents) → contents_of a ≡ Ok c → contents_of b ≡ Ok c' → blocks c ≤ 4096 → blocks c' ≤ 4096 → archive c ≡ archive c'
    → EqualContents a b
one_archive a b d e o u h k c c' p q l m eq =
    let i = archive_injective c c' (proper a d o h c p) (proper b e u k c' q) l m eq in
    (c, p, cc (q, i))

-- demand 3
pub agreement : Agreement
agreement =
    record {
      equal = λ a b o u d e h k v w n m f g p q.
          let x = (passed_is a d v h).0 (sym f ∙ p) in
          let y = (passed_is b e w k).0 (sym g ∙ q) in (
            (λ s. one_archive a b d e o u h k x.0 y.0 x.1 y.1 x.2 y.2 (sym x.3 ∙ s ∙ y.3)),
            λ s. cc (x.1, x.3, y.1, y.3, s.1, s.2),
          );
      own = λ a o d h c p l before after r room k.
          let long : length (archive c) ≡ 256 * blocks c = length_archive c (proper_short (proper a d o h c p)) in
          let w = (writes_archive (per_of d) d (archive c)).1 (c, sym (same_contents a d h) ∙ p, l, refl) in
          let g : handed (archive_of (per_of d) d) before ≡ Ok (archive c) = handed_fits (archive_of (per_of d) d) before w (omega arith) in
          let n : r ≡ Ok (length (archive c)) = rw g at k.answer in
          let f : take (256 * blocks c) after ≡ archive c =
          ap (take (256 * blocks c)) (hands_left (archive c) k w (omega arith)) ∙ take_at (archive c) _ (256 * blocks c) long in (
            n ∙ ap Ok long,
            λ b u e j m t. (
              (λ z. let y = (passed_is b e (take (256 * blocks c) after) j).0 (sym t ∙ z) in one_archive a b d e o u h j c y.0 p y.1 l y.2 (sym f ∙ y.3)),
              λ s. t ∙ (passed_is b e (take (256 * blocks c) after) j).1 (c, cc (p, s.1, s.2), l, f),
            ),
          );
    }
