-- Demand 3, as one claim about the calls' arguments and answers, for all pairings of flat and nibbles and of the two editions: document 01, "Return", its last lines, and document 02, Req 12.
-- `Denibblized`, `Wrote` and `Checked` are the promises of `stream::denibblize` (at Sixteen) and `stream::denibblize_13` (at Thirteen), of `writer::write_archive` and of
-- `writer::check_archive`, word for word: the claim speaks of what these were handed, of what they answered and of what they left in the space lent to them, and of nothing else.
use Rattle.std.specs.Prelude.{◌≡◌, ◌↔◌, List, ℕ, ◌*◌, ◌≤◌, length, take}
use Rattle.lists.specs.Fill.{Bytes}
use Rattle.std.specs.Prelude.{Ok}
use Rattle.outcome.specs.Outcome.{Outcome, ◌>>=◌}
use Rattle.files.specs.Contents.{Contents, contents}
use Rattle.files.specs.Survey.{blocks}
use Rattle.archive.specs.Archive.{Wrote, Checked}
use Rattle.disk.specs.Disk.{per_of}
use Rattle.fields.specs.declared.Edition.{Edition}
use Rattle.stream.specs.Stream.{image, Denibblized}

-- A disk as it arrives: flat, of either size, or as nibbles of an edition. A stream that unrolls by both codings stands for two disks, one for each edition.
pub data Disk : Type 0 where
  flat : List ℕ → Disk
  nibbles : Edition → List ℕ → Disk

-- what arrives is bytes
abbrev pub OfBytes : Disk → Type 0
OfBytes (flat d) = Bytes d
OfBytes (nibbles ed s) = Bytes s

-- the contents of a flat disk, which has as many sectors a track as its size says
abbrev pub contents_in : List ℕ → Outcome Contents
contents_in d = contents (per_of d) d

-- its contents (01: load): a nibble disk is judged by its unrolled image
abbrev pub contents_of : Disk → Outcome Contents
contents_of (flat d) = contents_in d
contents_of (nibbles ed s) = image ed s >>= contents_in

-- both disks have contents, and these are equal
abbrev pub EqualContents : Disk → Disk → Type 0
EqualContents a b = (c : Contents) × (contents_of a ≡ Ok c) × (contents_of b ≡ Ok c)

-- e is what writer and checker are handed for a disk: the flat disk itself, or the bytes that a call of denibblize wrote
abbrev pub ImageOf : Disk → List ℕ → Type 0
ImageOf (flat d) e = d ≡ e
ImageOf (nibbles ed s) e = (before after : List ℕ) × (n : ℕ) × Denibblized ed s before after (Ok n) × (e ≡ take n after)

-- demand 3
pub record Agreement : Type 0 where
  -- where the checker passes two archives, each against its own disk, the archives are equal exactly when the disks have equal contents
  pub equal : (a b : Disk) → OfBytes a → OfBytes b → (d e : List ℕ) → ImageOf a d → ImageOf b e
      → (v w : List ℕ) (p q : Outcome (Unit {0})) → Checked d v p → Checked e w q → p ≡ Ok tt → q ≡ Ok tt → ((v ≡ w) ↔ EqualContents a b)
  -- what is written into enough lent space is passed against exactly the disks with equal contents
  pub own : (a : Disk) → OfBytes a → (d : List ℕ) → ImageOf a d → (c : Contents) → contents_of a ≡ Ok c → blocks c ≤ 4096
      → (before after : List ℕ) (r : Outcome ℕ) → 256 * blocks c ≤ length before → Wrote d before after r
      → (r ≡ Ok (256 * blocks c))
      × ((b : Disk) → OfBytes b → (e : List ℕ) → ImageOf b e → (p : Outcome (Unit {0})) → Checked e (take (256 * blocks c) after) p → ((p ≡ Ok tt) ↔ EqualContents a b))
