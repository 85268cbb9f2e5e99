-- Archives are equal only where contents are, and what the checker answers. Assumes nothing.
use mathlib.Core.Path.{◌≡◌, refl, ap}
use mathlib.Core.Logic.{◌↔◌}
use mathlib.Core.List.{List}
use Prim.Native.Nat.{ℕ, ◌≤◌}
use lib.Dec.{leb}
use borrow.Author.Tests.{leb-true, le-leb}
use Rattle.std.specs.Prelude.{Ok}
use Rattle.outcome.specs.declared.Refusal.TheVariants.{Overlong, NotItsReturn}
use Rattle.outcome.proofs.Outcome.{required, met, gives}
use Rattle.files.specs.Contents.{Contents, Proper, contents}
use Rattle.lists.specs.Every.{Every}
use Rattle.files.specs.Survey.{blocks}
use Rattle.archive.specs.Archive.{archive, archive_of, check}
use Rattle.archive.specs.Reader.{opened}
use Rattle.lists.proofs.Equal.{same_eq, same_refl}
use Rattle.archive.proofs.Back.{archive_back}

-- equal archives have equal contents: the reader gives both back
pub archive_injective : (c c' : Contents) → Every Proper c.files → Every Proper c'.files → blocks c ≤ 4096 → blocks c' ≤ 4096
    → archive c ≡ archive c' → c ≡ c'
archive_injective c c' p p' l l' e =
    let a = archive_back c p l in
    let b = archive_back c' p' l' in
    let o = ap opened e in
    cc

-- a is the archive of the disk's contents, and within the limit
abbrev pub ArchiveIs : ℕ → List ℕ → List ℕ → Type 0
ArchiveIs n d a = (c : Contents) × (contents n d ≡ Ok c) × (blocks c ≤ 4096) × (a ≡ archive c)

module _ (n : ℕ) (d a : List ℕ) where
  -- what the writer hands over is that archive
  pub writes_archive : (archive_of n d ≡ Ok a) ↔ ArchiveIs n d a
  unfolding archive_of
  writes_archive = (
    (λ e.
        let b = gives (contents n d) _ _ e in
        let m = met (leb (blocks b.0) 4096) Overlong (Ok (archive b.0)) b.2 in
        (b.0, b.1, leb-true _ _ m.0, cc m.1)),
    λ i. rw (i.1, le-leb _ _ i.2, i.3) refl,
  )

  -- the checker passes exactly for that archive
  pub check_passes : (check n d a ≡ Ok tt) ↔ ArchiveIs n d a
  unfolding check
  check_passes = (
    (λ e.
        let b = gives (archive_of n d) _ tt e in
        let q : b.0 ≡ a = same_eq b.0 a (required _ NotItsReturn b.2) in
        writes_archive.0 (cc (b.1, q))),
    λ i. rw (writes_archive.1 i, same_refl a) refl,
  )
