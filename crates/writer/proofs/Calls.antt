-- What each return of the writer and of the checker gives. Assumes nothing.
use mathlib.Core.Path.{◌≡◌, refl, sym, ap, ◌∙◌}
use mathlib.Core.Bool.{Bool, true, false, cond}
use mathlib.Core.List.{List, [], ◌∷◌, foldl, flat_map}
use Prim.Native.Nat.{ℕ, ◌+◌, ◌*◌, ◌<◌, ◌≤◌}
use native.Mathlib.Omega.{arith}
use lib.ListN.{length}
use lib.Dec.{eqb}
use borrow.Author.Tests.{eq-eqb, ne_eqb, le-leb, lt-leb, not-true, not-false}
use borrow.Author.Rules.{rules}
use Rattle.lists.specs.Same.{same}
use Rattle.lists.proofs.Put.{put_front}
use Rattle.lists.proofs.Equal.{same_length}
use Rattle.std.specs.Prelude.{Ok, Err}
use Rattle.outcome.specs.declared.Refusal.{Refusal}
use Rattle.outcome.specs.declared.Refusal.TheVariants.{Overlong, NotItsReturn, TrayShort}
use Rattle.outcome.specs.Outcome.{each, require, Hands}
use Rattle.outcome.proofs.Outcome.{hands_refused, hands_short, hands_over_lem}
use Rattle.disk.specs.declared.Place.{Place}
use Rattle.disk.specs.Disk.{per_of, sectors}
use Rattle.disk.specs.Chain.{walk}
use Rattle.catalog.specs.Catalog.{entries_of, sound_page, next_page, first_page}
use Rattle.catalog.proofs.Order.{pages_given, catalog_given}
use Rattle.files.specs.declared.DiskSurvey.{DiskSurvey}
use Rattle.files.specs.Contents.{File, Contents, contents, file_of}
use Rattle.files.specs.Survey.{blocks_in, blocks, survey}
use Rattle.files.proofs.Order.{contents_given}
use Rattle.files.proofs.Proper.{catalog_size}
use Rattle.files.proofs.Surveys.{survey_refused, survey_given}
use Rattle.archive.specs.Archive.{if_any, first_block, archive, archive_of, check}
use Rattle.archive.proofs.Blocks.{Short, length_archive}
use Rattle.writer.specs.declared.Mark.{Mark}
use Rattle.writer.specs.Passes.{Pass, fresh_mark, pass_of, stepped, with_page, walk_made, Made, MadeAll, Walked}
use Rattle.writer.proofs.Archives.{names_short, whole_blocks, pass_is, pass_writes, pass_compares}

-- ---- the first block, and the pass
pub first_none : (t : ℕ) → t ≡ 1 → ◌≡◌ {A = ℕ} 0 (cond (eqb t 1) 0 1)
first_none t e = rw (eq-eqb _ _ e) refl

pub first_some : (t : ℕ) → (t ≡ 1 → ⊥) → ◌≡◌ {A = ℕ} 1 (cond (eqb t 1) 0 1)
first_some t h = rw (ne_eqb _ _ h) refl

pub ruleset firsts = (first_none, first_some, rules)

module _ (w : Bool) (a d : List ℕ) (v t : ℕ) (o : List ℕ) where
  pub all_block : (y : List ℕ) (m : Mark) (o' : List ℕ) → Made (stepped w a (pass_of fresh_mark o) y) 1 fresh_mark o o' m → m.block ≤ 1
  all_block y m o' u = omega (arith, u.bound)

  module _ (n : ℕ) (en : n ≡ per_of d) where
    pub all_walked : (p : Place) → p ≡ first_page n d → Walked (per_of d) d (first_page (per_of d) d) → Walked n d p
    all_walked p e h = rw (e, en) h

    pub all_done : (k : ℕ) (y : List ℕ) → k ≡ cond (eqb t 1) 0 1 → y ≡ first_block v k t → (m : Mark) (o' : List ℕ) → Made (stepped w a (pass_of fresh_mark o) y) 1 fresh_mark o o' m
        → (p : Place) → p ≡ first_page n d → (r : Mark) (o'' : List ℕ) → MadeAll (walk_made w a n d t (pass_of m o') p) r o''
        → MadeAll (walk_made w a (per_of d) d t (stepped w a (pass_of fresh_mark o) (first_block v (cond (eqb t 1) 0 1) t)) (first_page (per_of d) d)) r o''
    all_done k y e f m o' u p g r o'' h =
        let q : stepped w a (pass_of fresh_mark o) (first_block v (cond (eqb t 1) 0 1) t) ≡ pass_of m o' = rw (← e, ← f) (sym u.is) in
        rw (q, ← en, ← g) h

pub ruleset alls = (all_block, all_walked, all_done, rules)

-- ---- the pass that was called, of a disk with contents c
first_is : (fs : List File) → ◌≡◌ {A = ℕ} (cond (eqb (1 + blocks_in fs) 1) 0 1) (if_any fs 1)
unfolding blocks_in
first_is [] = refl
first_is (f ∷ fs) = rw (ne_eqb (1 + blocks_in (f ∷ fs)) 1 (λ q. omega arith)) refl

module _ (per : ℕ) (d : List ℕ) (c : Contents) (ps : List Place) (pages : walk per (sound_page per d) (next_page per d) (sectors per + 1) [] (first_page per d) ≡ Ok ps)
    (files : each (file_of per d) (flat_map (entries_of per d) ps) ≡ Ok c.files) (w : Bool) (a o : List ℕ) (m : Mark) (o' : List ℕ) where
  passed : (total v : ℕ) → total ≡ blocks c → v ≡ c.volume
      → MadeAll (walk_made w a per d total (stepped w a (pass_of fresh_mark o) (first_block v (cond (eqb total 1) 0 1) total)) (first_page per d)) m o'
      → pass_of m o' ≡ foldl (stepped w a) (pass_of fresh_mark o) (whole_blocks c)
  unfolding walk_made
  passed total v p q u =
      let s₁ : Pass = stepped w a (pass_of fresh_mark o) (first_block v (cond (eqb total 1) 0 1) total) in
      let s₂ : Pass = stepped w a (pass_of fresh_mark o) (first_block c.volume (if_any c.files 1) (blocks c)) in
      let e₁ : s₁ ≡ s₂ = rw (q, p, first_is c.files) refl in
      let x : Ok (pass_of m o') ≡ Ok (foldl (with_page w a per d total) s₁ ps) = sym u.is ∙ rw (walk_made, pages) refl in
      let y : pass_of m o' ≡ foldl (with_page w a per d total) s₁ ps = cc in
      y ∙ ap (λ (i : ℕ). foldl (with_page w a per d i) s₁ ps) p ∙ ap (λ (i : Pass). foldl (with_page w a per d (blocks c)) i ps) e₁
      ∙ pass_is c w a per d ps files (pass_of fresh_mark o) refl

-- ---- the calls
module _ (per : ℕ) (d : List ℕ) where
  -- 1 to 6, and 7
  archive_refused : (r : Refusal) → contents per d ≡ Err r → archive_of per d ≡ Err r
  unfolding archive_of
  archive_refused r h = rw h refl

  archive_overlong : (c : Contents) → contents per d ≡ Ok c → 4096 < blocks c → archive_of per d ≡ Err Overlong
  unfolding archive_of
  archive_overlong c h l = rw (h, lt-leb (blocks c) 4096 l) refl

  archive_given : (c : Contents) → contents per d ≡ Ok c → blocks c ≤ 4096 → archive_of per d ≡ Ok (archive c)
  unfolding archive_of
  archive_given c h l = rw (h, le-leb (blocks c) 4096 l) refl

  check_as : (r : Refusal) (a : List ℕ) → archive_of per d ≡ Err r → check per d a ≡ Err r
  unfolding check
  check_as r a h = rw h refl

  check_same : (c : Contents) (a : List ℕ) (b : Bool) → archive_of per d ≡ Ok (archive c) → same (archive c) a ≡ b → check per d a ≡ require b NotItsReturn
  unfolding check
  check_same c a b h q = rw (h, q) refl

  -- the survey refuses
  module _ (r : Refusal) (e : Err r ≡ survey per d) where
    pub write_refused : (o : List ℕ) → Hands (archive_of per d) o o (Err r)
    write_refused o = hands_refused (archive_of per d) o r (archive_refused r (survey_refused per d r (sym e))) (Err r) refl

    pub check_refused : (a : List ℕ) → Err r ≡ check per d a
    check_refused a = sym (check_as r a (archive_refused r (survey_refused per d r (sym e))))

-- s is the survey
module _ (per : ℕ) (d : List ℕ) (s : DiskSurvey) (e : Ok s ≡ survey per d) where
  -- the contents of the disk
  record Held : Type 0 where
    pub c : Contents
    pub is : contents per d ≡ Ok c
    pub total : s.archive_blocks ≡ blocks c
    pub volume : s.volume ≡ c.volume
    pub ps : List Place
    pub pages : walk per (sound_page per d) (next_page per d) (sectors per + 1) [] (first_page per d) ≡ Ok ps
    pub files : each (file_of per d) (flat_map (entries_of per d) ps) ≡ Ok c.files
    pub sized : length d ≡ 256 * sectors per

  h : Held
  h =
      let k = survey_given per d s (sym e) in
      let g = contents_given per d k.0 k.4 in
      let p = catalog_given per d g.0 g.1 in
      record {
        c = k.0;
        is = k.4;
        total = ap (λ (y : DiskSurvey). y.archive_blocks) k.8;
        volume = ap (λ (y : DiskSurvey). y.volume) k.8;
        ps = p.0;
        pages = (pages_given per d p.0 p.1).1;
        files = sym (ap (each (file_of per d)) p.2) ∙ g.2;
        sized = catalog_size per d g.0 g.1;
      }

  overlong : 4096 < s.archive_blocks → archive_of per d ≡ Err Overlong
  overlong l = archive_overlong per d h.c h.is (omega (arith, h.total))

  pub write_overlong : (o : List ℕ) → 4096 < s.archive_blocks → Hands (archive_of per d) o o (Err Overlong)
  write_overlong o l = hands_refused (archive_of per d) o Overlong (overlong l) (Err Overlong) refl

  pub check_overlong : (a : List ℕ) → 4096 < s.archive_blocks → Err Overlong ≡ check per d a
  check_overlong a l = sym (check_as per d Overlong a (overlong l))

  pub call_walked : Walked per d (first_page per d)
  call_walked = record { ps = h.ps; is = h.pages; filed = record { sized = h.sized; files = h.c.files; is = h.files } }

  module _ (l : s.archive_blocks ≤ 4096) where
    made : archive_of per d ≡ Ok (archive h.c)
    made = archive_given per d h.c h.is (omega (arith, h.total))

    short : Short h.c.files
    short = names_short per d h.ps h.c.files h.files

    long : length (archive h.c) ≡ 256 * s.archive_blocks
    long = length_archive h.c short ∙ ap (λ (i : ℕ). 256 * i) (sym h.total)

    pub write_short : (o : List ℕ) → length o < 256 * s.archive_blocks → Hands (archive_of per d) o o (Err TrayShort)
    write_short o g = hands_short (archive_of per d) o (archive h.c) made (omega (arith, long)) (Err TrayShort) refl

    pub write_done : (a o : List ℕ) (m : Mark) (o' : List ℕ)
        → MadeAll (walk_made true a per d s.archive_blocks (stepped true a (pass_of fresh_mark o) (first_block s.volume (cond (eqb s.archive_blocks 1) 0 1) s.archive_blocks)) (first_page per d)) m o'
        → 256 * s.archive_blocks ≤ length o → Hands (archive_of per d) o o' (Ok (256 * s.archive_blocks))
    write_done a o m o' u g =
        let x = passed per d h.c h.ps h.pages h.files true a o m o' s.archive_blocks s.volume h.total h.volume u in
        let p = pass_writes h.c short a (pass_of fresh_mark o) refl (omega (arith, h.total)) in
        hands_over_lem (archive_of per d) o o' (archive h.c) made (omega (arith, long)) (ap (λ (y : Pass). y.out) x ∙ put_front p) (Ok (256 * s.archive_blocks)) (ap Ok (sym long))

    pub check_length : (a : List ℕ) → (length a ≡ 256 * s.archive_blocks → ⊥) → Err NotItsReturn ≡ check per d a
    check_length a g = sym (check_same per d h.c a false made (sym (same_length (archive h.c) a (λ q. g (omega (arith, long))))))

    module _ (a : List ℕ) (g : length a ≡ 256 * s.archive_blocks) (o : List ℕ) (m : Mark) (o' : List ℕ)
        (u : MadeAll (walk_made false a per d s.archive_blocks (stepped false a (pass_of fresh_mark o) (first_block s.volume (cond (eqb s.archive_blocks 1) 0 1) s.archive_blocks)) (first_page per d)) m o') where
      equal : m.good ≡ same (archive h.c) a
      equal =
          let x = passed per d h.c h.ps h.pages h.files false a o m o' s.archive_blocks s.volume h.total h.volume u in
          ap (λ (y : Pass). y.good) x ∙ pass_compares h.c short a (pass_of fresh_mark o) refl refl (g ∙ ap (λ (i : ℕ). 256 * i) h.total)

      pub check_passed : m.good ≡ true → Ok tt ≡ check per d a
      check_passed q = sym (check_same per d h.c a true made (sym equal ∙ q))

      pub check_differs : m.good ≡ false → Err NotItsReturn ≡ check per d a
      check_differs q = sym (check_same per d h.c a false made (sym equal ∙ q))

pub ruleset calls = (write_overlong, check_overlong, call_walked, write_short, write_done, check_length, check_passed, check_differs, not-true, not-false, rules)
