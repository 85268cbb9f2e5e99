-- What each return of the calls on a flat disk gives. Assumes nothing.
use mathlib.Core.Path.{◌≡◌, refl, sym, ap, ◌∙◌}
use mathlib.Core.Logic.{◌⊎◌, inl, inr, ⊎_elim}
use mathlib.Core.Bool.{Bool}
use mathlib.Core.List.{List, map, flat_map}
use Prim.Native.Nat.{ℕ, ◌+◌, ◌-◌}
use native.Mathlib.Nat.{zero-add}
use lib.ListN.{length}
use borrow.Author.Rules.{rules}
use Rattle.std.specs.Prelude.{Ok, Err}
use Rattle.outcome.specs.declared.Refusal.{Refusal}
use Rattle.outcome.specs.Outcome.{Outcome, each}
use Rattle.outcome.proofs.Outcome.{refused_given, refuses, map_refuses}
use Rattle.disk.specs.declared.Place.{Place}
use Rattle.disk.specs.declared.VolumeTableOfContents.{VolumeTableOfContents}
use Rattle.disk.specs.Disk.{per_of, byte_of, sectors}
use Rattle.disk.specs.Vtoc.{vtoc, table_of, parsed, free_below, percent}
use Rattle.catalog.specs.Catalog.{Entry, entries_of, pages, catalog}
use Rattle.catalog.proofs.Order.{pages_given, catalog_given, catalog_refused}
use Rattle.files.specs.declared.Totals.{Totals}
use Rattle.files.specs.declared.DiskSurvey.{DiskSurvey}
use Rattle.files.specs.Contents.{Contents, contents, lists, file_of}
use Rattle.files.specs.Survey.{blocks_in, sum_of, survey}
use Rattle.files.specs.Totals.{none_yet, totals}
use Rattle.files.proofs.Order.{contents_given}
use Rattle.files.proofs.Proper.{catalog_size}
use Rattle.files.proofs.Surveys.{contents_refuse, survey_is}
use Rattle.files.proofs.Sums as sums

-- ---- the totals of a disk
module _ (n : ℕ) (d : List ℕ) (g : ℕ → Entry → Bool) where
  -- what is found on a disk with these contents
  pub record Found (c : Contents) (t : Totals) : Type 0 where
    pub ps : List Place
    pub es : List Entry
    pub ls : List (List Place)
    pub pages : pages n d ≡ Ok ps
    pub catalog : catalog n d ≡ Ok es
    pub lists : each (lists n d) es ≡ Ok ls
    pub files : each (file_of n d) es ≡ Ok c.files
    pub volume : c.volume ≡ byte_of n d vtoc 6
    pub is : t ≡ sums.plus n d g none_yet (length ps) es c.files ls

  -- the contents are given: so are the totals
  pub totals_given : (c : Contents) → contents n d ≡ Ok c → (t : Totals) × (totals n d g ≡ Ok t) × Found c t
  unfolding totals
  totals_given c h =
      let w = contents_given n d c h in
      let p = catalog_given n d w.0 w.1 in
      let s = catalog_size n d w.0 w.1 in
      let e : each (file_of n d) (flat_map (entries_of n d) p.0) ≡ Ok c.files = sym (ap (each (file_of n d)) p.2) ∙ w.2 in
      let t = sums.pages_given n d g s p.0 none_yet c.files e in (
        sums.plus n d g none_yet (length p.0) (flat_map (entries_of n d) p.0) c.files t.0,
        rw p.1 t.2,
        record {
          ps = p.0;
          es = w.0;
          ls = t.0;
          pages = p.1;
          catalog = w.1;
          lists = ap (each (lists n d)) p.2 ∙ t.1;
          files = w.2;
          volume = w.3;
          is = sym (ap (λ (y : List Entry). sums.plus n d g none_yet (length p.0) y c.files t.0) p.2);
        },
      )

  -- where the contents refuse: the catalog, or an entry
  split : (r : Refusal) → contents n d ≡ Err r
      → (catalog n d ≡ Err r)
      ⊎ ((es : List Entry) × (catalog n d ≡ Ok es) × (each (file_of n d) es ≡ Err r))
  unfolding contents
  split r h = ⊎_elim inl (λ k. inr (k.0, k.1, map_refuses _ (each (file_of n d) k.0) k.2)) (refuses (catalog n d) _ r h)

  -- they refuse as the contents do
  pub totals_refused : (r : Refusal) → contents n d ≡ Err r → totals n d g ≡ Err r
  unfolding totals
  totals_refused r h =
      ⊎_elim (λ k. rw (catalog_refused n d r k) refl)
      (λ k.
      let p = catalog_given n d k.0 k.1 in
      let s = catalog_size n d k.0 k.1 in
      let e : each (file_of n d) (flat_map (entries_of n d) p.0) ≡ Err r = sym (ap (each (file_of n d)) p.2) ∙ k.2 in
      rw p.1 (sums.pages_refused n d g s p.0 none_yet r e))
      (split r h)

  -- a refusal of the totals is that of the contents
  pub total_refused : (r : Refusal) → Err r ≡ totals n d g → contents n d ≡ Err r
  total_refused r e = go (contents n d) refl
    where
      go : (o : Outcome Contents) → contents n d ≡ o → contents n d ≡ Err r
      go (Err a) q = let z : Err r ≡ Err a = e ∙ totals_refused a q in let y : r ≡ a = cc in q ∙ ap Err (sym y)
      go (Ok c) q = let t = totals_given c q in absurd (refused_given (e ∙ t.1))

  -- no refusal: there are contents
  pub total_given : (t : Totals) → Ok t ≡ totals n d g → (c : Contents) × (contents n d ≡ Ok c) × Found c t
  total_given t e = go (contents n d) refl
    where
      go : (o : Outcome Contents) → contents n d ≡ o → (c : Contents) × (contents n d ≡ Ok c) × Found c t
      go (Err r) q = absurd (refused_given (sym (totals_refused r q) ∙ sym e))
      go (Ok c) q =
          let w = totals_given c q in
          let z : Ok t ≡ Ok w.0 = e ∙ w.1 in
          let y : t ≡ w.0 = cc in
          (c, q, rw y w.2)

-- ---- the survey: t are the totals, v is the table
module _ (per : ℕ) (d : List ℕ) (g : ℕ → Entry → Bool) where
  pub survey_none : (v : Outcome DiskSurvey) (r : Refusal) → v ≡ Err r → Err r ≡ totals per d g → v ≡ survey per d
  survey_none v r q e = q ∙ sym (contents_refuse per d r (total_refused per d g r e))

  module _ (t : Totals) (e : Ok t ≡ totals per d g) where
    -- the table of a disk with contents is read
    table_is : (es : List Entry) → catalog per d ≡ Ok es → parsed per d ≡ Ok (table_of per d)
    unfolding parsed
    table_is es f =
        let p = catalog_given per d es f in
        rw (pages_given per d p.0 p.1).0 refl

    pub survey_read : (v : Outcome DiskSurvey) (r : Refusal) → v ≡ Err r → Err r ≡ parsed per d → v ≡ survey per d
    survey_read v r a q = let f = (total_given per d g t e).2 in absurd (refused_given (q ∙ table_is f.es f.catalog))

    pub survey_done : (v : VolumeTableOfContents) → Ok v ≡ parsed per d
        → Ok (record {
          volume = v.diskette_volume_number;
          entries = t.entries;
          free = v.free;
          used = v.used;
          percent_used = v.percent_used;
          archive_blocks = t.blocks;
          links = t.links;
        }) ≡ survey per d
    unfolding table_of
    survey_done v q =
        let k = total_given per d g t e in
        let f = k.2 in
        let y : Ok v ≡ Ok (table_of per d) = q ∙ table_is f.es f.catalog in
        let w : v ≡ table_of per d = cc in
        let s = survey_is per d k.0 f.ps f.es f.ls k.1 f.pages f.catalog f.lists in
        let a : v.diskette_volume_number ≡ k.0.volume = ap (λ (y : VolumeTableOfContents). y.diskette_volume_number) w ∙ sym f.volume in
        let n₁ : t.entries ≡ length f.es = ap (λ (y : Totals). y.entries) f.is ∙ zero-add (length f.es) in
        let n₂ : t.blocks ≡ 1 + blocks_in k.0.files = ap (λ (y : Totals). y.blocks) f.is in
        let n₃ : t.links ≡ length f.ps + sum_of (map length f.ls) =
        ap (λ (y : Totals). y.links) f.is ∙ ap (λ (m : ℕ). m + sum_of (map length f.ls)) (zero-add (length f.ps)) in
        let b₁ : v.free ≡ free_below per d 35 = ap (λ (y : VolumeTableOfContents). y.free) w in
        let b₂ : v.used ≡ sectors per - free_below per d 35 = ap (λ (y : VolumeTableOfContents). y.used) w in
        let b₃ : v.percent_used ≡ percent (sectors per) (sectors per - free_below per d 35) = ap (λ (y : VolumeTableOfContents). y.percent_used) w in
        (λ i. Ok (record { volume = a i; entries = n₁ i; free = b₁ i; used = b₂ i; percent_used = b₃ i; archive_blocks = n₂ i; links = n₃ i })) ∙ sym s

-- by the disk's own size
pub survey_at : (d : List ℕ) (v : Outcome DiskSurvey) (n : ℕ) → n ≡ per_of d → v ≡ survey n d → v ≡ survey (per_of d) d
survey_at d v n e q = rw e at q

pub ruleset surveys = (survey_at, survey_done, rules)
