-- The survey's numbers are bounded: links by the roll's length, and the fill by 100. Assumes nothing.
use mathlib.Core.Path.{◌≡◌, refl, sym, ap, ◌∙◌}
use mathlib.Core.List.{List, [], ◌∷◌, map}
use Prim.Native.Nat.{ℕ, ◌+◌, ◌*◌, ◌<◌, ◌≤◌}
use native.Mathlib.Nat.{mul-suc}
use native.Mathlib.Numerals.{add-one}
use native.Mathlib.Omega.{arith}
use lib.ListN.{length}
use Rattle.lists.specs.Fill.{Bytes}
use Rattle.lists.specs.Every.{Every}
use Rattle.disk.specs.declared.Place.{Place}
use Rattle.disk.specs.Disk.{sectors}
use Rattle.disk.specs.Percent.{Nearest}
use Rattle.disk.proofs.Percent.{percent_small, rounding}
use Rattle.std.specs.Prelude.{Ok, Err}
use Rattle.outcome.specs.declared.Refusal.{Refusal}
use Rattle.outcome.specs.Outcome.{Outcome, each}
use Rattle.outcome.proofs.Outcome.{gives, refused_given, each_all, each_also, length_each}
use Rattle.catalog.specs.Catalog.{Entry, catalog, pages}
use Rattle.catalog.proofs.Order.{catalog_given, pages_short}
use Rattle.files.specs.Contents.{File, Contents, contents, lists, file_of}
use Rattle.files.proofs.Order.{contents_given, file_given, lists_short}
use Rattle.files.proofs.Proper.{all_short}
use Rattle.files.specs.Survey.{blocks_in}
use Rattle.files.specs.declared.DiskSurvey.{DiskSurvey}
use Rattle.files.specs.Survey.{survey_of, survey, sum_of}

-- a sum of numbers that are at most m
sum_small : (m : ℕ) (l : List (List Place)) → Every (λ (ps : List Place). length ps ≤ m) l → sum_of (map length l) ≤ m * length l
unfolding sum_of
sum_small m [] Every.none = omega arith
sum_small m (ps ∷ l) (Every.more h a) = let i = sum_small m l a in rw mul-suc (omega arith)

-- a file of at most 65,536 bytes is at most 260 blocks
blocks_small : (fs : List File) → Every (λ (f : File). length f.bytes ≤ 65536) fs → blocks_in fs ≤ 260 * length fs
unfolding blocks_in
blocks_small [] Every.none = omega arith
blocks_small (f ∷ fs) (Every.more h a) = let i = blocks_small fs a in omega arith

module _ (n : ℕ) (d : List ℕ) where
  -- what the contents refuse, the survey does
  pub contents_refuse : (r : Refusal) → contents n d ≡ Err r → survey n d ≡ Err r
  unfolding survey
  contents_refuse r h = rw h refl

  -- a survey has such parts
  pub survey_given : (s : DiskSurvey) → survey n d ≡ Ok s
      → (c : Contents) × (ps : List Place) × (es : List Entry) × (ls : List (List Place)) × (contents n d ≡ Ok c) × (pages n d ≡ Ok ps)
      × (catalog n d ≡ Ok es) × (each (lists n d) es ≡ Ok ls) × (s ≡ survey_of n d c ps es ls)
  unfolding survey
  survey_given s h =
      let a = gives (contents n d) _ s h in
      let b = gives (pages n d) _ s a.2 in
      let c = gives (catalog n d) _ s b.2 in
      let e = gives (each (lists n d) c.0) _ s c.2 in
      let y = e.2 in
      (a.0, b.0, c.0, e.0, a.1, b.1, c.1, e.1, cc)

  -- .. and such parts make it
  pub survey_is : (c : Contents) (ps : List Place) (es : List Entry) (ls : List (List Place)) → contents n d ≡ Ok c → pages n d ≡ Ok ps
      → catalog n d ≡ Ok es → each (lists n d) es ≡ Ok ls → survey n d ≡ Ok (survey_of n d c ps es ls)
  unfolding survey
  survey_is c ps es ls a b e l = rw (a, b, e, l) refl

  -- where the contents are read, so is the survey
  pub survey_gives : (c : Contents) → contents n d ≡ Ok c → (s : DiskSurvey) × (survey n d ≡ Ok s)
  survey_gives c h =
      let g = contents_given n d c h in
      let p = catalog_given n d g.0 g.1 in
      let l = each_also (file_of n d) (lists n d) (λ e f w. let t = file_given n d e f w in (t.0, t.1)) g.0 c.files g.2 in
      (survey_of n d c p.0 g.0 l.0, survey_is c p.0 g.0 l.0 h p.1 g.1 l.1)

  -- .. so it refuses as they do
  pub survey_refused : (r : Refusal) → survey n d ≡ Err r → contents n d ≡ Err r
  survey_refused r h = go (contents n d) refl
    where
      go : (o : Outcome Contents) → contents n d ≡ o → contents n d ≡ Err r
      go (Err q) e = let y : survey n d ≡ Err q = contents_refuse q e in e ∙ (cc)
      go (Ok c) e = let g = survey_gives c e in absurd (refused_given (sym h ∙ g.1))

  -- at most 35 n links for the catalog and for each entry
  pub links_bound : (s : DiskSurvey) → survey n d ≡ Ok s → s.links ≤ sectors n * (s.entries + 1)
  links_bound s h =
      let t = survey_given s h in
      let p = pages_short n d t.1 t.5 in
      let l = sum_small (sectors n) t.3 (each_all (lists n d) (λ (ps : List Place). length ps ≤ sectors n) (lists_short n d) t.2 t.3 t.7) in
      let q = length_each (lists n d) t.2 t.3 t.7 in
      rw t.8 (rw (add-one, mul-suc, ← q) (omega arith))

  -- the fill
  pub percent_bound : (s : DiskSurvey) → survey n d ≡ Ok s → s.percent_used ≤ 100
  percent_bound s h = let t = survey_given s h in rw t.8 (percent_small (sectors n) _ (omega arith))

  -- .. which is the nearest number (Req 04)
  pub percent_near : 0 < n → (s : DiskSurvey) → survey n d ≡ Ok s → Nearest (sectors n) s.used s.percent_used
  percent_near some s h = let t = survey_given s h in rw t.8 (rounding.nearest (sectors n) _ (omega arith))

  -- the archive, where the disk is one of bytes
  pub blocks_bound : Bytes d → (s : DiskSurvey) → survey n d ≡ Ok s → s.archive_blocks ≤ 260 * s.entries + 1
  blocks_bound bytes s h =
      let t = survey_given s h in
      let g = contents_given n d t.0 t.4 in
      let b = blocks_small t.0.files (all_short n d bytes t.0 t.4) in
      let q = length_each (file_of n d) g.0 t.0.files g.2 in
      let e : g.0 ≡ t.2 = let x = g.1 in let y = t.6 in cc in
      let l : length g.0 ≡ length t.2 = ap length e in
      rw t.8 (omega arith)
