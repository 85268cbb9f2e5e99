-- What the calls wrote, put on a disk, is read again: the contracts of the two writers joined with the catalog's definitions. And the trial entry of
-- document 01, with the smallest names that are not read as they were written. Assumes nothing.
use mathlib.Core.Path.{◌≡◌, refl, sym, ◌∙◌}
use mathlib.Core.Bool.{Bool, true, false, not}
use mathlib.Core.List.{List, [], ◌∷◌, ◌++◌}
use Prim.Native.Nat.{ℕ, ◌+◌, ◌*◌, ◌<◌, ◌≤◌}
use lib.ListN.{length, get_or, take, drop, replicate}
use lib.Seq.{take_at}
use lib.Dec.{eqb, leb}
use borrow.Author.Tests.{leb-true}
use Rattle.lists.specs.Select.{all, among}
use Rattle.lists.specs.Words.{word_at}
use Rattle.std.specs.Prelude.{Ok}
use Rattle.outcome.specs.declared.Refusal.TheVariants.{UnwritableName, PageFull}
use Rattle.outcome.specs.Outcome.{require, ◌>>◌, Hands}
use Rattle.outcome.proofs.Outcome.{hands_given, then_gives, required, met}
use Rattle.disk.specs.declared.Place.{Place}
use Rattle.disk.specs.Disk.{place, bytes_of}
use Rattle.catalog.specs.Catalog.{trimmed, shown, kind_of, entry_from, entry_at}
use Rattle.records.specs.Records.{low_bytes, writable, name_field, entry_record, entry_written, name_at, writables, page_record, entry_count, page_written}
use Rattle.records.specs.ReadBack.{ReadsAs}
use Rattle.records.proofs.Entries.{length_record}
use Rattle.records.proofs.Page.{length_page, writables_at}
use Rattle.records.proofs.Back.{entry_same, page_back}

-- ---- an entry
module _ (p : Place) (kind : ℕ) (locked : Bool) (s : List ℕ) (count : ℕ) where
  entry_given : (w : List ℕ) → entry_written p kind locked s count ≡ Ok w → (writable s ≡ true) × (entry_record p kind locked s count ≡ w)
  unfolding entry_written
  entry_given w e =
      let m = met (writable s) UnwritableName (Ok (entry_record p kind locked s count)) e in
      let q : entry_record p kind locked s count ≡ w = cc m.1 in
      (m.0, q)

  -- its 35 bytes, as the call left them, stand in d from x on
  pub written_entry : (before after : List ℕ) (m : ℕ) → Hands (entry_written p kind locked s count) before after (Ok m)
      → (d : List ℕ) (x : ℕ) → take 35 (drop x d) ≡ take 35 after
      → count < 65536 → among 0 s ≡ false → trimmed s ≡ s → ReadsAs (entry_from d x) p kind locked s count
  written_entry before after m h d x on c f t =
      let g = hands_given m h refl in
      let e = entry_given g.0 g.1 in
      let l : length g.0 ≡ 35 = rw (← e.1) (length_record p kind locked s count) in
      let a : take 35 after ≡ entry_record p kind locked s count = rw g.3 (take_at g.0 _ 35 l ∙ sym e.1) in
      entry_same d x p kind locked s count (on ∙ a) c e.0 f t

-- ---- a page
module _ (header s : List ℕ) where
  page_given : (w : List ℕ) → page_written header s ≡ Ok w
      → ((entry_count s ≤ 7) × (writables s (entry_count s) ≡ true)) × (page_record header s (entry_count s) ≡ w)
  unfolding page_written
  page_given w e =
      let few = require (leb (entry_count s) 7) PageFull in
      let named = require (writables s (entry_count s)) UnwritableName in
      let m = then_gives (few >> named) (Ok (page_record header s (entry_count s))) w e in
      let k = then_gives few named tt m.0 in
      let q : page_record header s (entry_count s) ≡ w = cc m.1 in
      ((leb-true (entry_count s) 7 (required _ PageFull k.0), required _ UnwritableName k.1), q)

  -- its 256 bytes, as the call left them, are the sector of d at p: entry i is read as it was written
  pub written_page : (before after : List ℕ) (k : ℕ) → Hands (page_written header s) before after (Ok k)
      → (n : ℕ) (d : List ℕ) (p : Place) → bytes_of n d p ≡ take 256 after → (i : ℕ) → i < entry_count s
      → word_at s (37 * i + 35) < 65536 → among 0 (name_at s i) ≡ false → trimmed (name_at s i) ≡ name_at s i
      → ReadsAs (entry_at n d p i) (place (get_or s (37 * i) 0) (get_or s (37 * i + 1) 0)) (get_or s (37 * i + 2) 0) (not (eqb (get_or s (37 * i + 3) 0) 0))
      (name_at s i) (word_at s (37 * i + 35))
  written_page before after k h n d p on i b c f t =
      let g = hands_given k h refl in
      let e = page_given g.0 g.1 in
      let m = entry_count s in
      let l : length g.0 ≡ 256 = rw (← e.1) (length_page header s m e.0.0) in
      let a : take 256 after ≡ page_record header s m = rw g.3 (take_at g.0 _ 256 l ∙ sym e.1) in
      page_back n d p header s m e.0.0 (on ∙ a) i b (writables_at s m i e.0.1 b) c f t

-- ---- cases
-- locked Binary "A" at 12h/0Fh, 2 sectors: 12 0F 84 C1, 29 of A0, 02 00
pub trial_entry : entry_record (place 0x12 0x0F) 4 true (0x41 ∷ []) 2 ≡ 0x12 ∷ 0x0F ∷ 0x84 ∷ 0xC1 ∷ (replicate 29 0xA0 ++ (0x02 ∷ 0x00 ∷ []))
unfolding entry_record name_field kind_of
trial_entry = refl

-- a name of one byte 0 can be written, and is written with 80h
pub trial_zero : (writable (0 ∷ []) ≡ true) × (name_field (0 ∷ []) ≡ 0x80 ∷ replicate 29 0xA0)
unfolding writable low_bytes all name_field
trial_zero = (refl, refl)

-- a name of one space can be written, and is shown empty
pub trial_space : (writable (32 ∷ []) ≡ true) × (shown (name_field (32 ∷ [])) ≡ [])
unfolding writable low_bytes all name_field shown trimmed
trial_space = (refl, refl)
