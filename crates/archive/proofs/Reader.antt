-- What the reader accepts is an archive, and it gives that archive's contents. Assumes nothing.
use mathlib.Core.Path.{◌≡◌, refl, sym, ap, subst, ◌∙◌}
use mathlib.Core.Logic.{◌↔◌}
use mathlib.Core.Bool.{true, cond}
use mathlib.Core.List.{List, [], ◌∷◌, ◌++◌, append_assoc, append-nil}
use Prim.Native.Nat.{ℕ, zero, suc, ◌+◌, ◌*◌, ◌-◌, ◌/◌, ◌≤◌, ◌<◌, min}
use native.Mathlib.Omega.{arith}
use lib.ListN.{length, take, drop, get_or, length-append, length-take, length-drop, take-append-drop, drop_of_length-le}
use lib.Seq.{take_at, drop_at, take_all}
use lib.Dec.{eqb, leb, lit<}
use borrow.Author.Tests.{ne_eqb, eqb-true, leb-true, ltb-true}
use Rattle.std.specs.Prelude.{Ok}
use Rattle.outcome.specs.declared.Refusal.TheVariants.{NotItsReturn}
use Rattle.outcome.specs.Outcome.{◌>>=◌}
use Rattle.outcome.proofs.Outcome.{met, gives}
use Rattle.lists.specs.Fill.{Bytes}
use Rattle.lists.proofs.Split.{by_lt, both_true}
use Rattle.lists.proofs.Bounds.{bytes_append, bytes_take, bytes_drop}
use Rattle.catalog.specs.Catalog.{shown}
use Rattle.files.specs.Contents.{File, Contents, Proper}
use Rattle.lists.specs.Every.{Every, none, more}
use Rattle.files.specs.Survey.{blocks_for, blocks_in, blocks}
use Rattle.archive.specs.Archive.{data_block, data_chain, entry_block, entry_chain, first_block, archive}
use Rattle.archive.specs.Reader.{size_in, entry_in, allowed, sound_entry, part_in, sound_data, entries_from, data_from, sound_first, opened}
use Rattle.lists.specs.Same.{same}
use Rattle.lists.proofs.Equal.{same_eq}
use Rattle.lists.proofs.Select.{below_all}
use Rattle.archive.proofs.Steps.{entries_none, entry_tested, data_tested, data_none, entry_empty, entry_data, data_last, data_more}
use Rattle.archive.proofs.Back.{entry_of, link_is, last_is, chain_first, is_nil_lem, archive_back}

-- ---- the tests
-- what passes is proper
allowed_proper : (f : File) → f.count < 65536 → Bytes f.raw → Bytes f.bytes → allowed (length f.bytes) f ≡ true → Proper f
unfolding allowed
allowed_proper f c r h e =
    let p₁ = both_true _ _ e in
    let p₂ = both_true _ _ p₁.1 in
    let p₃ = both_true _ _ p₂.1 in
    let p₄ = both_true _ _ p₃.1 in
    record {
      kind = eqb-true _ _ p₁.0;
      locked = ltb-true _ _ p₂.0;
      raw_length = eqb-true _ _ p₃.0;
      raw_bytes = r;
      letters = below_all 128 (shown f.raw) (lit< tt) p₄.0;
      count = c;
      bytes = h;
      binary_only = λ no. is_nil_lem f.bytes (eqb-true _ _ (rw (ne_eqb _ _ no) at p₄.1));
    }

-- ---- what was read
-- n blocks s, the first of them block b, are the entries fs
pub record EntriesAre (n b : ℕ) (s : List ℕ) (fs : List File) : Type 0 where
  pub proper : Every Proper fs
  pub is : s ≡ entry_chain b fs
  pub count : n ≡ blocks_in fs

-- they are a data chain of so many bytes, and then entries
pub record DataAre (n b size : ℕ) (s : List ℕ) (r : List ℕ × List File) : Type 0 where
  pub proper : Every Proper r.1
  pub bytes : Bytes r.0
  pub long : length r.0 ≡ size
  pub is : s ≡ data_chain (blocks_for size) b r.0 ++ entry_chain (b + blocks_for size) r.1
  pub count : n ≡ blocks_for size + blocks_in r.1

-- no block, no entry
no_entries : (b : ℕ) (s : List ℕ) → s ≡ [] → EntriesAre 0 b s []
unfolding entry_chain blocks_in
no_entries b s e = record { proper = none; is = e; count = refl }

-- entries are no data, and then entries
no_data_lem : {n b size : ℕ} {s : List ℕ} {fs : List File} → size ≡ 0 → EntriesAre n b s fs → DataAre n b size s ([], fs)
unfolding data_chain
no_data_lem {n} {b} {size} {s} {fs} q e =
    let z : b + 0 ≡ b = omega arith in
    rw q (record { proper = e.proper; bytes = λ k. lit< tt; long = refl; is = rw z e.is; count = omega arith })

-- a list of which the first block is known
in_front_lem : (s x : List ℕ) → same (take 256 s) x ≡ true → s ≡ x ++ drop 256 s
in_front_lem s x e = sym (take-append-drop 256 s) ∙ ap (λ (t : List ℕ). t ++ drop 256 s) (same_eq (take 256 s) x e)

-- an entry block in front of its data and of the other entries
entry_put : (n b : ℕ) (s : List ℕ) (r : List ℕ × List File) → Bytes s → sound_entry n b s ≡ true → DataAre n (b + 1) (size_in s) (drop 256 s) r
    → EntriesAre (suc n) b s (entry_in s r.0 ∷ r.1)
unfolding sound_entry blocks_in entry_in entry_block allowed
entry_put n b s r h e d =
    let f = entry_in s r.0 in
    let t = both_true _ _ (rw (← d.long) at e) in
    let g : DataAre n (b + 1) (length r.0) (drop 256 s) r = rw (← d.long) at d in
    record {
      proper = more (allowed_proper f (omega (arith, h 37, h 38)) (bytes_take 30 (drop 42 s) (bytes_drop 42 s h)) d.bytes t.0) d.proper;
      is = in_front_lem s (entry_of n b f) t.1 ∙ rw (g.is, g.count) (sym (chain_first b f r.1));
      count = omega (arith, g.count);
    }

-- the first 254 of the bytes left, and the others
cut : (size : ℕ) (xs ys : List ℕ) → length xs ≡ min size 254 → length ys ≡ size - 254 → (take 254 (xs ++ ys) ≡ xs) × (drop 254 (xs ++ ys) ≡ ys)
cut size xs ys e q =
    by_lt size 254
    (λ l.
    rw (is_nil_lem ys (omega arith), append-nil xs) (take_all 254 xs (omega arith), drop_of_length-le xs {i = 254} (omega arith)))
    (λ l. (take_at xs ys 254 (omega arith), drop_at xs ys 254 (omega arith)))

-- a data block in front of the data left
data_put : (n b size : ℕ) (s : List ℕ) (r : List ℕ × List File) → Bytes s → length s ≡ 256 * suc n → 0 < size → sound_data b size s ≡ true
    → DataAre n (b + 1) (size - 254) (drop 256 s) r → DataAre (suc n) b size s (part_in size s ++ r.0, r.1)
unfolding sound_data data_chain
data_put n b size s r h l z e d =
    let p = part_in size s in
    let q : length p ≡ min size 254 = rw (length-take, length-take, length-drop) (omega arith) in
    let c = cut size p r.0 q d.long in
    let k : blocks_for size ≡ suc (blocks_for (size - 254)) = omega arith in
    let a : b + suc (blocks_for (size - 254)) ≡ b + 1 + blocks_for (size - 254) = omega arith in
    record {
      proper = d.proper;
      bytes = bytes_append p r.0 (bytes_take size (take 254 (drop 2 s)) (bytes_take 254 (drop 2 s) (bytes_drop 2 s h))) d.bytes;
      long = rw length-append (omega (arith, d.long));
      is =
          rw (k, c.0, c.1, append_assoc, last_is (blocks_for (size - 254)) size (sym k), a, ← d.is)
          (in_front_lem s (data_block (cond (leb size 254) 0 (b + 1)) p) e);
      count = omega (arith, d.count);
    }

mutual
  -- what was read as entries, or as data, is that
  entries_are : (n b : ℕ) (s : List ℕ) (fs : List File) → Bytes s → length s ≡ 256 * n → entries_from n b s ≡ Ok fs → EntriesAre n b s fs
  entries_are zero b s fs h l e =
      let q : [] ≡ fs = cc (e, entries_none b s) in
      rw q at (no_entries b s (is_nil_lem s l))
  entries_are (suc n) b s fs h l e =
      let t = entry_tested n b s e in
      let g = bytes_drop 256 s h in
      let m : length (drop 256 s) ≡ 256 * n = rw length-drop (omega arith) in
      by_lt 0 (size_in s)
      (λ some.
      let u = gives (data_from n (b + 1) (size_in s) (drop 256 s)) _ _ (sym (entry_data n b s t (λ q. omega arith)) ∙ e) in
      let q : entry_in s u.0.0 ∷ u.0.1 ≡ fs = cc u.2 in
      rw q at (entry_put n b s u.0 h t (data_are n (b + 1) (size_in s) (drop 256 s) u.0 g m some u.1)))
      (λ empty.
      let z : size_in s ≡ 0 = omega arith in
      let u = gives (entries_from n (b + 1) (drop 256 s)) _ _ (sym (entry_empty n b s t z) ∙ e) in
      let q : entry_in s [] ∷ u.0 ≡ fs = cc u.2 in
      rw q at (entry_put n b s ([], u.0) h t (no_data_lem z (entries_are n (b + 1) (drop 256 s) u.0 g m u.1))))

  data_are : (n b size : ℕ) (s : List ℕ) (r : List ℕ × List File) → Bytes s → length s ≡ 256 * n → 0 < size → data_from n b size s ≡ Ok r
      → DataAre n b size s r
  data_are zero b size s r h l z e = absurd (data_none b size s e)
  data_are (suc n) b size s r h l z e =
      let t = data_tested n b size s e in
      let g = bytes_drop 256 s h in
      let m : length (drop 256 s) ≡ 256 * n = rw length-drop (omega arith) in
      by_lt 254 size
      (λ full.
      let u = gives (data_from n (b + 1) (size - 254) (drop 256 s)) _ _ (sym (data_more n b size s t full) ∙ e) in
      let x : List ℕ × List File = (part_in size s ++ u.0.0, u.0.1) in
      let q : x ≡ r = cc u.2 in
      rw q at (data_put n b size s u.0 h l z t (data_are n (b + 1) (size - 254) (drop 256 s) u.0 g m (omega arith) u.1)))
      (λ last.
      let u = gives (entries_from n (b + 1) (drop 256 s)) _ _ (sym (data_last n b size s t last) ∙ e) in
      let x : List ℕ × List File = (part_in size s ++ [], u.0) in
      let q : x ≡ r = rw append-nil (cc u.2) in
      let y : size - 254 ≡ 0 = omega arith in
      rw q at (data_put n b size s ([], u.0) h l z t (no_data_lem y (entries_are n (b + 1) (drop 256 s) u.0 g m u.1))))

-- ---- the whole
-- what the test of block 0 says
first_tested : (n : ℕ) (a : List ℕ) → sound_first n a ≡ true
    → (length a ≡ 256 * (1 + n)) × (1 + n ≤ 4096) × (a ≡ first_block (get_or a 0 0) (cond (eqb 0 n) 0 1) (1 + n) ++ drop 256 a)
unfolding sound_first
first_tested n a e =
    let p = both_true _ _ e in
    let q = both_true _ _ p.1 in
    (eqb-true _ _ p.0, leb-true _ _ q.0, in_front_lem a _ q.1)

-- a is the archive of the contents c, which are proper and within the limit
abbrev pub Archived : List ℕ → Contents → Type 0
Archived a c = Every Proper c.files × (c.volume < 256) × (blocks c ≤ 4096) × (a ≡ archive c)

-- block 0 in front of the entries
first_put : (n : ℕ) (a : List ℕ) (fs : List File) → Bytes a → sound_first n a ≡ true → EntriesAre n 1 (drop 256 a) fs
    → Archived a (record { volume = get_or a 0 0; files = fs })
unfolding archive
first_put n a fs h e r =
    let f = first_tested n a e in
    (r.proper, h 0, omega (arith, f.1, r.count), f.2 ∙ rw (← link_is fs 0 n 1 (omega (arith, r.count)), r.is, r.count) refl)

-- what is accepted is an archive
opened_sound : (a : List ℕ) (c : Contents) → Bytes a → opened a ≡ Ok c → Archived a c
unfolding opened
opened_sound a c h e =
    let n = length a / 256 - 1 in
    let t = met (sound_first n a) NotItsReturn (entries_from n 1 (drop 256 a) >>= λ fs. Ok (record { volume = get_or a 0 0; files = fs })) e in
    let u = gives (entries_from n 1 (drop 256 a)) _ _ t.1 in
    let m : length (drop 256 a) ≡ 256 * n = rw length-drop (omega (arith, (first_tested n a t.0).0)) in
    let x : Contents = record { volume = get_or a 0 0; files = u.0 } in
    let y : x ≡ c = cc u.2 in
    subst (Archived a) y (first_put n a u.0 h t.0 (entries_are n 1 (drop 256 a) u.0 (bytes_drop 256 a h) m u.1))

-- The reader accepts exactly the archives of proper contents, and gives these contents.
pub opened_is : (a : List ℕ) (c : Contents) → Bytes a → (opened a ≡ Ok c) ↔ Archived a c
opened_is a c h = (opened_sound a c h, λ s. rw s.3 (archive_back c s.0 s.2))
