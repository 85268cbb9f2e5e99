-- Names as they are cut, proved. Assumes nothing.
use mathlib.Core.Path.{◌≡◌, refl, ap, sym, ◌∙◌}
use mathlib.Core.Bool.{true, false}
use mathlib.Core.Option.{none}
use mathlib.Core.List.{List, [], ◌∷◌, ◌++◌, map, flat_map}
use Prim.Native.Nat.{ℕ, ◌+◌, ◌*◌, ◌/◌, ◌%◌}
use native.Mathlib.Omega.{arith}
use lib.ListN.{length, get_or, take, drop, replicate, length-append, length-replicate}
use lib.Seq.{get_or-append-add, drop-append-add}
use borrow.Author.Tests.{ne_eqb}
use Rattle.lists.specs.Same.{same}
use Rattle.lists.specs.Fill.{padded, tab, below}
use Rattle.lists.specs.Select.{all, filter, take_while, among}
use Rattle.std.specs.Prelude.{Ok, Err}
use Rattle.outcome.specs.declared.Refusal.TheVariants.{BadLetter}
use Rattle.outcome.specs.Outcome.{Outcome, each}
use Rattle.disk.specs.Disk.{place, on_disk, sized, per_of}
use Rattle.disk.specs.Vtoc.{one_of, valid_table, tabled, readable}
use Rattle.disk.specs.Chain.{walk}
use Rattle.disk.proofs.Chain.{bare, budget, bare_bad, bare_end}
use Rattle.catalog.specs.Catalog.{Entry, kind_of, shown, trimmed, valid_file, live, entry_at, entries_of, sound_page, last_page, next_page, first_page, catalog}
use Rattle.catalog.proofs.Names.{shown_plain}
use Rattle.catalog.proofs.Order.{page_walk, page_refuses, pages_give}
use Rattle.files.specs.Contents.{File, Contents, contents, next_list, whole_link, sound_list, list_walk, pairs_of, file_of, bytes_in}
use Rattle.files.specs.Survey.{blocks_in, last_named, fetched}
use Rattle.archive.specs.Archive.{archive, archive_of, first_block, entry_chain, entry_block}
use Rattle.agreement.specs.Agreement.{flat, EqualContents}
use Rattle.agreement.specs.Names.{Names as Cases, cut, table, page, disk, holding}

-- what stands behind the zeros
abbrev rest : ℕ → List ℕ
rest b = table ++ (page b ++ replicate 73216 0)

-- behind a front of n elements
past : (a c : List ℕ) (n k : ℕ) → length a ≡ n → get_or (a ++ c) (n + k) 0 ≡ get_or c k 0
past a c n k e = rw (← e) (get_or-append-add a c k 0)

past_part : (a c : List ℕ) (n k : ℕ) → length a ≡ n → drop (n + k) (a ++ c) ≡ drop k c
past_part a c n k e = rw (← e) (drop-append-add a c k)

-- the one entry
abbrev entry : ℕ → Entry
entry b = record { list = place 18 0; kind = 4; locked = 0; raw = cut b; count = 1 }

-- .. and its file
abbrev only : ℕ → File
only b = record { kind = 4; locked = 0; raw = cut b; count = 1; bytes = [] }

-- the first name byte of the first file
abbrev name_byte : Outcome Contents → ℕ
name_byte (Err r) = 0
name_byte (Ok c) = elim c.files [ [] ↦ 0 | f ∷ fs ↦ get_or f.raw 0 0 ]

-- of seven entries the first alone is in use
one_live : (e : ℕ → Entry) → live (e 0) ≡ true → live (e 1) ≡ false → live (e 2) ≡ false → live (e 3) ≡ false → live (e 4) ≡ false → live (e 5) ≡ false → live (e 6) ≡ false
    → filter live (map e (below 7)) ≡ e 0 ∷ []
unfolding filter tab
one_live e h h₁ h₂ h₃ h₄ h₅ h₆ = rw (h, h₁, h₂, h₃, h₄, h₅, h₆) refl

module _ (b : ℕ) where
  -- its bytes, from the VTOC on
  at : (k : ℕ) → get_or (disk b) (69632 + k) 0 ≡ get_or (rest b) k 0
  unfolding disk
  at k = past (replicate 69632 0) (rest b) 69632 k (length-replicate {A = ℕ} 69632 0)

  from : (k : ℕ) → drop (69632 + k) (disk b) ≡ drop k (rest b)
  unfolding disk
  from k = past_part (replicate 69632 0) (rest b) 69632 k (length-replicate {A = ℕ} 69632 0)

  -- its size
  disk_long : length (disk b) ≡ 143360
  unfolding disk padded
  disk_long =
      let z : List ℕ = replicate 73216 0 in
      let t : length table ≡ 256 = refl in
      let p : length (page b) ≡ 256 = refl in
      omega
      (arith, length-append (replicate {A = ℕ} 69632 0) (rest b), length-append table (page b ++ z), length-append (page b) z, length-replicate {A = ℕ} 69632 0, length-replicate {A = ℕ} 73216 0)

  -- the VTOC
  table_read : readable 16 (disk b) ≡ Ok tt
  unfolding readable sized tabled valid_table one_of padded
  table_read = rw (disk_long, at 52, at 53) refl

  -- the name bytes
  name_is : take 30 (drop 69902 (disk b)) ≡ cut b
  unfolding padded
  name_is = ap (take 30) (from 270)

  -- the entry
  first : entry_at 16 (disk b) (place 17 1) 0 ≡ entry b
  unfolding kind_of padded
  first = λ i.
      record {
        list = place (at 267 i) (at 268 i);
        kind = kind_of (at 269 i % 128);
        locked = at 269 i / 128;
        raw = name_is i;
        count = at 300 i + 256 * at 301 i;
      }

  -- it is the only one of its page in use
  entries_are : entries_of 16 (disk b) (place 17 1) ≡ entry b ∷ []
  unfolding entries_of tab valid_file padded
  entries_are =
      one_live (entry_at 16 (disk b) (place 17 1)) (ap valid_file (at 267)) (ap valid_file (at 302)) (ap valid_file (at 337)) (ap valid_file (at 372)) (ap valid_file (at 407)) (ap valid_file (at 442)) (ap valid_file (at 477))
      ∙ ap (λ (e : Entry). e ∷ []) first

  -- it is the last page
  last_is : next_page 16 (disk b) (place 17 1) ≡ none
  unfolding next_page last_page padded
  last_is = rw (at 257) refl

  -- its list is the last too, and has no pair
  lists_are : list_walk 16 (disk b) (place 18 0) ≡ Ok (place 18 0 ∷ [])
  unfolding list_walk walk on_disk among sound_list whole_link next_list padded
  lists_are = rw (at 4097) refl

  pairs_are : pairs_of 16 (disk b) (place 18 0) ≡ []
  unfolding pairs_of take_while tab padded
  pairs_are = rw (at 4108) refl

  -- the file
  file_is : file_of 16 (disk b) (entry b) ≡ Ok (only b)
  unfolding file_of flat_map all bytes_in
  file_is = rw (lists_are, pairs_are) refl

  -- the pages, where the name is plain, and where it is not
  page_plain : (b ≡ 0x80 → ⊥) → sound_page 16 (disk b) (place 17 1) ≡ Ok tt
  unfolding sound_page all among
  page_plain h = rw (entries_are, ne_eqb 128 b (λ e. h (sym e))) refl

  first_page_lem : first_page 16 (disk b) ≡ place 17 1
  unfolding padded
  first_page_lem = λ i. place (at 1 i) (at 2 i)

  walk_begins : page_walk 16 (disk b) ≡ bare 16 (sound_page 16 (disk b)) (next_page 16 (disk b)) 561 (place 17 1)
  walk_begins = budget 16 _ _ 561 _ ∙ ap (bare 16 (sound_page 16 (disk b)) (next_page 16 (disk b)) 561) first_page_lem

  catalog_is : (b ≡ 0x80 → ⊥) → catalog 16 (disk b) ≡ Ok (entry b ∷ [])
  unfolding on_disk flat_map
  catalog_is h =
      pages_give 16 (disk b) (place 17 1 ∷ []) table_read (walk_begins ∙ bare_end 16 _ _ 560 (place 17 1) refl (page_plain h) last_is)
      ∙ ap (λ (es : List Entry). Ok (es ++ [])) entries_are

  contents_are : (b ≡ 0x80 → ⊥) → contents 16 (disk b) ≡ Ok (holding b)
  unfolding contents each padded
  contents_are h = rw (catalog_is h, file_is, at 6) refl

  -- its size says that it has 16 sectors a track
  per_is : per_of (disk b) ≡ 16
  unfolding per_of
  per_is = rw disk_long refl

  held_is : (b ≡ 0x80 → ⊥) → contents (per_of (disk b)) (disk b) ≡ Ok (holding b)
  held_is h = rw per_is (contents_are h)

  archived_is : (b ≡ 0x80 → ⊥) → archive_of (per_of (disk b)) (disk b) ≡ Ok (archive (holding b))
  unfolding archive_of blocks_in
  archived_is h = rw (held_is h) refl

-- one that shows "A" is fetched by it
fetched_as : (b : ℕ) → (b ≡ 0x80 → ⊥) → shown (cut b) ≡ 0x41 ∷ [] → fetched (per_of (disk b)) (disk b) (0x41 ∷ []) ≡ Ok []
unfolding fetched last_named same
fetched_as b h e = rw (held_is b h, e) refl

-- 80h
page_bad : sound_page 16 (disk 0x80) (place 17 1) ≡ Err BadLetter
unfolding sound_page all among
page_bad = rw (entries_are 0x80) refl

bad_is : contents (per_of (disk 0x80)) (disk 0x80) ≡ Err BadLetter
unfolding contents on_disk
bad_is =
    let c : catalog 16 (disk 0x80) ≡ Err BadLetter =
    page_refuses 16 (disk 0x80) BadLetter (table_read 0x80) (walk_begins 0x80 ∙ bare_bad 16 _ _ 560 (place 17 1) BadLetter refl page_bad)
    in
    rw (per_is 0x80, c) refl

-- C1h and 41h are two numbers
differ : ◌≡◌ {A = ℕ} 0xC1 0x41 → ⊥
differ e = omega arith

-- the contents of two disks that have them
same_held : (a b : ℕ) → (a ≡ 0x80 → ⊥) → (b ≡ 0x80 → ⊥) → EqualContents (flat (disk a)) (flat (disk b)) → a ≡ b
same_held a b h k e = ap name_byte (sym (held_is a h) ∙ e.1 ∙ sym e.2 ∙ held_is b k)

-- byte 42 of the first entry block
archives_differ : archive (holding 0xC1) ≡ archive (holding 0x41) → ⊥
unfolding shown trimmed archive first_block entry_chain entry_block padded
archives_differ e = differ (ap (λ (a : List ℕ). get_or a 298 0) e)

pub names : Cases
unfolding shown trimmed
names =
    record {
      long = disk_long;
      held = held_is;
      bad = bad_is;
      alike = (refl, refl);
      found = (fetched_as 0xC1 (λ q. omega arith) refl, fetched_as 0x41 (λ q. omega arith) refl);
      apart = λ e. differ (same_held 0xC1 0x41 (λ q. omega arith) (λ q. omega arith) e);
      archived = archived_is;
      archives = archives_differ;
      plain = λ f p. shown_plain f.raw p.letters;
    }
