-- The file of an entry, made of the sectors whose starts were collected along its lists. Assumes nothing.
use Rattle.std.specs.Prelude.{Ok}
use mathlib.Core.Path.{◌≡◌, refl, sym, ap, subst, ◌∙◌}
use mathlib.Core.Bool.{Bool, true}
use mathlib.Core.List.{List, [], ◌∷◌, ◌++◌, flat_map}
use Prim.Native.Nat.{ℕ, zero, suc, ◌+◌, ◌*◌, ◌<◌, ◌≤◌}
use native.Mathlib.Nat.{mul-zero}
use native.Mathlib.Omega.{arith}
use lib.ListN.{length, take, drop, get_or, replicate, length-take, length-drop, length-append, length-replicate, get_or-append, take-append-drop}
use lib.Seq.{take_at, take_all, take-take, take-append-le, drop-append-le}
use lib.Dec.{leb}
use borrow.Author.Tests.{le-leb}
use borrow.Author.Rules.{rules}
use Rattle.lists.specs.Every.{Every, none, more}
use Rattle.lists.specs.Select.{all}
use Rattle.lists.specs.Words.{word_at}
use Rattle.lists.proofs.Split.{by_lt, both_true}
use Rattle.lists.proofs.Put.{put_is, put_front}
use Rattle.lists.proofs.Chunks.{flat_map_append, length_chunks}
use Rattle.disk.specs.declared.Place.{Place}
use Rattle.disk.specs.Disk.{place, start, sectors, on_disk, word_of, bytes_of}
use Rattle.catalog.specs.declared.EntryHead.{EntryHead}
use Rattle.catalog.specs.Catalog.{Entry, entry_from}
use Rattle.catalog.specs.Listing.{entry_head}
use Rattle.files.specs.Contents.{File, bytes_in, pairs_of, file_of}
use Rattle.files.specs.Threads.{head_of}
use Rattle.files.specs.Copies.{Roomy, Whole, Copied, CopiedAll, walk_of}
use Rattle.files.proofs.Order.{file_given}
use Rattle.files.proofs.Proper.{all_long, bytes_in_binary}
use Rattle.files.proofs.Sums.{stated, first}
use Rattle.files.proofs.Datas.{cut_nil, cut_4, joined_lists}
use Rattle.writer.specs.declared.Mark.{Mark}
use Rattle.writer.specs.Passes.{pass_of, sector_at, size_by, start_by, stated_in, collected, file_with, with_file, with_entry, Made, Sectors, Has, spot, start_of}

-- ---- fronts of lists
every_take : {P : ℕ → Type 0} {xs : List ℕ} (k : ℕ) → Every P xs → Every P (take k xs)
every_take zero e = none
every_take (suc k) none = none
every_take (suc k) (more p ps) = more p (every_take k ps)

all_take : {A : Type 0} (t : A → Bool) (k : ℕ) (xs : List A) → all t xs ≡ true → all t (take k xs) ≡ true
unfolding all
all_take t zero xs h = refl
all_take t (suc k) [] h = refl
all_take t (suc k) (x ∷ xs) h = let b = both_true (t x) _ h in rw b.0 (all_take t k xs b.1)

-- ---- the starts of sectors
module _ (n : ℕ) (d : List ℕ) where
  starts_take : (k : ℕ) (ps : List Place) → take k (flat_map (start_of n) ps) ≡ flat_map (start_of n) (take k ps)
  unfolding flat_map
  starts_take zero ps = refl
  starts_take (suc k) [] = refl
  starts_take (suc k) (p ∷ ps) = ap (λ (t : List ℕ). start n p ∷ t) (starts_take k ps)

  starts_count : (ps : List Place) → length (flat_map (start_of n) ps) ≡ length ps
  unfolding flat_map
  starts_count [] = refl
  starts_count (p ∷ ps) = rw (starts_count ps) refl

  starts_bytes : (ps : List Place) → flat_map (sector_at d) (flat_map (start_of n) ps) ≡ flat_map (bytes_of n d) ps
  unfolding flat_map bytes_of
  starts_bytes [] = refl
  starts_bytes (p ∷ ps) = ap (λ (t : List ℕ). sector_at d (start n p) ++ t) (starts_bytes ps)

  starts_long : {ps : List Place} → Every (λ (p : Place). length (bytes_of n d p) ≡ 256) ps → Every (λ (s : ℕ). length (sector_at d s) ≡ 256) (flat_map (start_of n) ps)
  unfolding flat_map bytes_of
  starts_long none = none
  starts_long (more h e) = more h (starts_long e)

  -- ---- of a Binary the first 257 sectors are enough
  module _ (size : length d ≡ 256 * sectors n) where
    front_is : (ps : List Place) → all (on_disk n) ps ≡ true → word_at (flat_map (bytes_of n d) (take 257 ps)) 2 < 65536
        → bytes_in 4 (flat_map (bytes_of n d) (take 257 ps)) ≡ bytes_in 4 (flat_map (bytes_of n d) ps)
    unfolding bytes_in
    front_is ps a w =
        by_lt (length ps) 258 (λ h. rw (take_all 257 ps (omega arith)) refl)
        (λ h.
        let u : List ℕ = flat_map (bytes_of n d) (take 257 ps) in
        let v : List ℕ = flat_map (bytes_of n d) (drop 257 ps) in
        let e : flat_map (bytes_of n d) ps ≡ u ++ v = ap (flat_map (bytes_of n d)) (sym (take-append-drop 257 ps)) ∙ flat_map_append (bytes_of n d) (take 257 ps) (drop 257 ps) in
        let c : length (take 257 ps) ≡ 257 = rw length-take (omega arith) in
        let l : length u ≡ 65792 = length_chunks (bytes_of n d) 256 (all_long n d size (take 257 ps) (all_take (on_disk n) 257 ps a)) ∙ rw c refl in
        let x : word_at (u ++ v) 2 ≡ word_at u 2 = rw (get_or-append u v 0 2 (omega arith), get_or-append u v 0 3 (omega arith)) refl in
        let f : leb (4 + word_at u 2) (length u) ≡ true = le-leb (4 + word_at u 2) (length u) (omega arith) in
        let g : leb (4 + word_at u 2) (length (u ++ v)) ≡ true = le-leb (4 + word_at u 2) (length (u ++ v)) (rw length-append (omega arith)) in
        let k : length (drop 4 u) ≡ 65788 = rw length-drop (omega arith) in
        rw (e, x, f, g, drop-append-le 4 u v (omega arith)) (sym (take-append-le (word_at u 2) (drop 4 u) v (omega arith))))

    -- the word in the first sector
    first_word : (ps : List Place) → all (on_disk n) ps ≡ true → word_of n d (head_of ps) 2 < 65536 → word_at (flat_map (bytes_of n d) ps) 2 < 65536
    unfolding flat_map
    first_word [] a h = omega arith
    first_word (p ∷ ps) a h = rw (stated n d size p ps (first n d size p ps a)) h

-- ---- the file of an entry
-- an entry as it was read, with the bytes of its file, is its file
with_bytes_lem : (n : ℕ) (d : List ℕ) (x : ℕ) (f : File) → file_of n d (entry_from d x) ≡ Ok f → file_with (entry_head (entry_from d x)) (entry_from d x).raw f.bytes ≡ f
with_bytes_lem n d x f h =
    let e : Entry = entry_from d x in
    let g = file_given n d e f h in
    let m : take 30 e.raw ≡ e.raw = take-take 30 30 (drop (x + 3) d) (omega arith) in
    (λ i. record { kind = e.kind; locked = e.locked; raw = m i; count = e.count; bytes = f.bytes })
    ∙ ap (λ (y : List ℕ). record { kind = e.kind; locked = e.locked; raw = e.raw; count = e.count; bytes = y }) (ap (λ (y : File). y.bytes) g.3)
    ∙ sym g.3

module _ (n : ℕ) (d : List ℕ) (x : ℕ) (a : Has n d (entry_from d x)) where
  abbrev ps : List Place
  ps = flat_map (pairs_of n d) (file_given n d (entry_from d x) a.file a.is).0

  on : all (on_disk n) ps ≡ true
  on = (file_given n d (entry_from d x) a.file a.is).2

  bytes_are : a.file.bytes ≡ bytes_in (entry_from d x).kind (flat_map (bytes_of n d) ps)
  bytes_are = ap (λ (y : File). y.bytes) (file_given n d (entry_from d x) a.file a.is).3

  walked : walk_of n d (start_of n) (entry_from d x).list ≡ Ok (flat_map (start_of n) ps)
  unfolding walk_of
  walked = rw (file_given n d (entry_from d x) a.file a.is).1 (ap Ok (joined_lists n d (start_of n) (file_given n d (entry_from d x) a.file a.is).0))

  -- there is space for the starts, and their lists are given
  pub entry_room : (z : List ℕ) → z ≡ replicate 257 0 → Roomy 257 (spot 0) z
  entry_room z e = record { within = omega arith; fits = rw e (rw (length-replicate {A = ℕ} 257 0) (omega arith)) }

  pub entry_whole : (e : EntryHead) → e ≡ entry_head (entry_from d x) → Whole (walk_of n d (start_of n) e.list)
  entry_whole e q = record { whole = flat_map (start_of n) ps; is = rw q walked }

  -- another type has no sectors
  pub other_sectors : (z : List ℕ) → Sectors d z 0
  other_sectors z = record { few = omega arith; within = omega arith; long = none }

  -- those of a Binary
  module _ (z o : List ℕ) (r : ℕ) (e : EntryHead) (b : z ≡ replicate 257 0) (q : e ≡ entry_head (entry_from d x))
      (u : CopiedAll 257 (walk_of n d (start_of n) e.list) (spot 0) z o (spot r)) where
    copied : Copied 257 (flat_map (start_of n) ps) (spot 0) z o (spot r)
    copied = u.is (flat_map (start_of n) ps) (rw q walked)

    abbrev firsts : List ℕ
    firsts = take 257 (flat_map (start_of n) ps)

    count : r ≡ length firsts
    count = copied.at ∙ omega arith

    short : length firsts ≤ 257
    short = rw length-take (omega arith)

    zeros : length z ≡ 257
    zeros = rw b (length-replicate {A = ℕ} 257 0)

    left : o ≡ firsts ++ drop (length firsts) z
    left = put_front (put_is copied.puts (omega (arith, short, zeros)))

    firsts_are : take r o ≡ firsts
    firsts_are = rw (left, count) (take_at firsts (drop (length firsts) z) (length firsts) refl)

    long_o : length o ≡ 257
    long_o = (put_is copied.puts (omega (arith, short, zeros))).long ∙ zeros

    pub binary_sectors : Sectors d o r
    binary_sectors =
        record {
          few = omega (arith, count, short);
          within = omega (arith, count, short, long_o);
          long = rw firsts_are (every_take 257 (starts_long n d (all_long n d a.sized ps on)));
        }

    -- the stated length stands in the first sector
    stated_is : stated_in d o ≡ word_of n d (head_of (take 257 ps)) 2
    unfolding flat_map
    stated_is = go (take 257 ps) (left ∙ ap (λ (y : List ℕ). y ++ drop (length y) z) (starts_take n d 257 ps))
      where
        go : (qs : List Place) → o ≡ flat_map (start_of n) qs ++ drop (length (flat_map (start_of n) qs)) z → stated_in d o ≡ word_of n d (head_of qs) 2
        go [] h =
            let k : get_or o 0 0 ≡ 0 = ap (λ (y : List ℕ). get_or y 0 0) h ∙ ap (λ (y : List ℕ). get_or y 0 0) b in
            let s : start n (place 0 0) ≡ 0 = rw (mul-zero n) refl in
            rw (k, s) refl
        go (p ∷ qs) h =
            let k : get_or o 0 0 ≡ start n p = ap (λ (y : List ℕ). get_or y 0 0) h in
            let s : start n p + 2 + 1 ≡ start n p + 3 = omega arith in
            rw (k, s) refl

    -- what was collected are the file's bytes
    collected_is : e.file_type ≡ 4 → stated_in d o < 65536 → collected d o r ≡ a.file.bytes
    unfolding collected
    collected_is k w =
        let qs : List Place = take 257 ps in
        let c : r ≡ length qs = count ∙ ap length (starts_take n d 257 ps) ∙ starts_count n d qs in
        let j : flat_map (sector_at d) (take r o) ≡ flat_map (bytes_of n d) qs =
        ap (flat_map (sector_at d)) (firsts_are ∙ starts_take n d 257 ps) ∙ starts_bytes n d qs in
        let f : all (on_disk n) qs ≡ true = all_take (on_disk n) 257 ps on in
        let t : (entry_from d x).kind ≡ 4 = sym (ap (λ (y : EntryHead). y.file_type) q) ∙ k in
        let v : word_at (flat_map (bytes_of n d) qs) 2 < 65536 = first_word n d a.sized qs f (rw stated_is at w) in
        rw (stated_is, j, c) (cut_4 n d a.sized qs f) ∙ front_is n d a.sized ps on v ∙ sym (bytes_are ∙ ap (λ (i : ℕ). bytes_in i (flat_map (bytes_of n d) ps)) t)

  -- ---- the two returns
  module _ (w : Bool) (y : List ℕ) (total : ℕ) (e : EntryHead) (raw : List ℕ) (m : Mark) (o : List ℕ) (q : e ≡ entry_head (entry_from d x)) (g : raw ≡ (entry_from d x).raw) where
    entry_made : (xs : List ℕ) → xs ≡ a.file.bytes → (r : Mark) (o' : List ℕ)
        → Made (with_file w y total (pass_of m o) (file_with e raw xs)) 261 m o o' r → Made (with_entry w y n d total (pass_of m o) (entry_from d x)) 261 m o o' r
    unfolding with_entry
    entry_made xs h r o' u =
        let f : file_with e raw xs ≡ a.file = ap (λ (i : EntryHead). file_with i raw xs) q ∙ rw (g, h) refl ∙ with_bytes_lem n d x a.file a.is in
        rw (with_entry, a.is) (subst (λ (i : File). Made (with_file w y total (pass_of m o) i) 261 m o o' r) f u)

    pub entry_other : (e.file_type ≡ 4 → ⊥) → (z : List ℕ) (r : Mark) (o' : List ℕ)
        → Made (with_file w y total (pass_of m o) (file_with e raw (collected d z 0))) 261 m o o' r → Made (with_entry w y n d total (pass_of m o) (entry_from d x)) 261 m o o' r
    unfolding collected flat_map
    entry_other k z r o' u =
        let t : (entry_from d x).kind ≡ 4 → ⊥ = λ i. k (ap (λ (j : EntryHead). j.file_type) q ∙ i) in
        let s : ℕ = stated_in d z in
        let c : collected d z 0 ≡ [] = cut_nil (size_by 0 s) (start_by 0 s) in
        entry_made (collected d z 0) (c ∙ sym (bytes_are ∙ bytes_in_binary (entry_from d x).kind (flat_map (bytes_of n d) ps) t)) r o' u

    pub entry_binary : e.file_type ≡ 4 → (z c : List ℕ) (k : ℕ) → z ≡ replicate 257 0 → CopiedAll 257 (walk_of n d (start_of n) e.list) (spot 0) z c (spot k)
        → stated_in d c < 65536 → (r : Mark) (o' : List ℕ)
        → Made (with_file w y total (pass_of m o) (file_with e raw (collected d c k))) 261 m o o' r → Made (with_entry w y n d total (pass_of m o) (entry_from d x)) 261 m o o' r
    entry_binary t z c k b u s r o' v = entry_made (collected d c k) (collected_is z c k e b q u t s) r o' v

pub ruleset entries = (entry_room, entry_whole, other_sectors, binary_sectors, entry_other, entry_binary, rules)
