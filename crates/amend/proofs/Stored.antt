-- A file that was written, read: its lists, its data sectors and its bytes. Assumes nothing.
use Rattle.std.specs.Prelude.{Ok}
use mathlib.Core.Path.{◌≡◌, refl, ap, ◌∙◌}
use mathlib.Core.Bool.{Bool, true, false}
use mathlib.Core.List.{List, [], ◌∷◌, ◌++◌, map, flat_map}
use Prim.Native.Nat.{ℕ, zero, suc, ◌+◌, ◌*◌, ◌-◌, ◌/◌, ◌%◌, ◌<◌}
use native.Mathlib.Omega.{arith}
use lib.ListN.{length, get_or, take, drop, length-append, length-take, length-drop, get_or-append}
use lib.Seq.{get_or-append-add, get_or-take, get_or-drop, ext_get_or}
use lib.Dec.{leb}
use borrow.Author.Tests.{ne_eqb, le-leb}
use Rattle.lists.specs.Every.{Every}
use Rattle.lists.specs.Fill.{padded}
use Rattle.lists.specs.Select.{all}
use Rattle.lists.specs.Words.{le2, word_at}
use Rattle.lists.proofs.Split.{by_lt}
use Rattle.lists.proofs.Laws.{length_padded, get_or_padded}
use Rattle.lists.proofs.Chunks.{split_every}
use Rattle.disk.specs.declared.Place.{Place}
use Rattle.disk.specs.Disk.{place, bytes_of, on_disk}
use Rattle.disk.proofs.Chain.{Chained, Link, chained_walk}
use Rattle.disk.proofs.Chain
use Rattle.catalog.specs.Catalog.{Entry}
use Rattle.files.specs.Contents.{pairs_of, is_pair, max_pairs, next_list, whole_link, sound_list, list_walk, lists, bytes_in, file_of}
use Rattle.files.proofs.Order.{file_gives}
use Rattle.records.specs.Records.{file_record}
use Rattle.holders.specs.Holders.{with_pairs, sectors_of}
use Rattle.holders.proofs.Refusals.{sectors_give}
use Rattle.amend.specs.Save.{Part, Write, data_for, first_list, sectors_in, data_of, list_sector, list_writes, data_writes}
use Rattle.amend.proofs.Takes.{Taker, Shaped}
use Rattle.amend.proofs.Pairs.{next_track, next_sector, pairs_back}

-- each of these sectors stands on the disk e
abbrev pub Stand : ℕ → List ℕ → List Write → Type 0
Stand n e = Every (λ (w : Write). bytes_of n e w.place ≡ w.bytes)

-- a pair on a track other than 0 is one
pair_yes : (n : ℕ) {ps : List Place} → Every (Taker n) ps → Every (λ (p : Place). is_pair p ≡ true) ps
pair_yes n Every.none = Every.none
pair_yes n (Every.more {x = p} t e) = let q : is_pair p ≡ true = rw (ne_eqb p.track.0 0 t.track0) refl in Every.more q (pair_yes n e)

-- ---- the lists
module _ (n : ℕ) (e : List ℕ) where
  -- the last list
  list_end : (p : Place) (before : ℕ) (ps : List Place) → on_disk n p ≡ true → bytes_of n e p ≡ list_sector (place 0 0) before ps
      → Chained n (sound_list n e) (next_list n e) p (p ∷ [])
  unfolding sound_list whole_link next_list
  list_end p before ps on s =
      let a = next_track n e p (place 0 0) before ps s in
      Chain.Chained.end (on, rw a refl) (rw a refl)

  -- a list with one behind it
  list_link : (p q : Place) (before : ℕ) (ps : List Place) → on_disk n p ≡ true → bytes_of n e p ≡ list_sector q before ps
      → (q.track.0 ≡ 0 → ⊥) → (q.sector.0 ≡ 0 → ⊥) → Link n (sound_list n e) (next_list n e) p q
  unfolding sound_list whole_link next_list
  list_link p q before ps on s h l =
      let a = next_track n e p q before ps s in
      let b = next_sector n e p q before ps s in
      (on, rw (a, b, ne_eqb q.track.0 0 h, ne_eqb q.sector.0 0 l) refl, rw (a, b, ne_eqb q.track.0 0 h) refl)

  -- all of them
  pub lists_chain : (g : Part) (gs : List Part) (before m : ℕ) (later : Bool) → Stand n e (list_writes before (g ∷ gs)) → Shaped m later (g ∷ gs)
      → Every (Taker n) (map (λ (h : Part). h.list) (g ∷ gs)) → Chained n (sound_list n e) (next_list n e) g.list (map (λ (h : Part). h.list) (g ∷ gs))
  unfolding list_writes
  lists_chain g [] before m later (Every.more s ss) sh (Every.more t ts) = list_end g.list before g.pairs t.on s
  lists_chain g (h ∷ gs) before m later (Every.more s ss) sh (Every.more t (Every.more u ts)) =
      Chain.Chained.more (list_link g.list h.list before g.pairs t.on s u.track0 (sh.2.1 refl))
      (lists_chain h gs (before + length g.pairs) (m - max_pairs) true ss sh.2 (Every.more u ts))

  -- their pairs
  pub lists_pairs : (gs : List Part) (before m : ℕ) (later : Bool) → Stand n e (list_writes before gs) → Shaped m later gs → Every (Taker n) (data_of gs)
      → flat_map (pairs_of n e) (map (λ (h : Part). h.list) gs) ≡ data_of gs
  unfolding list_writes flat_map
  lists_pairs [] before m later Every.none sh t = refl
  lists_pairs (g ∷ gs) before m later (Every.more s ss) sh t =
      let v = split_every g.pairs t in
      let l = sh.0 in
      let a = pairs_back n e g.list (first_list gs) before g.pairs s (omega arith) (pair_yes n v.0) in
      rw (a, lists_pairs gs (before + length g.pairs) (m - max_pairs) true ss sh.2 v.1) refl

  -- .. list by list
  pub lists_with : (gs : List Part) (before m : ℕ) (later : Bool) → Stand n e (list_writes before gs) → Shaped m later gs → Every (Taker n) (data_of gs)
      → flat_map (with_pairs n e) (map (λ (h : Part). h.list) gs) ≡ sectors_in gs
  unfolding list_writes flat_map
  lists_with [] before m later Every.none sh t = refl
  lists_with (g ∷ gs) before m later (Every.more s ss) sh t =
      let v = split_every g.pairs t in
      let l = sh.0 in
      let a = pairs_back n e g.list (first_list gs) before g.pairs s (omega arith) (pair_yes n v.0) in
      rw (a, lists_with gs (before + length g.pairs) (m - max_pairs) true ss sh.2 v.1) refl

-- ---- the data
-- k sectors of the bytes s
unfoldable pub pieces : ℕ → List ℕ → List ℕ
pieces zero s = []
pieces (suc k) s = padded 256 (take 256 s) ++ pieces k (drop 256 s)

pub data_pieces : (n : ℕ) (e : List ℕ) (ps : List Place) (s : List ℕ) → Stand n e (data_writes ps s) → flat_map (bytes_of n e) ps ≡ pieces (length ps) s
unfolding data_writes flat_map pieces
data_pieces n e [] s Every.none = refl
data_pieces n e (p ∷ ps) s (Every.more h t) = rw (h, data_pieces n e ps (drop 256 s) t) refl

length_piece : (s : List ℕ) → length (padded 256 (take 256 s)) ≡ 256
length_piece s = length_padded 256 (take 256 s) (rw length-take (omega arith))

pub length_pieces : (k : ℕ) (s : List ℕ) → length (pieces k s) ≡ 256 * k
unfolding pieces
length_pieces zero s = refl
length_pieces (suc k) s = let i = length_pieces k (drop 256 s) in let j = length_piece s in rw length-append (omega arith)

pub at_pieces : (k : ℕ) (s : List ℕ) (i : ℕ) → i < 256 * k → get_or (pieces k s) i 0 ≡ get_or s i 0
unfolding pieces
at_pieces zero s i h = absurd (omega arith)
at_pieces (suc k) s i h =
    let l = length_piece s in
    by_lt i 256
    (λ a. get_or-append (padded 256 (take 256 s)) (pieces k (drop 256 s)) 0 i (omega arith) ∙ get_or_padded 256 (take 256 s) i ∙ get_or-take 256 s i 0 a)
    (λ a.
    let j : ℕ = i - 256 in
    let q : i ≡ length (padded 256 (take 256 s)) + j = omega arith in
    let r : 256 + j ≡ i = omega arith in
    ap (λ (x : ℕ). get_or (padded 256 (take 256 s) ++ pieces k (drop 256 s)) x 0) q
    ∙ get_or-append-add (padded 256 (take 256 s)) (pieces k (drop 256 s)) j 0 ∙ at_pieces k (drop 256 s) j (omega arith)
    ∙ get_or-drop 256 s j 0 ∙ ap (λ (x : ℕ). get_or s x 0) r)

-- the file's bytes are those that were handed in
pub bytes_back : (address : ℕ) (bytes : List ℕ) → length bytes < 65536 → bytes_in 4 (pieces (data_for (length bytes)) (file_record address (length bytes) bytes)) ≡ bytes
unfolding bytes_in file_record
bytes_back address bytes small =
    let len : ℕ = length bytes in
    let k : ℕ = data_for (length bytes) in
    let s : List ℕ = le2 address ++ (le2 (length bytes) ++ bytes) in
    let S : List ℕ = pieces (data_for (length bytes)) s in
    let L : length S ≡ 256 * data_for (length bytes) = length_pieces (data_for (length bytes)) s in
    let a : get_or S 2 0 ≡ length bytes % 256 = at_pieces (data_for (length bytes)) s 2 (omega arith) in
    let b : get_or S 3 0 ≡ length bytes / 256 % 256 = at_pieces (data_for (length bytes)) s 3 (omega arith) in
    let w : word_at S 2 ≡ length bytes = rw (a, b) (omega arith) in
    let f : leb (4 + length bytes) (length S) ≡ true = le-leb (4 + length bytes) (length S) (omega arith) in
    let t : take (length bytes) (drop 4 S) ≡ bytes =
    ext_get_or 0 (take (length bytes) (drop 4 S)) bytes (rw (length-take, length-drop) (omega arith))
    (λ i h.
    let c : i < length bytes = let z = length-take (length bytes) (drop 4 S) in omega arith in
    get_or-take (length bytes) (drop 4 S) i 0 c ∙ get_or-drop 4 S i 0 ∙ at_pieces (data_for (length bytes)) s (4 + i) (omega arith)
    ∙ get_or-append-add (address % 256 ∷ address / 256 % 256 ∷ length bytes % 256 ∷ length bytes / 256 % 256 ∷ []) bytes i 0) in
    rw (w, f) t

-- ---- the whole file
-- places that may be taken are on the disk
takers_all : (n : ℕ) {ps : List Place} → Every (Taker n) ps → all (on_disk n) ps ≡ true
unfolding all
takers_all n Every.none = refl
takers_all n (Every.more t e) = rw (t.on, takers_all n e) refl

module _ (n : ℕ) (e : List ℕ) (x : Entry) (g : Part) (gs : List Part) (address : ℕ) (bytes : List ℕ)
    (small : length bytes < 65536) (at : x.list ≡ g.list) (shape : Shaped (data_for (length bytes)) false (g ∷ gs)) (many : length (data_of (g ∷ gs)) ≡ data_for (length bytes))
    (takes : Every (Taker n) (map (λ (h : Part). h.list) (g ∷ gs))) (takes' : Every (Taker n) (data_of (g ∷ gs)))
    (stand : Stand n e (list_writes 0 (g ∷ gs))) (stand' : Stand n e (data_writes (data_of (g ∷ gs)) (file_record address (length bytes) bytes))) where
  abbrev ls : List Place
  ls = map (λ (h : Part). h.list) (g ∷ gs)

  -- its lists, and their pairs
  pub lists_are : lists n e x ≡ Ok ls
  unfolding list_walk
  lists_are =
      let c : Chained n (sound_list n e) (next_list n e) x.list ls = rw at (lists_chain n e g gs 0 (data_for (length bytes)) false stand shape takes) in
      chained_walk n (sound_list n e) (next_list n e) x.list ls c

  pub pairs_are : flat_map (pairs_of n e) ls ≡ data_of (g ∷ gs)
  pairs_are = lists_pairs n e (g ∷ gs) 0 (data_for (length bytes)) false stand shape takes'

  all_on : all (on_disk n) (flat_map (pairs_of n e) ls) ≡ true
  all_on = ap (all (on_disk n)) pairs_are ∙ takers_all n takes'

  -- the sectors that the entry holds
  pub stored_sectors : sectors_of n e x ≡ Ok (sectors_in (g ∷ gs))
  stored_sectors = sectors_give n e x ls lists_are all_on ∙ ap Ok (lists_with n e (g ∷ gs) 0 (data_for (length bytes)) false stand shape takes')

  -- its bytes
  bytes_are : flat_map (bytes_of n e) (flat_map (pairs_of n e) ls) ≡ pieces (data_for (length bytes)) (file_record address (length bytes) bytes)
  bytes_are =
      ap (flat_map (bytes_of n e)) pairs_are ∙ data_pieces n e (data_of (g ∷ gs)) (file_record address (length bytes) bytes) stand'
      ∙ ap (λ (k : ℕ). pieces k (file_record address (length bytes) bytes)) many

  -- and its file
  pub stored_file : (raw : List ℕ) (count : ℕ) → x.kind ≡ 4 → x.locked ≡ 0 → x.raw ≡ raw → x.count ≡ count
      → file_of n e x ≡ Ok (record { kind = 4; locked = 0; raw = raw; count = count; bytes = bytes })
  stored_file raw count a b c f =
      let w : bytes_in x.kind (flat_map (bytes_of n e) (flat_map (pairs_of n e) ls)) ≡ bytes =
      (λ i. bytes_in (a i) (bytes_are i)) ∙ bytes_back address bytes small in
      file_gives n e x ls lists_are all_on ∙ (λ i. Ok (record { kind = a i; locked = b i; raw = c i; count = f i; bytes = w i }))
