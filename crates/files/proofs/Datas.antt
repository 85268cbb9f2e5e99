-- A file's bytes, copied along its lists. Assumes nothing.
use mathlib.Core.Path.{◌≡◌, refl, sym, ap, ◌∙◌}
use mathlib.Core.Bool.{Bool, true, false, cond}
use mathlib.Core.List.{List, [], ◌∷◌, ◌++◌, flat_map}
use Prim.Native.Nat.{ℕ, ◌+◌, ◌-◌, ◌*◌, ◌<◌, ◌≤◌}
use native.Mathlib.Omega.{arith}
use lib.ListN.{length}
use lib.Seq.{take_all, take-nil, drop-nil}
use lib.Dec.{eqb, leb}
use borrow.Author.Tests.{eq-eqb, ne_eqb, le-leb, lt-leb, eqb-true, eqb-false}
use borrow.Author.Rules.{rules}
use Rattle.lists.specs.Fill.{put}
use Rattle.lists.specs.Select.{all}
use Rattle.lists.specs.Words.{word_at}
use Rattle.lists.proofs.Split.{by_test}
use Rattle.lists.proofs.Chunks.{flat_map_append, length_chunks}
use Rattle.lists.proofs.Put.{Put, put_is, put_front}
use Rattle.std.specs.Prelude.{Ok, Err}
use Rattle.outcome.specs.declared.Refusal.TheVariants.{TrayShort}
use Rattle.outcome.specs.Outcome.{Outcome, ◌>>=◌, Hands}
use Rattle.outcome.proofs.Outcome.{hands_short, hands_over_lem}
use Rattle.disk.specs.declared.Place.{Place}
use Rattle.disk.specs.Disk.{place, sectors, on_disk, byte_of, word_of, bytes_of, link_of}
use Rattle.disk.specs.Chain.{walk}
use Rattle.disk.proofs.Steps.{made, rest, joins, joined_is, rest_start, rest_within, rest_last, rest_on}
use Rattle.files.specs.declared.Spot.{Spot}
use Rattle.files.specs.declared.Thread.{Thread}
use Rattle.files.specs.Contents.{bytes_in, pairs_of, sound_list, next_list, list_walk}
use Rattle.files.specs.Threads.{head_of, size_of}
use Rattle.files.specs.Copies.{cut_of, Copied, Roomy, Whole, CopiedAll, Kept, list_of, walk_of, walk_bytes, file_bytes, start_of}
use Rattle.files.proofs.Proper.{all_long, bytes_in_binary}
use Rattle.files.proofs.Sums.{stated, first, size_is}
use Rattle.files.proofs.Copying.{copied_none, copied_roomy, copied_long, copied_more}

-- ---- the lists
module _ (n : ℕ) (d : List ℕ) (g : Place → List ℕ) where
  abbrev join_lists : List ℕ → Place → List ℕ
  join_lists = joins (list_of n d g)

  made_bytes : (o : Outcome (List Place)) → made join_lists [] o ≡ (o >>= λ ls. Ok (flat_map (list_of n d g) ls))
  made_bytes (Err r) = refl
  made_bytes (Ok ls) = ap Ok (joined_is (list_of n d g) [] ls)

  module _ (begin : Place) (size : ℕ) (s₀ : Spot) (o₀ : List ℕ) where
    -- k lists are copied, and p is the next
    pub record Lists (most k : ℕ) (p : Place) (s : Spot) (o : List ℕ) : Type 0 where
      pub budget : most ≡ 35 * n + 1
      pub count : k ≤ most
      pub done : List ℕ
      pub whole : List ℕ
      pub total : walk_of n d g begin ≡ Ok whole
      pub is : rest join_lists n (sound_list n d) (next_list n d) (35 * n + 1) k done p ≡ Ok whole
      pub room : Roomy size s₀ o₀
      pub long : length o ≡ length o₀
      pub copied : Copied size done s₀ o₀ o s

    pub lists_none : (most : ℕ) → most ≡ 35 * n + 1 → Roomy size s₀ o₀ → Whole (walk_of n d g begin) → Lists most 0 begin s₀ o₀
    unfolding walk_of list_walk
    lists_none most e m w =
        record {
          budget = e;
          count = omega arith;
          done = [];
          whole = w.whole;
          total = w.is;
          is =
              rest_start join_lists n (sound_list n d) (next_list n d) (35 * n + 1) [] begin
              ∙ made_bytes (walk n (sound_list n d) (next_list n d) (35 * n + 1) [] begin) ∙ w.is;
          room = m;
          long = refl;
          copied = copied_none size s₀ o₀;
        }

    module _ (most k : ℕ) (p : Place) (s : Spot) (o : List ℕ) (c : Lists most k p s o) where
      pub lists_room : Roomy size s o
      lists_room = copied_roomy size c.done o₀ o s₀ s c.room c.copied

      -- the budget is never used up
      pub lists_full : most ≤ k → CopiedAll size (walk_of n d g begin) s₀ o₀ o s
      lists_full h =
          let l = rest_within join_lists n (sound_list n d) (next_list n d) (35 * n + 1) k c.done p c.whole c.is in
          absurd (omega (arith, c.budget))

      module _ (r : Spot) (o' : List ℕ) (u : Copied size (list_of n d g p) s o o' r) (l : Bool) (e : l ≡ eqb (byte_of n d p 1) 0) where
        more : Copied size (c.done ++ list_of n d g p) s₀ o₀ o' r
        more = copied_more size c.done (list_of n d g p) o₀ o o' s₀ s r c.room c.copied u

        pub lists_long : length o' ≡ length o₀
        lists_long = copied_long size (list_of n d g p) o o' s r lists_room u ∙ c.long

        pub lists_last : l ≡ true → CopiedAll size (walk_of n d g begin) s₀ o₀ o' r
        unfolding next_list
        lists_last t =
            let q : c.whole ≡ c.done ++ list_of n d g p =
            rest_last join_lists n (sound_list n d) (next_list n d) (35 * n + 1) k c.done p c.whole c.is (rw (← e, t) refl) in
            record { is = λ y z. let w : y ≡ c.whole = let v = c.total in cc in rw (w, q) more }

        pub lists_more : l ≡ false → k < most → (a : Place) → a ≡ link_of n d p → Lists most (k + 1) a r o'
        unfolding next_list
        lists_more t h a z =
            record {
              budget = c.budget;
              count = omega arith;
              done = c.done ++ list_of n d g p;
              whole = c.whole;
              total = c.total;
              is = rest_on join_lists n (sound_list n d) (next_list n d) (35 * n + 1) k c.done p c.whole c.is a (rw (← e, t, z) refl);
              room = c.room;
              long = lists_long;
              copied = more;
            }

pub ruleset copies = (lists_none, lists_room, lists_full, lists_last, lists_long, lists_more, rules)

-- ---- where the bytes begin
module _ (n : ℕ) (d : List ℕ) (kind : ℕ) (t : Thread) where
  pub start_none : (kind ≡ 4 → ⊥) → 0 ≡ start_of n d kind t
  unfolding start_of
  start_none h = rw (ne_eqb _ _ h) refl

  module _ (h : kind ≡ 4) (a b : ℕ) (p : a ≡ byte_of n d t.head 2) (q : b ≡ byte_of n d t.head 3) where
    pub start_four : 4 + (a + 256 * b) ≤ 256 * t.pairs → 4 ≡ start_of n d kind t
    unfolding start_of
    start_four l = rw (eq-eqb _ _ h, ← p, ← q, le-leb _ _ l) refl

    pub start_zero : 256 * t.pairs < 4 + (a + 256 * b) → 0 ≡ start_of n d kind t
    unfolding start_of
    start_zero l = rw (eq-eqb _ _ h, ← p, ← q, lt-leb _ _ l) refl

pub ruleset starts = (start_none, start_four, start_zero, rules)

-- ---- the bytes are the part that is copied
pub cut_nil : (x y : ℕ) → cut_of x y [] ≡ []
cut_nil x y = rw (drop-nil {A = ℕ} y, take-nil {A = ℕ} x) refl

module _ (n : ℕ) (d : List ℕ) (size : length d ≡ 256 * sectors n) where
  pub cut_4 : (ps : List Place) → all (on_disk n) ps ≡ true
      → cut_of (cond (leb (4 + word_of n d (head_of ps) 2) (256 * length ps)) (word_of n d (head_of ps) 2) (256 * length ps))
      (cond (leb (4 + word_of n d (head_of ps) 2) (256 * length ps)) 4 0) (flat_map (bytes_of n d) ps)
      ≡ bytes_in 4 (flat_map (bytes_of n d) ps)
  unfolding bytes_in flat_map
  cut_4 [] a = let k : ℕ = word_of n d (place 0 0) 2 in cut_nil (cond (leb (4 + k) 0) k 0) (cond (leb (4 + k) 0) 4 0)
  cut_4 (p ∷ ps) a =
      let y : List ℕ = flat_map (bytes_of n d) (p ∷ ps) in
      let k : ℕ = word_of n d p 2 in
      let l : length y ≡ 256 * length (p ∷ ps) = length_chunks (bytes_of n d) 256 (all_long n d size (p ∷ ps) a) in
      let w : word_at y 2 ≡ k = stated n d size p ps (first n d size p ps a) in
      by_test (leb (4 + k) (256 * length (p ∷ ps))) (λ e. rw (w, l, e) refl)
      (λ e. rw (w, l, e) (take_all (256 * length (p ∷ ps)) y (omega arith)))

  pub cut_is : (kind : ℕ) (ps : List Place) (t : Thread) → all (on_disk n) ps ≡ true → t.pairs ≡ length ps → t.head ≡ head_of ps
      → cut_of (size_of n d kind t) (start_of n d kind t) (flat_map (bytes_of n d) ps) ≡ bytes_in kind (flat_map (bytes_of n d) ps)
  unfolding size_of start_of
  cut_is kind ps t a b c =
      by_test (eqb kind 4) (λ e. let q = eqb-true kind 4 e in rw (q, b, c) (cut_4 ps a))
      (λ e. let q = eqb-false kind 4 e in rw (e, bytes_in_binary kind (flat_map (bytes_of n d) ps) q) refl)

-- what g gives of the pairs, list by list
pub joined_lists : (n : ℕ) (d : List ℕ) (g : Place → List ℕ) (ls : List Place) → flat_map (list_of n d g) ls ≡ flat_map g (flat_map (pairs_of n d) ls)
unfolding flat_map list_of
joined_lists n d g [] = refl
joined_lists n d g (l ∷ ls) =
    ap (λ (y : List ℕ). flat_map g (pairs_of n d l) ++ y) (joined_lists n d g ls) ∙ sym (flat_map_append g (pairs_of n d l) (flat_map (pairs_of n d) ls))

-- ---- the bytes of a file: h is what its lists come to
module _ (n : ℕ) (d : List ℕ) (p : Place) (kind : ℕ) (h : Thread) (f : Kept n d p h) (o : List ℕ) where
  pub thread : h ≡ record { lists = length f.at.ls; pairs = length (flat_map (pairs_of n d) f.at.ls); head = head_of (flat_map (pairs_of n d) f.at.ls) }
  thread =
      let q : Ok h ≡ Ok (record { lists = length f.at.ls; pairs = length (flat_map (pairs_of n d) f.at.ls); head = head_of (flat_map (pairs_of n d) f.at.ls) }) =
      f.thread ∙ rw (f.at.is, f.at.on) refl in
      cc

  -- the bytes are given
  bytes : file_bytes n d p kind ≡ Ok (bytes_in kind (flat_map (bytes_of n d) (flat_map (pairs_of n d) f.at.ls)))
  unfolding file_bytes
  bytes = rw f.at.is refl

  long : size_of n d kind h ≡ length (bytes_in kind (flat_map (bytes_of n d) (flat_map (pairs_of n d) f.at.ls)))
  long = size_is n d f.at.size kind _ h f.at.on (ap (λ (y : Thread). y.pairs) thread) (ap (λ (y : Thread). y.head) thread)

  pub data_short : (m : ℕ) → m ≡ size_of n d kind h → length o < m → Hands (file_bytes n d p kind) o o (Err TrayShort)
  data_short m e l = hands_short (file_bytes n d p kind) o _ bytes (omega (arith, long)) (Err TrayShort) refl

  pub data_room : (m k : ℕ) → m ≤ length o → Roomy m (record { at = 0; skip = k }) o
  data_room m k l = record { within = omega arith; fits = l }

  walked : walk_bytes n d p ≡ Ok (flat_map (bytes_of n d) (flat_map (pairs_of n d) f.at.ls))
  unfolding walk_of
  walked = rw f.at.is (ap Ok (joined_lists n d (bytes_of n d) f.at.ls))

  pub data_whole : Whole (walk_bytes n d p)
  data_whole = record { whole = flat_map (bytes_of n d) (flat_map (pairs_of n d) f.at.ls); is = walked }

  pub data_done : (m k : ℕ) (o' : List ℕ) (s : Spot) → m ≡ size_of n d kind h → m ≤ length o → k ≡ start_of n d kind h
      → CopiedAll m (walk_bytes n d p) (record { at = 0; skip = k }) o o' s → Hands (file_bytes n d p kind) o o' (Ok m)
  data_done m k o' s₁ e l q c =
      let x : List ℕ = bytes_in kind (flat_map (bytes_of n d) (flat_map (pairs_of n d) f.at.ls)) in
      let a : o' ≡ put 0 (cut_of (m - 0) k (flat_map (bytes_of n d) (flat_map (pairs_of n d) f.at.ls))) o = (c.is _ walked).puts in
      let b : m - 0 ≡ size_of n d kind h = omega arith in
      let i : cut_of (m - 0) k (flat_map (bytes_of n d) (flat_map (pairs_of n d) f.at.ls)) ≡ x =
      rw (b, q) (cut_is n d f.at.size kind _ h f.at.on (ap (λ (y : Thread). y.pairs) thread) (ap (λ (y : Thread). y.head) thread)) in
      let s : length x ≡ m = sym (e ∙ long) in
      let w : Put 0 x o o' = put_is (a ∙ ap (λ (y : List ℕ). put 0 y o) i) (omega arith) in
      hands_over_lem (file_bytes n d p kind) o o' x bytes (omega arith) (put_front w) (Ok m) (rw s refl)

pub ruleset datas = (data_short, data_room, data_whole, data_done, rules)
