-- The sectors of a file called free in a copy of the table. Assumes nothing.
use Rattle.std.specs.Prelude.{Ok}
use mathlib.Core.Path.{◌≡◌, refl, sym, ap, ◌∙◌}
use mathlib.Core.Bool.{Bool, true, false, ◌&&◌}
use mathlib.Core.List.{List, [], ◌∷◌, ◌++◌, flat_map, foldl, append-nil, append_assoc}
use Prim.Native.Nat.{ℕ, ◌+◌, ◌*◌, ◌<◌, ◌≤◌}
use native.Mathlib.Omega.{arith}
use lib.ListN.{length, take, drop, replicate, length-drop}
use lib.Seq.{length-take-le}
use Rattle.lists.specs.Fill.{put, placed}
use lib.Dec.{eqb}
use borrow.Author.Tests.{eq-eqb, eqb-true, not-true, not-false}
use borrow.Author.Rules.{rules}
use Rattle.lists.specs.Every.{Every}
use Rattle.lists.proofs.Split.{by_test, both_true}
use Rattle.lists.proofs.Put.{length_put, put_whole, placed_put}
use Rattle.disk.specs.declared.Place.{Place}
use Rattle.disk.specs.Disk.{on_disk, sectors, byte_of, bytes_of, link_of}
use Rattle.disk.specs.Vtoc.{vtoc}
use Rattle.disk.proofs.Steps.{made, rest, rest_start, rest_within, rest_last, rest_on}
use Rattle.holders.specs.Holders.{with_pairs}
use Rattle.disk.proofs.Places.{on_track}
use Rattle.files.specs.Contents.{pair_at, pairs_of, sound_list, next_list, list_walk}
use Rattle.files.proofs.Runs.{behind, stop, next, none_behind}
use Rattle.amend.specs.Search.{freed}
use Rattle.allot.specs.Table.{marked_in, mark_on, Marked}
use Rattle.allot.proofs.Working.{with_table, table_self, table_marked, marked_long}
use Rattle.saving.specs.Steps.{frees, PairsFreed, ListFreed, Linked, ListsFreed, vtoc_copy, Copied}

-- ---- on the disk and in the copy
-- some sectors called free in a table, one after the other
unfoldable freed_in : ℕ → List ℕ → List Place → List ℕ
freed_in n T ps = foldl (λ (U : List ℕ) (p : Place). marked_in n U 1 p) T ps

module _ (n : ℕ) (some : 0 < n) (d : List ℕ) (size : length d ≡ 256 * sectors n) where
  table_freed : {ps : List Place} → Every (λ (p : Place). on_disk n p ≡ true) ps → (T : List ℕ) → length T ≡ 256
      → freed n ps (with_table n some d size T) ≡ with_table n some d size (freed_in n T ps)
  unfolding freed freed_in
  table_freed Every.none T l = refl
  table_freed (Every.more {x = p} {xs = ps} on e) T l =
      ap (freed n ps) (table_marked n some d size T l 1 p (on_track n p on))
      ∙ table_freed e (marked_in n T 1 p) (marked_long n some d size T l 1 p (on_track n p on))

-- ---- some places
length_free : (T : List ℕ) (p : Place) → length (mark_on T 1 p) ≡ length T
unfolding mark_on
length_free T p =
    by_test (eqb (length T) 256 && on_disk 16 p)
    (λ q.
    let b = both_true (eqb (length T) 256) (on_disk 16 p) q in
    let l : length T ≡ 256 = eqb-true _ _ b.0 in
    let t : p.track.0 < 35 = on_track 16 p b.1 in
    rw q (length_put (56 + 4 * p.track.0) _ T (omega arith)))
    (λ q. rw q refl)

pub length_frees : (T : List ℕ) (ps : List Place) → length (frees T ps) ≡ length T
unfolding frees
length_frees T [] = refl
length_frees T (p ∷ ps) = length_frees (mark_on T 1 p) ps ∙ length_free T p

-- the VTOC has 256 bytes
pub vtoc_long : (d : List ℕ) → length d ≡ 256 * sectors 16 → length (bytes_of 16 d vtoc) ≡ 256
unfolding bytes_of
vtoc_long d size = length-take-le 256 (drop 69632 d) (rw length-drop (omega arith))

-- a copy of it
pub copied : (d t o : List ℕ) → t ≡ take 256 (drop 69632 d) → o ≡ placed 0 t (replicate 256 0) → Copied d o
unfolding bytes_of vtoc_copy
copied d t o e f = record { is = f ∙ ap (λ (x : List ℕ). placed 0 x (replicate 256 0)) e }

-- .. of a disk that has one
pub copy_is : (d T : List ℕ) → Copied d T → length d ≡ 143360 → T ≡ bytes_of 16 d vtoc
unfolding vtoc_copy
copy_is d T c size = let l = vtoc_long d size in put_whole (placed_put c.is (omega arith)) l

pub ruleset copies = (copied, rules)

-- all of them being on the disk
frees_freed : {ps : List Place} → Every (λ (p : Place). on_disk 16 p ≡ true) ps → (T : List ℕ) → length T ≡ 256 → frees T ps ≡ freed_in 16 T ps
unfolding frees freed_in mark_on
frees_freed Every.none T l = refl
frees_freed (Every.more {x = p} {xs = ps} on e) T l =
    let t : p.track.0 < 35 = on_track 16 p on in
    let a : mark_on T 1 p ≡ marked_in 16 T 1 p = rw (eq-eqb (length T) 256 l, on) refl in
    ap (λ (U : List ℕ). frees U ps) a ∙ frees_freed e (marked_in 16 T 1 p) (length_put (56 + 4 * p.track.0) _ T (omega arith) ∙ l)

-- the copy put back is the disk with these sectors called free
pub copy_freed : (d : List ℕ) (size : length d ≡ 256 * sectors 16) {ps : List Place} → Every (λ (p : Place). on_disk 16 p ≡ true) ps
    → put 69632 (frees (bytes_of 16 d vtoc) ps) d ≡ freed 16 ps d
copy_freed d size {ps} on =
    let T : List ℕ = bytes_of 16 d vtoc in
    let l : length T ≡ 256 = vtoc_long d size in
    ap (λ (U : List ℕ). put 69632 U d) (frees_freed on T l) ∙ sym (table_freed 16 (omega arith) d size on T l)
    ∙ ap (freed 16 ps) (table_self 16 (omega arith) d size)

frees_last : (T : List ℕ) (a : List Place) (q : Place) → frees T (a ++ q ∷ []) ≡ mark_on (frees T a) 1 q
unfolding frees
frees_last T [] q = refl
frees_last T (p ∷ a) q = frees_last (mark_on T 1 p) a q

frees_none : (T : List ℕ) → frees T [] ≡ T
unfolding frees
frees_none T = refl

module _ (d : List ℕ) (p : Place) (T₀ : List ℕ) where
  -- i pairs were called free
  pub record Freeing (i : ℕ) (T : List ℕ) : Type 0 where
    pub count : i ≤ 122
    pub done : List Place
    pub split : pairs_of 16 d p ≡ done ++ behind 16 d p i
    pub is : T ≡ frees T₀ done

  pub freeing_none : Freeing 0 T₀
  unfolding pairs_of
  freeing_none = record { count = omega arith; done = []; split = refl; is = sym (frees_none T₀) }

  module _ (i : ℕ) (T : List ℕ) (h : Freeing i T) where
    pub freeing_long : length T ≡ length T₀
    freeing_long = ap length h.is ∙ length_frees T₀ h.done

    whole : behind 16 d p i ≡ [] → PairsFreed (pairs_of 16 d p) T₀ T
    whole e = record { is = h.is ∙ ap (frees T₀) (sym (h.split ∙ ap (λ (y : List Place). h.done ++ y) e ∙ append-nil h.done)) }

    pub freeing_full : 122 ≤ i → PairsFreed (pairs_of 16 d p) T₀ T
    freeing_full l = whole (none_behind 16 d p i l)

    pub freeing_stop : (q : Place) → q ≡ pair_at 16 d p i → i < 122 → q.track.0 ≡ 0 → PairsFreed (pairs_of 16 d p) T₀ T
    freeing_stop q e l z = whole (stop 16 d p i l q e z)

    pub freeing_more : (q : Place) (T' : List ℕ) → Marked 1 q T T' → i < 122 → q ≡ pair_at 16 d p i → (q.track.0 ≡ 0 → ⊥) → Freeing (i + 1) T'
    freeing_more q T' u l e z =
        record {
          count = omega arith;
          done = h.done ++ q ∷ [];
          split = h.split ∙ ap (λ (y : List Place). h.done ++ y) (next 16 d p i l q e z) ∙ sym (append_assoc h.done (q ∷ []) (behind 16 d p (i + 1)));
          is = u.is ∙ ap (λ (U : List ℕ). mark_on U 1 q) h.is ∙ sym (frees_last T₀ h.done q);
        }

pub ruleset freeings = (freeing_none, freeing_long, freeing_full, freeing_stop, freeing_more, rules)

-- ---- a list, and a chain of lists
pub list_freed : (d : List ℕ) (p : Place) (T T₁ T₂ : List ℕ) → Marked 1 p T T₁ → PairsFreed (pairs_of 16 d p) T₁ T₂ → ListFreed d p T T₂
unfolding frees
list_freed d p T T₁ T₂ u v = record { is = v.is ∙ ap (λ (U : List ℕ). frees U (pairs_of 16 d p)) u.is }

pub ruleset list_frees = (list_freed, rules)

frees_append : (T : List ℕ) (a b : List Place) → frees T (a ++ b) ≡ frees (frees T a) b
unfolding frees
frees_append T [] b = refl
frees_append T (p ∷ a) b = frees_append (mark_on T 1 p) a b

module _ (d : List ℕ) where
  abbrev step : List ℕ → Place → List ℕ
  step T p = frees T (with_pairs 16 d p)

  steps_are : (T : List ℕ) (ls : List Place) → foldl step T ls ≡ frees T (flat_map (with_pairs 16 d) ls)
  unfolding flat_map
  steps_are T [] = sym (frees_none T)
  steps_are T (l ∷ ls) = steps_are (step T l) ls ∙ sym (frees_append T (with_pairs 16 d l) (flat_map (with_pairs 16 d) ls))

  module _ (first : Place) (T₀ : List ℕ) where
    -- k lists were called free, and p is the next; `left` is what it comes to
    pub record Walking (most k : ℕ) (T : List ℕ) (p : Place) : Type 0 where
      pub budget : most ≡ 35 * 16 + 1
      pub count : k ≤ most
      pub long : length T ≡ length T₀
      pub lists : List Place
      pub walked : list_walk 16 d first ≡ Ok lists
      pub is : rest step 16 (sound_list 16 d) (next_list 16 d) (35 * 16 + 1) k T p ≡ Ok (foldl step T₀ lists)

    pub walking_none : (most : ℕ) → most ≡ 35 * 16 + 1 → Linked d first → Walking most 0 T₀ first
    unfolding list_walk
    walking_none most e t =
        record {
          budget = e;
          count = omega arith;
          long = refl;
          lists = t.lists;
          walked = t.is;
          is = rest_start step 16 (sound_list 16 d) (next_list 16 d) (35 * 16 + 1) T₀ first ∙ ap (made step T₀) t.is;
        }

    module _ (most k : ℕ) (T : List ℕ) (p : Place) (w : Walking most k T p) where
      pub walking_long : length T ≡ length T₀
      walking_long = w.long

      pub walking_over : most ≤ k → ListsFreed d first T₀ T
      walking_over h =
          let l = rest_within step 16 (sound_list 16 d) (next_list 16 d) (35 * 16 + 1) k T p (foldl step T₀ w.lists) w.is in
          absurd (omega (arith, w.budget))

      module _ (T' : List ℕ) (u : ListFreed d p T T') (b : Bool) (e : b ≡ eqb (byte_of 16 d p 1) 0) where
        pub walking_last : b ≡ true → ListsFreed d first T₀ T'
        unfolding next_list
        walking_last z =
            let l = rest_last step 16 (sound_list 16 d) (next_list 16 d) (35 * 16 + 1) k T p (foldl step T₀ w.lists) w.is (rw (← e, z) refl) in
            record {
              is = λ ls q.
                  let y : Ok w.lists ≡ Ok ls = sym w.walked ∙ q in
                  let x : w.lists ≡ ls = cc in
                  u.is ∙ sym l ∙ steps_are T₀ w.lists ∙ ap (λ (v : List Place). frees T₀ (flat_map (with_pairs 16 d) v)) x;
            }

        pub walking_more : b ≡ false → (q : Place) → q ≡ link_of 16 d p → k < most → Walking most (k + 1) T' q
        unfolding next_list
        walking_more z q f h =
            record {
              budget = w.budget;
              count = omega arith;
              long = ap length u.is ∙ length_frees T (with_pairs 16 d p) ∙ w.long;
              lists = w.lists;
              walked = w.walked;
              is =
                  ap (λ (U : List ℕ). rest step 16 (sound_list 16 d) (next_list 16 d) (35 * 16 + 1) (k + 1) U q) u.is
                  ∙ rest_on step 16 (sound_list 16 d) (next_list 16 d) (35 * 16 + 1) k T p (foldl step T₀ w.lists) w.is q (rw (← e, z, f) refl);
            }

pub ruleset walkings = (walking_none, walking_long, walking_over, walking_last, walking_more, not-true, not-false, rules)
