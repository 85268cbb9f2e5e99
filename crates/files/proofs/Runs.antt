-- The pairs of a list, and a chain of lists, as loops meet them. Assumes nothing.
use mathlib.Core.Path.{◌≡◌, refl, sym, ap, ◌∙◌}
use mathlib.Core.Bool.{Bool, true, false, cond, not, ◌&&◌}
use mathlib.Core.List.{List, [], ◌∷◌, ◌++◌, flat_map, foldl, append-nil, append_assoc}
use Prim.Native.Nat.{ℕ, suc, ◌+◌, ◌*◌, ◌<◌, ◌≤◌}
use native.Mathlib.Omega.{arith}
use lib.ListN.{length, length-append}
use lib.Dec.{eqb}
use borrow.Author.Tests.{eq-eqb, ne_eqb, not-true, not-false}
use borrow.Author.Rules.{rules}
use Rattle.lists.specs.Select.{all, take_while}
use Rattle.lists.proofs.Chunks.{flat_map_append, flat_map_one}
use Rattle.std.specs.Prelude.{Ok, Err}
use Rattle.outcome.specs.declared.Refusal.TheVariants.{OffDisc, Ring, CutLink}
use Rattle.outcome.specs.Outcome.{Outcome, ◌>>=◌}
use Rattle.disk.specs.Chain.{walk}
use Rattle.disk.proofs.Steps.{made, rest, rest_start, rest_full, rest_off, rest_bad, rest_end, rest_more}
use Rattle.files.specs.declared.Thread.{Thread}
use Rattle.lists.proofs.Split.{and_assoc, and_true}
use Rattle.lists.proofs.Select.{all_append, onward, onward_next, onward_end, take_while_next, take_while_stop}
use Rattle.disk.specs.declared.Place.{Place}
use Rattle.disk.specs.Disk.{place, on_disk, byte_of, link_of}
use Rattle.files.specs.declared.PairRun.{PairRun}
use Rattle.files.specs.Contents.{max_pairs, is_pair, pair_at, pairs_of, whole_link, sound_list, next_list, list_walk}
use Rattle.files.specs.Threads.{head_of, end_thread, run_of, followed}

-- ---- the pairs of a list
pub pair_is : (n : ℕ) (d : List ℕ) (p : Place) (i t s : ℕ) → t ≡ byte_of n d p (12 + 2 * i) → s ≡ byte_of n d p (13 + 2 * i) → place t s ≡ pair_at n d p i
pair_is n d p i t s a b = rw (a, b) refl

module _ (n : ℕ) (d : List ℕ) (p : Place) where
  -- the pairs from i on
  abbrev pub behind : ℕ → List Place
  behind i = take_while is_pair (onward (pair_at n d p) max_pairs i)

  -- i pairs were read, and `good` says whether all of them are on the disk
  pub record Pairing (i : ℕ) (good : Bool) : Type 0 where
    pub count : i ≤ max_pairs
    pub long : length (pairs_of n d p) ≡ i + length (behind i)
    pub on : all (on_disk n) (pairs_of n d p) ≡ (good && all (on_disk n) (behind i))

  pub pairing_none : Pairing 0 true
  unfolding pairs_of
  pairing_none = record { count = omega arith; long = omega arith; on = refl }

  -- behind all of them
  pub none_behind : (i : ℕ) → max_pairs ≤ i → behind i ≡ []
  unfolding take_while
  none_behind i h = rw (onward_end (pair_at n d p) max_pairs i h) refl

  -- behind the last pair
  pub stop : (i : ℕ) → i < max_pairs → (q : Place) → q ≡ pair_at n d p i → q.track.0 ≡ 0 → behind i ≡ []
  stop i h q e z =
      let t : is_pair (pair_at n d p i) ≡ false = sym (ap is_pair e) ∙ rw (eq-eqb q.track.0 0 z) refl in
      ap (take_while is_pair) (onward_next (pair_at n d p) max_pairs i h) ∙ take_while_stop is_pair (pair_at n d p i) _ t

  -- one pair more
  pub next : (i : ℕ) → i < max_pairs → (q : Place) → q ≡ pair_at n d p i → (q.track.0 ≡ 0 → ⊥) → behind i ≡ q ∷ behind (i + 1)
  next i h q e z =
      let t : is_pair (pair_at n d p i) ≡ true = sym (ap is_pair e) ∙ rw (ne_eqb q.track.0 0 z) refl in
      ap (take_while is_pair) (onward_next (pair_at n d p) max_pairs i h) ∙ take_while_next is_pair (pair_at n d p i) _ t
      ∙ ap (λ (x : Place). x ∷ behind (i + 1)) (sym e)

  module _ (i : ℕ) (good : Bool) (c : Pairing i good) where
    ends : behind i ≡ [] → record { count = i; good = good } ≡ run_of n d p
    unfolding all
    ends e =
        let a : i ≡ length (pairs_of n d p) = omega (arith, c.long, ap length e) in
        let b : good ≡ all (on_disk n) (pairs_of n d p) = sym (c.on ∙ rw e (and_true good)) in
        λ j. record { count = a j; good = b j }

    pub pairing_stop : i < max_pairs → (q : Place) → q ≡ pair_at n d p i → q.track.0 ≡ 0 → record { count = i; good = good } ≡ run_of n d p
    pairing_stop h q e z = ends (stop i h q e z)

    pub pairing_full : max_pairs ≤ i → record { count = i; good = good } ≡ run_of n d p
    pairing_full h = ends (none_behind i h)

    pub pairing_more : i < max_pairs → (q : Place) → q ≡ pair_at n d p i → (q.track.0 ≡ 0 → ⊥) → (b : Bool) → b ≡ on_disk n q → Pairing (i + 1) (good && b)
    unfolding all
    pairing_more h q e z b w =
        let k = next i h q e z in
        record {
          count = omega arith;
          long = omega (arith, c.long, ap length k);
          on = c.on ∙ rw (k, ← w) (and_assoc good b (all (on_disk n) (behind (i + 1))));
        }

pub ruleset pairings = (pair_is, pairing_none, rules)

-- ---- the first pair
module _ (n : ℕ) (d : List ℕ) (p : Place) (q : Place) (e : q ≡ pair_at n d p 0) where
  pub head_none : (z : Place) → q.track.0 ≡ 0 → z ≡ place 0 0 → z ≡ head_of (pairs_of n d p)
  unfolding pairs_of
  head_none z h w = w ∙ rw (stop n d p 0 (omega arith) q e h) refl

  pub head_some : (q.track.0 ≡ 0 → ⊥) → q ≡ head_of (pairs_of n d p)
  unfolding pairs_of
  head_some h = rw (next n d p 0 (omega arith) q e h) refl

module _ (m : ℕ) (h a b : Place) where
  pub head_first : m ≡ 0 → a ≡ b → a ≡ cond (eqb m 0) b h
  head_first z e = rw (eq-eqb m 0 z) e

  pub head_kept : (m ≡ 0 → ⊥) → h ≡ cond (eqb m 0) b h
  head_kept z = rw (ne_eqb m 0 z) refl

-- ---- a link
module _ (n : ℕ) (d : List ℕ) (p : Place) (t : ℕ) (e : t ≡ byte_of n d p 1) where
  pub link_last : t ≡ 0 → true ≡ whole_link n d p
  unfolding whole_link
  link_last z = rw (← e, eq-eqb t 0 z) refl

  pub link_whole : (t ≡ 0 → ⊥) → (s : ℕ) → s ≡ byte_of n d p 2 → not (eqb s 0) ≡ whole_link n d p
  unfolding whole_link
  link_whole z s q = rw (← e, ne_eqb t 0 z, q) refl

  pub link_ends : eqb t 0 ≡ eqb (byte_of n d p 1) 0
  link_ends = rw e refl

-- ---- the end of a chain
module _ (k m : ℕ) (good : Bool) (head : Place) where
  pub end_good : good ≡ true → Ok (record { lists = k; pairs = m; head = head }) ≡ end_thread k m good head
  end_good e = rw e refl

  pub end_bad : good ≡ false → Err OffDisc ≡ end_thread k m good head
  end_bad h = rw h refl

pub ruleset heads = (link_ends, end_good, end_bad, head_none, head_some, head_first, head_kept, link_last, link_whole, rules)

-- ---- a chain of lists
-- what is known after some lists
pub record Run : Type 0 where
  pub lists : ℕ
  pub pairs : ℕ
  pub good : Bool
  pub head : Place

abbrev pub run : ℕ → ℕ → Bool → Place → Run
run k m good head = record { lists = k; pairs = m; good = good; head = head }

-- the first of two lists
head_append : (xs ys : List Place) → head_of (xs ++ ys) ≡ cond (eqb (length xs) 0) (head_of ys) (head_of xs)
head_append [] ys = refl
head_append (x ∷ xs) ys = rw (ne_eqb (suc (length xs)) 0 (λ e. omega arith)) refl

module _ (n : ℕ) (d : List ℕ) where
  -- one list more
  abbrev pub step : Run → Place → Run
  step s p =
      run (s.lists + 1) (s.pairs + length (pairs_of n d p)) (s.good && all (on_disk n) (pairs_of n d p))
      (cond (eqb s.pairs 0) (head_of (pairs_of n d p)) s.head)

  -- what the lists ls come to
  abbrev pub run_for : List Place → Run
  run_for ls = let ps = flat_map (pairs_of n d) ls in run (length ls) (length ps) (all (on_disk n) ps) (head_of ps)

  step_is : (ls : List Place) (p : Place) → step (run_for ls) p ≡ run_for (ls ++ (p ∷ []))
  step_is ls p =
      let e : flat_map (pairs_of n d) (ls ++ (p ∷ [])) ≡ flat_map (pairs_of n d) ls ++ pairs_of n d p =
      flat_map_append (pairs_of n d) ls (p ∷ []) ∙ ap (λ (t : List Place). flat_map (pairs_of n d) ls ++ t) (flat_map_one (pairs_of n d) p) in
      let ps : List Place = flat_map (pairs_of n d) ls in
      let a : length ls + 1 ≡ length (ls ++ (p ∷ [])) = rw length-append (omega arith) in
      let b : length ps + length (pairs_of n d p) ≡ length (flat_map (pairs_of n d) (ls ++ (p ∷ []))) = rw (e, length-append) refl in
      let c : (all (on_disk n) ps && all (on_disk n) (pairs_of n d p)) ≡ all (on_disk n) (flat_map (pairs_of n d) (ls ++ (p ∷ []))) =
      sym (ap (all (on_disk n)) e ∙ all_append (on_disk n) ps (pairs_of n d p)) in
      let h : cond (eqb (length ps) 0) (head_of (pairs_of n d p)) (head_of ps) ≡ head_of (flat_map (pairs_of n d) (ls ++ (p ∷ []))) =
      sym (ap head_of e ∙ head_append ps (pairs_of n d p)) in
      λ i. run (a i) (b i) (c i) (h i)

  steps_are : (ls ms : List Place) → foldl step (run_for ls) ms ≡ run_for (ls ++ ms)
  steps_are ls [] = ap run_for (sym (append-nil ls))
  steps_are ls (p ∷ ms) =
      ap (λ (s : Run). foldl step s ms) (step_is ls p) ∙ steps_are (ls ++ (p ∷ [])) ms ∙ ap run_for (append_assoc ls (p ∷ []) ms)

  -- the answer for a run
  abbrev pub thread_from : Outcome Run → Outcome Thread
  thread_from o = o >>= λ s. end_thread s.lists s.pairs s.good s.head

  unfoldable pub walk_run : Place → Outcome Run
  walk_run p = list_walk n d p >>= λ ls. Ok (run_for ls)

  run_thread : (o : Outcome (List Place)) → thread_from (o >>= λ ls. Ok (run_for ls)) ≡ followed n d o
  run_thread (Err r) = refl
  run_thread (Ok ls) = refl

  made_run : (o : Outcome (List Place)) → made step (run 0 0 true (place 0 0)) o ≡ (o >>= λ ls. Ok (run_for ls))
  unfolding all flat_map
  made_run (Err r) = refl
  made_run (Ok ls) = ap Ok (steps_are [] ls)

  module _ (first : Place) where
    abbrev Goal : Outcome Thread → Type 0
    Goal t = t ≡ followed n d (list_walk n d first)

    -- k lists with m pairs were read, and p is the next
    pub record Following (most k m : ℕ) (good : Bool) (head p : Place) : Type 0 where
      pub budget : most ≡ 35 * n + 1
      pub count : k ≤ most
      pub few : m ≤ max_pairs * k
      pub is : rest step n (sound_list n d) (next_list n d) (35 * n + 1) k (run k m good head) p ≡ walk_run first

    pub follow_none : (most : ℕ) (head : Place) → most ≡ 35 * n + 1 → head ≡ place 0 0 → Following most 0 0 true head first
    unfolding walk_run list_walk
    follow_none most head e h =
        record {
          budget = e;
          count = omega arith;
          few = omega arith;
          is =
              rw h
              (rest_start step n (sound_list n d) (next_list n d) (35 * n + 1) (run 0 0 true (place 0 0)) first
              ∙ made_run (walk n (sound_list n d) (next_list n d) (35 * n + 1) [] first));
        }

    -- the walk's end, as the answer
    answer : (t : Outcome Thread) (o : Outcome Run) → o ≡ walk_run first → t ≡ thread_from o → Goal t
    unfolding walk_run
    answer t o e q = q ∙ ap thread_from e ∙ run_thread (list_walk n d first)

    module _ (most k m : ℕ) (good : Bool) (head p : Place) (c : Following most k m good head p) where
      pub follow_ring : most ≤ k → Goal (Err Ring)
      follow_ring h =
          answer (Err Ring) (Err Ring) (sym (rest_full step n (sound_list n d) (next_list n d) (35 * n + 1) k (run k m good head) p (omega (arith, c.budget))) ∙ c.is) refl

      module _ (h : k < most) (on : Bool) (o : on ≡ on_disk n p) where
        inside : k < 35 * n + 1
        inside = omega (arith, c.budget)

        pub follow_off : on ≡ false → Goal (Err OffDisc)
        follow_off z =
            answer (Err OffDisc) (Err OffDisc) (sym (rest_off step n (sound_list n d) (next_list n d) (35 * n + 1) k (run k m good head) p inside (sym o ∙ z)) ∙ c.is) refl

        pub follow_cut : on ≡ true → (b : Bool) → b ≡ whole_link n d p → b ≡ false → Goal (Err CutLink)
        unfolding sound_list
        follow_cut y b w z =
            answer (Err CutLink) (Err CutLink)
            (sym (rest_bad step n (sound_list n d) (next_list n d) (35 * n + 1) k (run k m good head) p inside CutLink (sym o ∙ y) (rw (← w, z) refl)) ∙ c.is) refl

    module _ (most k m : ℕ) (good : Bool) (head p : Place) (c : Following most k m good head p) (h : k < most) (on : Bool) (o : on ≡ on_disk n p) (y : on ≡ true)
        (b : Bool) (w : b ≡ whole_link n d p) (z : b ≡ true) (r : PairRun) (u : r ≡ run_of n d p) (few : r.count ≤ max_pairs)
        (a : Place) (v : a ≡ cond (eqb m 0) (head_of (pairs_of n d p)) head) (l : Bool) (e : l ≡ eqb (byte_of n d p 1) 0) where
      sound : sound_list n d p ≡ Ok tt
      unfolding sound_list
      sound = rw (← w, z) refl

      stepped : run (k + 1) (m + r.count) (good && r.good) a ≡ step (run k m good head) p
      stepped = rw (u, v) refl

      pub follow_last : l ≡ true → (t : Outcome Thread) → t ≡ end_thread (k + 1) (m + r.count) (good && r.good) a → Goal t
      unfolding next_list
      follow_last x t q =
          answer t (Ok (step (run k m good head) p))
          (sym (rest_end step n (sound_list n d) (next_list n d) (35 * n + 1) k (run k m good head) p (omega (arith, c.budget)) (sym o ∙ y, sound) (rw (← e, x) refl)) ∙ c.is)
          (q ∙ ap (λ (s : Run). thread_from (Ok s)) stepped)

      pub follow_more : l ≡ false → (s : Place) → s ≡ link_of n d p → Following most (k + 1) (m + r.count) (good && r.good) a s
      unfolding next_list
      follow_more x s q =
          record {
            budget = c.budget;
            count = omega arith;
            few = omega (arith, c.few);
            is =
                ap (λ (i : Run). rest step n (sound_list n d) (next_list n d) (35 * n + 1) (k + 1) i s) stepped
                ∙ sym (rest_more step n (sound_list n d) (next_list n d) (35 * n + 1) k (run k m good head) p (omega (arith, c.budget)) s (sym o ∙ y, sound, rw (← e, x, q) refl))
                ∙ c.is;
          }

pub ruleset follows = (follow_none, follow_ring, follow_off, follow_cut, follow_last, follow_more, not-true, not-false, rules)
