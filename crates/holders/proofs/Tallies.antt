-- Holders counted in one pass, function by function. Assumes nothing.
use mathlib.Core.Path.{◌≡◌, refl, sym, ap, subst, ◌∙◌}
use mathlib.Core.Bool.{Bool, true, false, cond, ◌&&◌}
use mathlib.Core.List.{List, [], ◌∷◌, ◌++◌, flat_map, foldl, append-nil, append_assoc}
use Prim.Native.Nat.{ℕ, ◌+◌, ◌*◌, ◌/◌, ◌<◌, ◌≤◌}
use native.Mathlib.Numerals.{add-one}
use native.Mathlib.Omega.{arith}
use lib.ListN.{length, get_or, set, length-set}
use lib.Seq.{set_out, set-get_or}
use lib.Dec.{eqb}
use borrow.Author.Tests.{lt-ltb, le-ltb, not-true, not-false}
use borrow.Author.Rules.{rules}
use Rattle.lists.specs.Select.{all}
use Rattle.lists.proofs.Split.{by_test, and_assoc}
use Rattle.lists.proofs.Select.{all_append, all_one}
use Rattle.std.specs.Prelude.{Ok, Err}
use Rattle.outcome.specs.declared.Refusal.{Refusal}
use Rattle.outcome.specs.declared.Refusal.TheVariants.{OffDisc, Ring, CutLink, BadLetter}
use Rattle.outcome.specs.Outcome.{Outcome, ◌>>=◌, ◌>>◌, require}
use Rattle.outcome.proofs.Outcome.{refused_given, gives, map_refuses}
use Rattle.outcome.proofs.Silent.{silent, silent_map}
use Rattle.disk.specs.declared.Place.{Place}
use Rattle.disk.specs.Disk.{start, on_disk, byte_of, link_of}
use Rattle.disk.specs.Vtoc.{vtoc, readable}
use Rattle.disk.proofs.Steps.{made, rest, rest_start, rest_full, rest_off, rest_bad, rest_end, rest_more}
use Rattle.catalog.specs.Catalog.{valid_file, entry_from, entries_of, plain_names, sound_page, last_page, next_page, first_page}
use Rattle.files.specs.Contents.{pair_at, pairs_of, whole_link, sound_list, next_list, list_walk}
use Rattle.files.proofs.Runs.{behind, stop, next, none_behind}
use Rattle.holders.specs.Holders.{with_pairs, sectors_from}
use Rattle.holders.specs.Tally.{bump, bumps, Bumped, PairHeld, Paired, ListHeld, Tallied, Extends, line_sectors, with_line, with_lines, with_page, on_page, walk_held, met_from, all_met}

-- what is not refused has a value
pub silent_given : {A : Type 0} (o : Outcome A) → silent o ≡ Ok tt → (x : A) × (o ≡ Ok x)
silent_given (Err r) e = absurd (refused_given e)
silent_given (Ok x) e = (x, refl)

-- ---- one place
module _ (n : ℕ) (c : List ℕ) (p : Place) (s : ℕ) (e : s ≡ start n p) where
  at : s / 256 ≡ n * p.track.0 + p.sector.0
  at = omega (arith, e)

  pub hold_out : length c ≤ s / 256 → Bumped n p c c
  unfolding bump
  hold_out h = record { is = rw (← at) (sym (set_out c (s / 256) _ h)) }

  pub hold_more : get_or c (s / 256) 0 < 2 → Bumped n p c (set c (s / 256) (get_or c (s / 256) 0 + 1))
  unfolding bump
  hold_more l = record { is = rw (← at, lt-ltb _ _ l) refl }

  pub hold_full : 2 ≤ get_or c (s / 256) 0 → Bumped n p c c
  unfolding bump
  hold_full l = record { is = rw (← at, le-ltb _ _ l) (sym (set-get_or c (s / 256) 0)) }

pub ruleset holds = (hold_out, hold_more, hold_full, rules)

-- ---- some places
module _ (n : ℕ) where
  pub length_bump : (c : List ℕ) (p : Place) → length (bump n c p) ≡ length c
  unfolding bump
  length_bump c p = length-set c _ _

  pub length_bumps : (c : List ℕ) (ps : List Place) → length (bumps n c ps) ≡ length c
  unfolding bumps
  length_bumps c [] = refl
  length_bumps c (p ∷ ps) = length_bumps (bump n c p) ps ∙ length_bump c p

  pub bumps_append : (c : List ℕ) (a b : List Place) → bumps n c (a ++ b) ≡ bumps n (bumps n c a) b
  unfolding bumps
  bumps_append c [] b = refl
  bumps_append c (p ∷ a) b = bumps_append (bump n c p) a b

  pub bumps_none : (c : List ℕ) → bumps n c [] ≡ c
  unfolding bumps
  bumps_none c = refl

  pub bumps_more : (c : List ℕ) (p : Place) (ps : List Place) → bumps n c (p ∷ ps) ≡ bumps n (bump n c p) ps
  unfolding bumps
  bumps_more c p ps = refl

-- ---- the pairs of a list
module _ (n : ℕ) (d : List ℕ) (p : Place) (c₀ : List ℕ) where
  -- i pairs were counted
  pub record Pairing (i : ℕ) (good : Bool) (c : List ℕ) : Type 0 where
    pub count : i ≤ 122
    pub done : List Place
    pub split : pairs_of n d p ≡ done ++ behind n d p i
    pub paired : Paired n done c₀ c good

  pub paired_none : Pairing 0 true c₀
  unfolding pairs_of all
  paired_none = record { count = omega arith; done = []; split = refl; paired = record { good = refl; is = sym (bumps_none n c₀) } }

  module _ (i : ℕ) (good : Bool) (c : List ℕ) (h : Pairing i good c) where
    pub paired_long : length c ≡ length c₀
    paired_long = ap length h.paired.is ∙ length_bumps n c₀ h.done

    whole : behind n d p i ≡ [] → Paired n (pairs_of n d p) c₀ c good
    whole e =
        let q : pairs_of n d p ≡ h.done = h.split ∙ ap (λ (y : List Place). h.done ++ y) e ∙ append-nil h.done in
        rw q h.paired

    pub paired_full : 122 ≤ i → Paired n (pairs_of n d p) c₀ c good
    paired_full l = whole (none_behind n d p i l)

    pub paired_stop : i < 122 → (q : Place) → q ≡ pair_at n d p i → q.track.0 ≡ 0 → Paired n (pairs_of n d p) c₀ c good
    paired_stop l q e z = whole (stop n d p i l q e z)

    pub paired_more : (q : Place) (c' : List ℕ) (b : Bool) → PairHeld n q c c' b → i < 122 → q ≡ pair_at n d p i → (q.track.0 ≡ 0 → ⊥)
        → Pairing (i + 1) (good && b) c'
    paired_more q c' b u l e z =
        let w = u.good in
        let g = h.paired in
        record {
          count = omega arith;
          done = h.done ++ q ∷ [];
          split = h.split ∙ ap (λ (y : List Place). h.done ++ y) (next n d p i l q e z) ∙ sym (append_assoc h.done (q ∷ []) (behind n d p (i + 1)));
          paired =
              record {
                good = rw (all_append (on_disk n) h.done (q ∷ []), all_one (on_disk n) q, ← g.good, ← w) refl;
                is = u.is ∙ rw (bumps_append n c₀ h.done (q ∷ []), ← g.is, bumps_more n c q [], bumps_none n (bump n c q)) refl;
              };
        }

-- one pair
pub pair_held : (n : ℕ) (q : Place) (c c' : List ℕ) → Bumped n q c c' → (b : Bool) → b ≡ on_disk n q → PairHeld n q c c' b
pair_held n q c c' u b e = record { good = e; is = u.is }

-- a list
pub list_held : (n : ℕ) (d : List ℕ) (p : Place) (c c₁ c₂ : List ℕ) → Bumped n p c c₁ → (b : Bool) → Paired n (pairs_of n d p) c₁ c₂ b → ListHeld n d p c c₂ b
list_held n d p c c₁ c₂ u b t = record { good = t.good; is = t.is ∙ ap (λ (x : List ℕ). bumps n x (pairs_of n d p)) u.is }

pub ruleset helds = (pair_held, list_held, rules)

pub ruleset pairs = (paired_none, paired_long, paired_full, paired_stop, paired_more, rules)

-- ---- a refused step; any counts do
module _ (n : ℕ) where
  pub tallied_refused : (o : Outcome (List Place)) (r : Refusal) → o ≡ Err r → (a b : List ℕ) (k : Outcome (Unit {0})) → k ≡ Err r → Tallied n o a b k
  tallied_refused o r e a b k q = record { is = q ∙ rw e refl; counts = λ hs z. absurd (refused_given (sym e ∙ z)) }

  pub tallied_given : (o : Outcome (List Place)) (hs : List Place) → o ≡ Ok hs → (a b : List ℕ) (k : Outcome (Unit {0})) → k ≡ Ok tt → b ≡ bumps n a hs → Tallied n o a b k
  tallied_given o hs e a b k q h =
      record {
        is = q ∙ rw e refl;
        counts = λ hs' z. let y : Ok hs ≡ Ok hs' = sym e ∙ z in let w : hs ≡ hs' = cc in h ∙ ap (bumps n a) w;
      }

-- ---- the lists of an entry
-- whether all pairs so far are on the disk, and the counts
record Run : Type 0 where
  pub good : Bool
  pub counts : List ℕ

abbrev run : Bool → List ℕ → Run
run g c = record { good = g; counts = c }

module _ (n : ℕ) (d : List ℕ) where
  abbrev step : Run → Place → Run
  step s l = run (s.good && all (on_disk n) (pairs_of n d l)) (bumps n (bump n s.counts l) (pairs_of n d l))

  steps_are : (g : Bool) (c : List ℕ) (ls : List Place)
      → foldl step (run g c) ls ≡ run (g && all (on_disk n) (flat_map (pairs_of n d) ls)) (bumps n c (flat_map (with_pairs n d) ls))
  unfolding flat_map all
  steps_are g c [] = let a : g ≡ (g && true) = by_test g (λ e. rw e refl) (λ e. rw e refl) in λ j. run (a j) (sym (bumps_none n c) j)
  steps_are g c (l ∷ ls) =
      let a : ((g && all (on_disk n) (pairs_of n d l)) && all (on_disk n) (flat_map (pairs_of n d) ls)) ≡ (g && all (on_disk n) (pairs_of n d l ++ flat_map (pairs_of n d) ls)) =
      rw (all_append (on_disk n) (pairs_of n d l) (flat_map (pairs_of n d) ls)) (sym (and_assoc g _ _)) in
      let b : bumps n (bumps n (bump n c l) (pairs_of n d l)) (flat_map (with_pairs n d) ls) ≡ bumps n c (l ∷ pairs_of n d l ++ flat_map (with_pairs n d) ls) =
      sym (bumps_append n (bump n c l) (pairs_of n d l) (flat_map (with_pairs n d) ls)) ∙ sym (bumps_more n c l _) in
      steps_are (g && all (on_disk n) (pairs_of n d l)) (bumps n (bump n c l) (pairs_of n d l)) ls ∙ λ j. run (a j) (b j)

  module _ (first : Place) (c₀ : List ℕ) where
    abbrev walk_run : Outcome Run
    walk_run = made step (run true c₀) (list_walk n d first)

    abbrev Goal : List ℕ → Outcome (Unit {0}) → Type 0
    Goal c r = Tallied n (sectors_from n d first) c₀ c r

    -- the walk's end, as the answer
    ends_refused : (r : Refusal) → Err r ≡ walk_run → (c : List ℕ) (k : Outcome (Unit {0})) → k ≡ Err r → Goal c k
    unfolding sectors_from
    ends_refused r e c k q = tallied_refused n (sectors_from n d first) r (rw (map_refuses (foldl step (run true c₀)) (list_walk n d first) (sym e)) refl) c₀ c k q

    from_given : (ls : List Place) → list_walk n d first ≡ Ok ls → all (on_disk n) (flat_map (pairs_of n d) ls) ≡ true
        → sectors_from n d first ≡ Ok (flat_map (with_pairs n d) ls)
    unfolding sectors_from
    from_given ls h a = rw (h, a) refl

    from_off : (ls : List Place) → list_walk n d first ≡ Ok ls → all (on_disk n) (flat_map (pairs_of n d) ls) ≡ false
        → sectors_from n d first ≡ Err OffDisc
    unfolding sectors_from
    from_off ls h a = rw (h, a) refl

    ends_given : (g : Bool) (c : List ℕ) → Ok (run g c) ≡ walk_run → (k : Outcome (Unit {0})) → k ≡ require g OffDisc → Goal c k
    ends_given g c e k q =
        let w = gives (list_walk n d first) (λ ls. Ok (foldl step (run true c₀) ls)) (run g c) (sym e) in
        let ls : List Place = w.0 in
        let y : Ok (foldl step (run true c₀) ls) ≡ Ok (run g c) = w.2 in
        let z : run (all (on_disk n) (flat_map (pairs_of n d) ls)) (bumps n c₀ (flat_map (with_pairs n d) ls)) ≡ run g c = sym (steps_are true c₀ ls) ∙ cc in
        let a : all (on_disk n) (flat_map (pairs_of n d) ls) ≡ g = ap (λ (x : Run). x.good) z in
        let b : bumps n c₀ (flat_map (with_pairs n d) ls) ≡ c = ap (λ (x : Run). x.counts) z in
        by_test g
        (λ t. tallied_given n (sectors_from n d first) (flat_map (with_pairs n d) ls) (from_given ls w.1 (a ∙ t)) c₀ c k (q ∙ rw t refl) (sym b))
        (λ t. tallied_refused n (sectors_from n d first) OffDisc (from_off ls w.1 (a ∙ t)) c₀ c k (q ∙ rw t refl))

    -- k lists were counted, and p is the next
    pub record Listed (most k : ℕ) (good : Bool) (c : List ℕ) (p : Place) : Type 0 where
      pub budget : most ≡ 35 * n + 1
      pub count : k ≤ most
      pub long : length c ≡ length c₀
      pub is : rest step n (sound_list n d) (next_list n d) (35 * n + 1) k (run good c) p ≡ walk_run

    pub listed_none : (most : ℕ) → most ≡ 35 * n + 1 → Listed most 0 true c₀ first
    unfolding list_walk
    listed_none most e =
        record { budget = e; count = omega arith; long = refl; is = rest_start step n (sound_list n d) (next_list n d) (35 * n + 1) (run true c₀) first }

    module _ (most k : ℕ) (good : Bool) (c : List ℕ) (p : Place) (i : Listed most k good c p) where
      pub listed_long : length c ≡ length c₀
      listed_long = i.long

      pub listed_ring : most ≤ k → Goal c (Err Ring)
      listed_ring h = ends_refused Ring (sym (rest_full step n (sound_list n d) (next_list n d) (35 * n + 1) k (run good c) p (omega (arith, i.budget))) ∙ i.is) c (Err Ring) refl

      module _ (h : k < most) (on : Bool) (o : on ≡ on_disk n p) where
        inside : k < 35 * n + 1
        inside = omega (arith, i.budget)

        pub listed_off : on ≡ false → Goal c (Err OffDisc)
        listed_off z = ends_refused OffDisc (sym (rest_off step n (sound_list n d) (next_list n d) (35 * n + 1) k (run good c) p inside (sym o ∙ z)) ∙ i.is) c (Err OffDisc) refl

        module _ (y : on ≡ true) (b : Bool) (w : b ≡ whole_link n d p) where
          pub listed_cut : b ≡ false → Goal c (Err CutLink)
          unfolding sound_list
          listed_cut z =
              ends_refused CutLink
              (sym (rest_bad step n (sound_list n d) (next_list n d) (35 * n + 1) k (run good c) p inside CutLink (sym o ∙ y) (rw (← w, z) refl)) ∙ i.is) c (Err CutLink) refl

    module _ (most k : ℕ) (good : Bool) (c : List ℕ) (p : Place) (i : Listed most k good c p) (g : Bool) (c₂ : List ℕ) (t : ListHeld n d p c c₂ g)
        (h : k < most) (on : Bool) (o : on ≡ on_disk n p) (y : on ≡ true) (b : Bool) (w : b ≡ whole_link n d p) (z : b ≡ true)
        (l : Bool) (e : l ≡ eqb (byte_of n d p 1) 0) where
      within : k < 35 * n + 1
      within = omega (arith, i.budget)

      sound : sound_list n d p ≡ Ok tt
      unfolding sound_list
      sound = rw (← w, z) refl

      stepped : run (good && g) c₂ ≡ step (run good c) p
      stepped = rw (t.is, t.good) refl

      pub listed_last : l ≡ true → (r : Outcome (Unit {0})) → r ≡ require (good && g) OffDisc → Goal c₂ r
      unfolding next_list
      listed_last x r q =
          ends_given (good && g) c₂
          (ap Ok stepped
          ∙ sym (rest_end step n (sound_list n d) (next_list n d) (35 * n + 1) k (run good c) p within (sym o ∙ y, sound) (rw (← e, x) refl)) ∙ i.is) r q

      pub listed_more : l ≡ false → (s : Place) → s ≡ link_of n d p → Listed most (k + 1) (good && g) c₂ s
      unfolding next_list
      listed_more x s q =
          record {
            budget = i.budget;
            count = omega arith;
            long = ap length t.is ∙ length_bumps n (bump n c p) (pairs_of n d p) ∙ length_bump n c p ∙ i.long;
            is =
                ap (λ (m : Run). rest step n (sound_list n d) (next_list n d) (35 * n + 1) (k + 1) m s) stepped
                ∙ sym (rest_more step n (sound_list n d) (next_list n d) (35 * n + 1) k (run good c) p within s (sym o ∙ y, sound, rw (← e, x, q) refl))
                ∙ i.is;
          }

pub ruleset listings = (listed_none, listed_long, listed_ring, listed_off, listed_cut, listed_last, listed_more, not-true, not-false, rules)

-- ---- an entry
joined : (n : ℕ) (o : Outcome (List Place)) (hs : List Place) (first c c' : List ℕ) (r : Outcome (Unit {0})) → c ≡ bumps n first hs → Tallied n o c c' r
    → Tallied n (o >>= λ t. Ok (hs ++ t)) first c' r
joined n o hs first c c' r e t =
    record {
      is = t.is ∙ sym (silent_map o (λ x. hs ++ x));
      counts = λ all z.
          let g = gives o (λ x. Ok (hs ++ x)) all z in
          let y : Ok (hs ++ g.0) ≡ Ok all = g.2 in
          let w : hs ++ g.0 ≡ all = cc in
          t.counts g.0 g.1 ∙ ap (λ (x : List ℕ). bumps n x g.0) e ∙ sym (bumps_append n first hs g.0) ∙ ap (bumps n first) w;
    }

module _ (n : ℕ) (d : List ℕ) (x : ℕ) (c : List ℕ) (q : Outcome (Unit {0})) where
  -- where something before was refused, nothing is counted
  pub entry_refused : (r : Outcome (Unit {0})) (e : Refusal) → r ≡ Err e → q ≡ Err e → Extends n (with_line n d x) c c q r
  unfolding with_line
  entry_refused r e z h = record { steps = λ o first t. rw z (go o first t.is) }
    where
      go : (o : Outcome (List Place)) (first : List ℕ) → q ≡ silent o → Tallied n (with_line n d x o) first c (Err e)
      go (Err a) first k = let y : Err e ≡ Err a = sym h ∙ k in tallied_refused n (Err a) a refl first c (Err e) y
      go (Ok hs) first k = absurd (refused_given (sym h ∙ k))

  -- from no refusal on
  onward : (c' : List ℕ) (r : Outcome (Unit {0})) → q ≡ Ok tt → Tallied n (line_sectors n d x) c c' r → Extends n (with_line n d x) c c' q r
  unfolding with_line
  onward c' r z u = record { steps = go }
    where
      go : (o : Outcome (List Place)) (first : List ℕ) → Tallied n o first c q → Tallied n (with_line n d x o) first c' r
      go o first t =
          let g = silent_given o (sym t.is ∙ z) in
          let e : with_line n d x o ≡ (line_sectors n d x >>= λ s. Ok (g.0 ++ s)) = ap (λ (w : Outcome (List Place)). w >>= λ hs. line_sectors n d x >>= λ s. Ok (hs ++ s)) g.1 in
          let j = joined n (line_sectors n d x) g.0 first c c' r (t.counts g.0 g.1) u in
          rw e j

  pub entry_live : (l : Place) (c' : List ℕ) (r : Outcome (Unit {0})) → Tallied n (sectors_from n d l) c c' r → q ≡ Ok tt → (a : ℕ) (b : Bool) → a ≡ get_or d x 0 → b ≡ valid_file a → b ≡ true
      → l ≡ (entry_from d x).list → Extends n (with_line n d x) c c' q r
  unfolding line_sectors
  entry_live l c' r u z a b e v y w =
      let i : line_sectors n d x ≡ sectors_from n d (entry_from d x).list = rw (← e, ← v, y) refl in
      onward c' r z (subst (λ (s : Outcome (List Place)). Tallied n s c c' r) (ap (sectors_from n d) w ∙ sym i) u)

  pub entry_dead : q ≡ Ok tt → (a : ℕ) (b : Bool) → a ≡ get_or d x 0 → b ≡ valid_file a → b ≡ false → Extends n (with_line n d x) c c q (Ok tt)
  unfolding line_sectors
  entry_dead z a b e v y = onward c (Ok tt) z (tallied_given n (line_sectors n d x) [] (rw (← e, ← v, y) refl) c c (Ok tt) refl (sym (bumps_none n c)))

pub ruleset entries = (entry_refused, entry_live, entry_dead, not-true, not-false, rules)

-- ---- a page
module _ (n : ℕ) (d : List ℕ) (p : Place) (c₁ : List ℕ) (q : Outcome (Unit {0})) where
  pub record Lines (i : ℕ) (c : List ℕ) (r : Outcome (Unit {0})) : Type 0 where
    pub count : i ≤ 7
    pub long : length c ≡ length c₁
    pub extends : Extends n (with_lines n d p i) c₁ c q r

  pub lines_none : Lines 0 c₁ q
  unfolding with_lines
  lines_none = record { count = omega arith; long = refl; extends = record { steps = λ o first t. t } }

  module _ (i : ℕ) (c : List ℕ) (r : Outcome (Unit {0})) (l : Lines i c r) where
    pub lines_long : length c ≡ length c₁
    lines_long = l.long

    pub lines_more : (y : ℕ) (c' : List ℕ) (r' : Outcome (Unit {0})) → Extends n (with_line n d y) c c' r r' → length c' ≡ length c → i < 7 → y ≡ start n p + (11 + 35 * i) → Lines (i + 1) c' r'
    unfolding with_lines
    lines_more y c' r' u m h e =
        record {
          count = omega arith;
          long = m ∙ l.long;
          extends = record { steps = λ o first t. let w = u.steps (with_lines n d p i o) first (l.extends.steps o first t) in rw (add-one i, ← e) w };
        }

    pub lines_done : (c₀ : List ℕ) → Bumped n p c₀ c₁ → 7 ≤ i → Extends n (on_page n d p) c₀ c q r
    unfolding with_page on_page
    lines_done c₀ u h =
        let e : i ≡ 7 = omega (arith, l.count) in
        record {
          steps = λ o first t.
              let w = l.extends.steps (o >>= λ hs. Ok (hs ++ p ∷ [])) first
              (record {
                is = t.is ∙ sym (silent_map o (λ hs. hs ++ p ∷ []));
                counts = λ all z.
                    let g = gives o (λ hs. Ok (hs ++ p ∷ [])) all z in
                    let y : Ok (g.0 ++ p ∷ []) ≡ Ok all = g.2 in
                    let v : g.0 ++ p ∷ [] ≡ all = cc in
                    u.is ∙ ap (λ (x : List ℕ). bump n x p) (t.counts g.0 g.1) ∙ sym (bumps_append n first g.0 (p ∷ []) ∙ bumps_more n _ p [] ∙ bumps_none n _)
                    ∙ ap (bumps n first) v;
              }) in
              rw e at w;
        }

pub ruleset lines = (lines_none, lines_long, lines_more, lines_done, rules)

-- ---- the pages
module _ (n : ℕ) (d : List ℕ) (first : Place) (c₀ : List ℕ) where
  abbrev Aim : List ℕ → Outcome (Unit {0}) → Type 0
  Aim c r = Tallied n (met_from n d first) c₀ c r

  pub record Paging (most k : ℕ) (r : Outcome (Unit {0})) (c : List ℕ) (p : Place) : Type 0 where
    pub budget : most ≡ 35 * n + 1
    pub count : k ≤ most
    pub long : length c ≡ length c₀
    pub met : Outcome (List Place)
    pub tallied : Tallied n met c₀ c r
    pub is : rest (with_page n d) n (sound_page n d) (next_page n d) (35 * n + 1) k met p ≡ walk_held n d first

  pub paging_none : (most : ℕ) → most ≡ 35 * n + 1 → Paging most 0 (Ok tt) c₀ first
  unfolding walk_held
  paging_none most e =
      record {
        budget = e;
        count = omega arith;
        long = refl;
        met = Ok [];
        tallied = tallied_given n (Ok []) [] refl c₀ c₀ (Ok tt) refl (sym (bumps_none n c₀));
        is = rest_start (with_page n d) n (sound_page n d) (next_page n d) (35 * n + 1) (Ok []) first;
      }

  ended : (r : Refusal) → Err r ≡ walk_held n d first → (c : List ℕ) (k : Outcome (Unit {0})) → k ≡ Err r → Aim c k
  unfolding met_from
  ended r e c k q = tallied_refused n (met_from n d first) r (sym (ap (λ (w : Outcome (Outcome (List Place))). w >>= λ o. o) e)) c₀ c k q

  module _ (most k : ℕ) (r : Outcome (Unit {0})) (c : List ℕ) (p : Place) (i : Paging most k r c p) where
    pub paging_long : length c ≡ length c₀
    paging_long = i.long

    pub paging_ring : most ≤ k → Aim c (Err Ring)
    paging_ring h = ended Ring (sym (rest_full (with_page n d) n (sound_page n d) (next_page n d) (35 * n + 1) k i.met p (omega (arith, i.budget))) ∙ i.is) c (Err Ring) refl

    module _ (h : k < most) (on : Bool) (o : on ≡ on_disk n p) where
      in_budget : k < 35 * n + 1
      in_budget = omega (arith, i.budget)

      pub paging_off : on ≡ false → Aim c (Err OffDisc)
      paging_off z = ended OffDisc (sym (rest_off (with_page n d) n (sound_page n d) (next_page n d) (35 * n + 1) k i.met p in_budget (sym o ∙ z)) ∙ i.is) c (Err OffDisc) refl

      pub paging_bad : on ≡ true → (g : Bool) → g ≡ plain_names (entries_of n d p) → g ≡ false → Aim c (Err BadLetter)
      unfolding sound_page
      paging_bad y g s z =
          ended BadLetter
          (sym (rest_bad (with_page n d) n (sound_page n d) (next_page n d) (35 * n + 1) k i.met p in_budget BadLetter (sym o ∙ y) (rw (← s, z) refl)) ∙ i.is) c (Err BadLetter) refl

    module _ (c' : List ℕ) (r' : Outcome (Unit {0})) (u : Extends n (on_page n d p) c c' r r') (h : k < most) (on : Bool) (o : on ≡ on_disk n p) (y : on ≡ true)
        (g : Bool) (s : g ≡ plain_names (entries_of n d p)) (z : g ≡ true) (l : Bool) (e : l ≡ last_page n d p) where
      plain : sound_page n d p ≡ Ok tt
      unfolding sound_page
      plain = rw (← s, z) refl

      short : k < 35 * n + 1
      short = omega (arith, i.budget)

      pub paging_last : l ≡ true → Aim c' r'
      unfolding next_page met_from on_page
      paging_last q =
          let w : Ok (with_page n d i.met p) ≡ walk_held n d first =
          sym (rest_end (with_page n d) n (sound_page n d) (next_page n d) (35 * n + 1) k i.met p short (sym o ∙ y, plain) (rw (← e, q) refl)) ∙ i.is in
          let v : with_page n d i.met p ≡ met_from n d first = ap (λ (x : Outcome (Outcome (List Place))). x >>= λ o. o) w in
          subst (λ (x : Outcome (List Place)). Tallied n x c₀ c' r') v (u.steps i.met c₀ i.tallied)

      pub paging_more : length c' ≡ length c → l ≡ false → (a : Place) → a ≡ link_of n d p → Paging most (k + 1) r' c' a
      unfolding next_page on_page
      paging_more m q a w =
          record {
            budget = i.budget;
            count = omega arith;
            long = m ∙ i.long;
            met = with_page n d i.met p;
            tallied = u.steps i.met c₀ i.tallied;
            is =
                sym (rest_more (with_page n d) n (sound_page n d) (next_page n d) (35 * n + 1) k i.met p short a (sym o ∙ y, plain, rw (← e, q, w) refl))
                ∙ i.is;
          }

pub ruleset pagings = (paging_none, paging_long, paging_ring, paging_off, paging_bad, paging_last, paging_more, not-true, not-false, rules)

-- ---- the disk
module _ (n : ℕ) (d c₀ : List ℕ) where
  pub all_refused : (r : Outcome (Unit {0})) (e : Refusal) → r ≡ Err e → Err e ≡ readable n d → Tallied n (all_met n d) c₀ c₀ r
  unfolding all_met
  all_refused r e z h = tallied_refused n (all_met n d) e (rw (← h) refl) c₀ c₀ r z

  pub all_walked : (c₁ : List ℕ) → Bumped n vtoc c₀ c₁ → (p : Place) (c : List ℕ) (r : Outcome (Unit {0})) → Tallied n (met_from n d p) c₁ c r → p ≡ first_page n d
      → Ok tt ≡ readable n d → Tallied n (all_met n d) c₀ c r
  unfolding all_met
  all_walked c₁ u p c r t f z =
      let m : Outcome (List Place) = met_from n d (first_page n d) in
      let v : all_met n d ≡ (m >>= λ hs. Ok (vtoc ∷ hs)) = ap (λ (w : Outcome (Unit {0})). w >> (m >>= λ hs. Ok (vtoc ∷ hs))) (sym z) in
      let t' : Tallied n m c₁ c r = subst (λ (x : Place). Tallied n (met_from n d x) c₁ c r) f t in
      let a : Tallied n (m >>= λ hs. Ok (vtoc ∷ hs)) c₀ c r =
      record {
        is = t'.is ∙ sym (silent_map m (λ hs. vtoc ∷ hs));
        counts = λ all y.
            let s = gives m (λ hs. Ok (vtoc ∷ hs)) all y in
            let x : Ok (vtoc ∷ s.0) ≡ Ok all = s.2 in
            let q : vtoc ∷ s.0 ≡ all = cc in
            t'.counts s.0 s.1 ∙ ap (λ (w : List ℕ). bumps n w s.0) u.is ∙ sym (bumps_more n c₀ vtoc s.0) ∙ ap (bumps n c₀) q;
      } in
      rw v a

pub ruleset alls = (all_refused, all_walked, rules)
