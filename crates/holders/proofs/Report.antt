-- The report made of the counts. Assumes nothing.
use mathlib.Core.Path.{◌≡◌, refl, sym, ap, subst, ◌∙◌}
use mathlib.Core.Bool.{Bool, true, false, ◌&&◌}
use mathlib.Core.List.{List, [], ◌∷◌, ◌++◌, map, flat_map, foldl, append-nil, append_assoc}
use Prim.Native.Nat.{ℕ, zero, suc, ◌+◌, ◌*◌, ◌<◌, ◌≤◌}
use native.Mathlib.Omega.{arith}
use lib.ListN.{length, get_or, replicate, length-replicate, get_or-replicate}
use lib.Seq.{get_or-set_same, get_or-set_other}
use lib.Dec.{eqb, ltb}
use borrow.Author.Tests.{eqb-true, eqb-false, ne_eqb, lt-ltb}
use borrow.Author.Rules.{rules}
use Rattle.lists.specs.Fill.{tab}
use Rattle.lists.specs.Select.{filter, passing}
use Rattle.lists.proofs.Split.{by_test}
use Rattle.lists.proofs.Chunks.{flat_map_append}
use Rattle.lists.proofs.Passing.{passing_same}
use Rattle.std.specs.Prelude.{Ok, Err}
use Rattle.outcome.specs.declared.Refusal.{Refusal}
use Rattle.outcome.specs.Outcome.{Outcome, ◌>>=◌, ◌>>◌, each}
use Rattle.outcome.proofs.Outcome.{refused_given, each_append}
use Rattle.outcome.proofs.Silent.{silent, silent_map}
use Rattle.disk.specs.declared.Place.{Place}
use Rattle.disk.specs.Disk.{start, number_of, place_of, sectors, per_of}
use Rattle.disk.specs.Vtoc.{vtoc, readable}
use Rattle.disk.specs.Chain.{walk}
use Rattle.catalog.specs.Catalog.{live, entry_from, entries_of, sound_page, next_page, first_page, pages}
use Rattle.holders.specs.declared.HolderCounts.{HolderCounts}
use Rattle.holders.specs.Holders.{sectors_of, holders, held, unheld, held_once, shared, free, held_free, clean, numbers_of, holding}
use Rattle.holders.specs.Tally.{one_more, bump, bumps, Tallied, line_sectors, with_line, with_lines, with_page, walk_held, met_from, all_met, is_held, is_free}
use Rattle.holders.proofs.Counting.{held_append, held_none, held_here, held_else}
use Rattle.holders.proofs.Tallies.{silent_given, length_bump, bumps_more, bumps_none}

-- ---- counts and holders
-- a count, h times one more
unfoldable up : ℕ → ℕ → ℕ
up x zero = x
up x (suc h) = up (one_more x) h

up_2 : (h : ℕ) → up 2 h ≡ 2
unfolding up
up_2 zero = refl
up_2 (suc h) = up_2 h

module _ (n : ℕ) where
  bump_here : (c : List ℕ) (p : Place) (k : ℕ) → k < length c → number_of n p ≡ k → get_or (bump n c p) k 0 ≡ one_more (get_or c k 0)
  unfolding bump
  bump_here c p k h e = rw e (get_or-set_same c k _ 0 h)

  bump_else : (c : List ℕ) (p : Place) (k : ℕ) → (number_of n p ≡ k → ⊥) → get_or (bump n c p) k 0 ≡ get_or c k 0
  unfolding bump
  bump_else c p k e = get_or-set_other c (number_of n p) k _ 0 (λ z. e (sym z))

  bumps_at : (c : List ℕ) (hs : List Place) (k : ℕ) → k < length c → get_or (bumps n c hs) k 0 ≡ up (get_or c k 0) (held n hs k)
  unfolding up
  bumps_at c [] k h = rw (bumps_none n c, held_none n k) refl
  bumps_at c (p ∷ hs) k h =
      let l : k < length (bump n c p) = rw (length_bump n c p) h in
      let i = bumps_at (bump n c p) hs k l in
      by_test (eqb (number_of n p) k)
      (λ q. let z = eqb-true _ _ q in rw (bumps_more n c p hs) (i ∙ rw (bump_here c p k h z, held_here n k p hs z) refl))
      (λ q. let z = eqb-false _ _ q in rw (bumps_more n c p hs) (i ∙ rw (bump_else c p k z, held_else n k p hs z) refl))

  -- what a pass has counted of hs, in 560 zeros
  counts_at : (hs : List Place) (k : ℕ) → k < 560 → get_or (bumps n (replicate 560 0) hs) k 0 ≡ up 0 (held n hs k)
  counts_at hs k h =
      bumps_at (replicate 560 0) hs k (rw length-replicate h) ∙ ap (λ (x : ℕ). up x (held n hs k)) (get_or-replicate 560 k 0 0 h)

none_is : (h : ℕ) → eqb (up 0 h) 0 ≡ eqb h 0
unfolding up
none_is zero = refl
none_is (suc zero) = refl
none_is (suc (suc h)) = rw (up_2 h, ne_eqb (suc (suc h)) 0 (λ z. omega arith)) refl

one_is : (h : ℕ) → eqb (up 0 h) 1 ≡ eqb h 1
unfolding up
one_is zero = refl
one_is (suc zero) = refl
one_is (suc (suc h)) = rw (up_2 h, ne_eqb (suc (suc h)) 1 (λ z. omega arith)) refl

two_is : (h : ℕ) → eqb (up 0 h) 2 ≡ ltb 1 h
unfolding up
two_is zero = refl
two_is (suc zero) = refl
two_is (suc (suc h)) = rw (up_2 h, lt-ltb 1 (suc (suc h)) (omega arith)) refl

some_is : (h : ℕ) → ltb 0 (up 0 h) ≡ ltb 0 h
unfolding up
some_is zero = refl
some_is (suc zero) = refl
some_is (suc (suc h)) = rw (up_2 h, lt-ltb 0 (suc (suc h)) (omega arith)) refl

-- ---- the order of the pass, and that of the definition: the same refusal, or each sector held as often
pub record Alike (n : ℕ) (o w : Outcome (List Place)) : Type 0 where
  pub refusal : silent o ≡ silent w
  pub held : (a b : List Place) → o ≡ Ok a → w ≡ Ok b → (k : ℕ) → held n a k ≡ held n b k

abbrev flat : List (List Place) → List Place
flat ts = flat_map (λ t. t) ts

alike_same : (n : ℕ) (o w : Outcome (List Place)) → o ≡ w → Alike n o w
alike_same n o w e =
    record { refusal = ap silent e; held = λ a b p q k. let y : Ok a ≡ Ok b = sym p ∙ e ∙ q in let z : a ≡ b = cc in ap (λ (x : List Place). held n x k) z }

alike_map : (n : ℕ) (e : Outcome (List (List Place))) (f g : List (List Place) → List Place) → ((ts : List (List Place)) (k : ℕ) → held n (f ts) k ≡ held n (g ts) k)
    → (o : Outcome (List Place)) → Alike n o (e >>= λ ts. Ok (f ts)) → Alike n o (e >>= λ ts. Ok (g ts))
alike_map n (Err r) f g h o a = a
alike_map n (Ok ts) f g h o a =
    record { refusal = a.refusal; held = λ x y p q k. let z : g ts ≡ y = cc in a.held x (f ts) p refl k ∙ h ts k ∙ ap (λ (w : List Place). held n w k) z }

alike_cons : (n : ℕ) (v : Place) (e : Outcome (List (List Place))) (f : List (List Place) → List Place) (o : Outcome (List Place)) → Alike n o (e >>= λ ts. Ok (f ts))
    → Alike n (o >>= λ hs. Ok (v ∷ hs)) (e >>= λ ts. Ok (v ∷ f ts))
alike_cons n v e f (Err r) a =
    record { refusal = a.refusal ∙ silent_map e f ∙ sym (silent_map e (λ ts. v ∷ f ts)); held = λ x y p q k. absurd (refused_given p) }
alike_cons n v (Err r) f (Ok hs) a = record { refusal = a.refusal; held = λ x y p q k. absurd (refused_given q) }
alike_cons n v (Ok ts) f (Ok hs) a =
    record {
      refusal = refl;
      held = λ x y p q k.
          let s : v ∷ hs ≡ x = cc in
          let t : v ∷ f ts ≡ y = cc in
          let h = a.held hs (f ts) refl refl k in
          let c = held_append n k (v ∷ []) hs in
          let b = held_append n k (v ∷ []) (f ts) in
          let m : held n (v ∷ hs) k ≡ held n (v ∷ f ts) k = omega arith in
          sym (ap (λ (w : List Place). held n w k) s) ∙ m ∙ ap (λ (w : List Place). held n w k) t;
    }

bind_map : (e : Outcome (List (List Place))) (t : List (List Place)) (g : List (List Place) → List Place)
    → ((e >>= λ b. Ok (t ++ b)) >>= λ ts. Ok (g ts)) ≡ (e >>= λ b. Ok (g (t ++ b)))
bind_map (Err r) t g = refl
bind_map (Ok b) t g = refl

module _ (n : ℕ) (d : List ℕ) where
  abbrev line_on : Outcome (List Place) → ℕ → Outcome (List Place)
  line_on o x = with_line n d x o

  abbrev rest : List ℕ → Outcome (List (List Place))
  rest xs = each (sectors_of n d) (filter live (map (entry_from d) xs))

  lines_refused : (xs : List ℕ) (r : Refusal) → foldl line_on (Err r) xs ≡ Err r
  unfolding with_line
  lines_refused [] r = refl
  lines_refused (x ∷ xs) r = lines_refused xs r

  live_rest : (x : ℕ) (xs : List ℕ) → live (entry_from d x) ≡ true
      → rest (x ∷ xs) ≡ (sectors_of n d (entry_from d x) >>= λ y. rest xs >>= λ ys. Ok (y ∷ ys))
  unfolding filter each
  live_rest x xs e = rw e refl

  dead_rest : (x : ℕ) (xs : List ℕ) → live (entry_from d x) ≡ false → rest (x ∷ xs) ≡ rest xs
  unfolding filter
  dead_rest x xs e = rw e refl

  live_line : (x : ℕ) (hs : List Place) → live (entry_from d x) ≡ true → line_on (Ok hs) x ≡ (sectors_of n d (entry_from d x) >>= λ t. Ok (hs ++ t))
  unfolding with_line line_sectors sectors_of
  live_line x hs e = rw e refl

  dead_line : (x : ℕ) (hs : List Place) → live (entry_from d x) ≡ false → line_on (Ok hs) x ≡ Ok hs
  unfolding with_line line_sectors
  dead_line x hs e = rw e (ap Ok (append-nil hs))

  fold_lines : (xs : List ℕ) (hs : List Place) → foldl line_on (Ok hs) xs ≡ (rest xs >>= λ ts. Ok (hs ++ flat ts))
  unfolding filter each flat_map
  fold_lines [] hs = ap Ok (sym (append-nil hs))
  fold_lines (x ∷ xs) hs =
      by_test (live (entry_from d x))
      (λ e. ap (λ (o : Outcome (List Place)). foldl line_on o xs) (live_line x hs e) ∙ one (λ l. fold_lines xs l) (sectors_of n d (entry_from d x))
      ∙ sym (ap (λ (o : Outcome (List (List Place))). o >>= λ ts. Ok (hs ++ flat ts)) (live_rest x xs e)))
      (λ e. ap (λ (o : Outcome (List Place)). foldl line_on o xs) (dead_line x hs e) ∙ fold_lines xs hs
      ∙ sym (ap (λ (o : Outcome (List (List Place))). o >>= λ ts. Ok (hs ++ flat ts)) (dead_rest x xs e)))
    where
      two : (t : List Place) (o : Outcome (List (List Place)))
          → (o >>= λ ts. Ok ((hs ++ t) ++ flat ts)) ≡ ((o >>= λ ys. Ok (t ∷ ys)) >>= λ ts. Ok (hs ++ flat ts))
      two t (Err r) = refl
      two t (Ok ys) = ap Ok (append_assoc hs t (flat ys))

      one : ((l : List Place) → foldl line_on (Ok l) xs ≡ (rest xs >>= λ ts. Ok (l ++ flat ts))) → (s : Outcome (List Place))
          → foldl line_on (s >>= λ t. Ok (hs ++ t)) xs ≡ ((s >>= λ y. rest xs >>= λ ys. Ok (y ∷ ys)) >>= λ ts. Ok (hs ++ flat ts))
      one i (Err r) = lines_refused xs r
      one i (Ok t) = i (hs ++ t) ∙ two t (rest xs)

  -- a page
  page_is_lem : (p : Place) (hs : List Place) → with_page n d (Ok hs) p ≡ (each (sectors_of n d) (entries_of n d p) >>= λ ts. Ok ((hs ++ p ∷ []) ++ flat ts))
  unfolding with_page with_lines entries_of tab
  page_is_lem p hs =
      fold_lines
      (tab (λ i. start n p + (11 + 35 * i)) 7)
      (hs ++ p ∷ [])

  pages_refused : (ps : List Place) (r : Refusal) → foldl (with_page n d) (Err r) ps ≡ Err r
  unfolding with_page with_lines with_line
  pages_refused [] r = refl
  pages_refused (p ∷ ps) r = pages_refused ps r

  pages_alike : (ps : List Place) (hs : List Place)
      → Alike n (foldl (with_page n d) (Ok hs) ps) (each (sectors_of n d) (flat_map (entries_of n d) ps) >>= λ ts. Ok (hs ++ (ps ++ flat ts)))
  unfolding flat_map each
  pages_alike [] hs = alike_same n (Ok hs) (Ok (hs ++ [])) (ap Ok (sym (append-nil hs)))
  pages_alike (p ∷ ps) hs =
      subst (λ (o : Outcome (List Place)). Alike n (foldl (with_page n d) o ps) (each (sectors_of n d) (entries_of n d p ++ flat_map (entries_of n d) ps) >>= λ ts. Ok (hs ++ (p ∷ ps ++ flat ts))))
      (sym (page_is_lem p hs))
      (subst
      (λ (o : Outcome (List (List Place))). Alike n (foldl (with_page n d) (each (sectors_of n d) (entries_of n d p) >>= λ ts. Ok ((hs ++ p ∷ []) ++ flat ts)) ps) (o >>= λ ts. Ok (hs ++ (p ∷ ps ++ flat ts))))
      (sym (each_append (sectors_of n d) (entries_of n d p) (flat_map (entries_of n d) ps)))
      (go (λ l. pages_alike ps l) (each (sectors_of n d) (entries_of n d p))))
    where
      tail : Outcome (List (List Place))
      tail = each (sectors_of n d) (flat_map (entries_of n d) ps)

      sums : (t b : List (List Place)) (k : ℕ) → held n (((hs ++ p ∷ []) ++ flat t) ++ (ps ++ flat b)) k ≡ held n (hs ++ (p ∷ ps ++ flat (t ++ b))) k
      sums t b k =
          let a₁ = held_append n k ((hs ++ p ∷ []) ++ flat t) (ps ++ flat b) in
          let a₂ = held_append n k (hs ++ p ∷ []) (flat t) in
          let a₃ = held_append n k hs (p ∷ []) in
          let a₄ = held_append n k ps (flat b) in
          let b₁ = held_append n k hs (p ∷ ps ++ flat (t ++ b)) in
          let b₂ = held_append n k (p ∷ []) (ps ++ flat (t ++ b)) in
          let b₃ = held_append n k ps (flat (t ++ b)) in
          let b₄ : held n (flat (t ++ b)) k ≡ held n (flat t) k + held n (flat b) k = ap (λ (x : List Place). held n x k) (flat_map_append (λ t. t) t b) ∙ held_append n k (flat t) (flat b) in
          omega arith

      go : ((l : List Place) → Alike n (foldl (with_page n d) (Ok l) ps) (tail >>= λ ts. Ok (l ++ (ps ++ flat ts)))) → (e : Outcome (List (List Place)))
          → Alike n (foldl (with_page n d) (e >>= λ ts. Ok ((hs ++ p ∷ []) ++ flat ts)) ps)
          ((e >>= λ f. tail >>= λ b. Ok (f ++ b)) >>= λ ts. Ok (hs ++ (p ∷ ps ++ flat ts)))
      go i (Err r) = alike_same n (foldl (with_page n d) (Err r) ps) (Err r) (pages_refused ps r)
      go i (Ok t) =
          subst (Alike n (foldl (with_page n d) (Ok ((hs ++ p ∷ []) ++ flat t)) ps)) (sym (bind_map tail t (λ ts. hs ++ (p ∷ ps ++ flat ts))))
          (alike_map n tail (λ b. ((hs ++ p ∷ []) ++ flat t) ++ (ps ++ flat b)) (λ b. hs ++ (p ∷ ps ++ flat (t ++ b))) (sums t) (foldl (with_page n d) (Ok ((hs ++ p ∷ []) ++ flat t)) ps)
          (i ((hs ++ p ∷ []) ++ flat t)))

  all_alike : Alike n (all_met n d) (holders n d)
  unfolding all_met holders met_from walk_held pages
  all_alike = go (readable n d) (walk n (sound_page n d) (next_page n d) (sectors n + 1) [] (first_page n d))
    where
      go : (o : Outcome (Unit {0})) (w : Outcome (List Place))
          → Alike n (o >> (((w >>= λ ps. Ok (foldl (with_page n d) (Ok []) ps)) >>= λ o. o) >>= λ hs. Ok (vtoc ∷ hs)))
          ((o >> w) >>= λ ps. each (sectors_of n d) (flat_map (entries_of n d) ps) >>= λ ts. Ok (vtoc ∷ ps ++ flat_map (λ t. t) ts))
      go (Err r) w = alike_same n (Err r) (Err r) refl
      go (Ok u) (Err r) = alike_same n (Err r) (Err r) refl
      go (Ok u) (Ok ps) =
          alike_cons n vtoc (each (sectors_of n d) (flat_map (entries_of n d) ps)) (λ ts. ps ++ flat ts) (foldl (with_page n d) (Ok []) ps) (pages_alike ps [])

-- ---- the report
module _ (n : ℕ) (d c : List ℕ) (k : Outcome (Unit {0})) (t : Tallied n (all_met n d) (replicate 560 0) c k) where
  pub report_refused : (v : Outcome HolderCounts) (e : Refusal) → v ≡ Err e → k ≡ Err e → v ≡ holding n d
  unfolding holding
  report_refused v e z h = z ∙ go (holders n d) (sym h ∙ t.is ∙ (all_alike n d).refusal)
    where
      go : (o : Outcome (List Place)) → Err e ≡ silent o → Err e ≡ (o >>= λ hs. Ok (numbers_of n d hs))
      go (Err r) q = let y : e ≡ r = cc in ap Err y
      go (Ok hs) q = absurd (refused_given q)

  module _ (z : k ≡ Ok tt) (few : n ≤ 16) where
    met : (hs : List Place) × (all_met n d ≡ Ok hs)
    met = silent_given (all_met n d) (sym t.is ∙ z)

    has : (hs : List Place) × (holders n d ≡ Ok hs)
    has = silent_given (holders n d) (sym (t.is ∙ (all_alike n d).refusal) ∙ z)

    at : (j : ℕ) → j < sectors n → get_or c j 0 ≡ up 0 (held n has.0 j)
    at j h =
        ap (λ (x : List ℕ). get_or x j 0) (t.counts met.0 met.1) ∙ counts_at n met.0 j (omega arith)
        ∙ ap (up 0) ((all_alike n d).held met.0 has.0 met.1 has.1 j)

    unheld_is : passing (is_held c 0) (sectors n) ≡ unheld n has.0
    unfolding unheld is_held
    unheld_is = passing_same _ _ (sectors n) (λ j h. ap (λ (x : ℕ). eqb x 0) (at j h) ∙ none_is (held n has.0 j))

    once_is : passing (is_held c 1) (sectors n) ≡ held_once n has.0
    unfolding held_once is_held
    once_is = passing_same _ _ (sectors n) (λ j h. ap (λ (x : ℕ). eqb x 1) (at j h) ∙ one_is (held n has.0 j))

    shared_is : passing (is_held c 2) (sectors n) ≡ shared n has.0
    unfolding shared is_held
    shared_is = passing_same _ _ (sectors n) (λ j h. ap (λ (x : ℕ). eqb x 2) (at j h) ∙ two_is (held n has.0 j))

    free_is : passing (is_free n d c) (sectors n) ≡ held_free n d has.0
    unfolding held_free is_free
    free_is =
        passing_same _ _ (sectors n)
        (λ j h. ap (λ (x : ℕ). ltb 0 x && free n d (place_of n j)) (at j h) ∙ ap (λ (b : Bool). b && free n d (place_of n j)) (some_is (held n has.0 j)))

    pub report_given : (a b s f : ℕ) → a ≡ passing (is_held c 0) (35 * n) → b ≡ passing (is_held c 1) (35 * n) → s ≡ passing (is_held c 2) (35 * n)
        → f ≡ passing (is_free n d c) (35 * n)
        → Ok (record { unheld = a; held_once = b; shared = s; held_free = f; clean = eqb s 0 && eqb f 0 }) ≡ holding n d
    unfolding holding clean
    report_given a b s f ea eb es ef =
        let a' : a ≡ unheld n has.0 = ea ∙ unheld_is in
        let b' : b ≡ held_once n has.0 = eb ∙ once_is in
        let s' : s ≡ shared n has.0 = es ∙ shared_is in
        let f' : f ≡ held_free n d has.0 = ef ∙ free_is in
        (λ j. Ok (record { unheld = a' j; held_once = b' j; shared = s' j; held_free = f' j; clean = eqb (s' j) 0 && eqb (f' j) 0 }))
        ∙ sym (ap (λ (o : Outcome (List Place)). o >>= λ hs. Ok (numbers_of n d hs)) has.1)

pub few_sectors : (n : ℕ) → n ≤ 16 → 35 * n ≤ 560
few_sectors n h = omega arith

pub per_report : (n : ℕ) (d : List ℕ) (v : Outcome HolderCounts) → n ≡ per_of d → v ≡ holding n d → v ≡ holding (per_of d) d
per_report n d v e h = h ∙ ap (λ (m : ℕ). holding m d) e

pub ruleset reports = (per_report, report_refused, report_given, few_sectors, rules)
