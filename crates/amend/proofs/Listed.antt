-- The plain list of lines, and the disk's lines: which is the first that is open, and which the last of a name. Assumes nothing.
use mathlib.Core.Path.{◌≡◌, refl, ap, ◌∙◌}
use mathlib.Core.Bool.{Bool, true, false, cond, not, ◌&&◌, ◌||◌}
use mathlib.Core.List.{List, [], ◌∷◌, ◌++◌}
use mathlib.Core.Option.{Option, none, some}
use Prim.Native.Nat.{ℕ}
use native.Mathlib.Omega.{arith}
use Rattle.lists.specs.Every.{Every}
use Rattle.lists.specs.Same.{same}
use Rattle.lists.specs.Select.{any}
use Rattle.lists.proofs.Split.{by_test, clash}
use Rattle.lists.proofs.Equal.{same_refl}
use Rattle.lists.proofs.Among.{unlike}
use Rattle.std.specs.Prelude.{Ok, Err}
use Rattle.outcome.specs.declared.Refusal.TheVariants.{NotOnRoll}
use Rattle.outcome.specs.Outcome.{each}
use Rattle.outcome.proofs.Outcome.{gives, each_cons}
use Rattle.catalog.specs.Catalog.{shown, entry_from}
use Rattle.files.specs.Contents.{File, file_of}
use Rattle.files.specs.Survey.{last_named}
use Rattle.files.proofs.Order.{file_given}
use Rattle.amend.specs.Lines.{first_of, last_of, in_use, is_named, line_at, present, is_open, holds_name, fill_first, empty_last}

-- ---- tests
module _ {A : Type 0} (test : A → Bool) where
  -- one that passes
  pub any_here : (a : List A) (x : A) (b : List A) → test x ≡ true → any test (a ++ x ∷ b) ≡ true
  unfolding any
  any_here [] x b e = rw e refl
  any_here (y ∷ a) x b e = by_test (test y) (λ q. rw q refl) (λ q. rw q (any_here a x b e))

  -- none that passes
  pub any_none : {xs : List A} → Every (λ (x : A). test x ≡ false) xs → any test xs ≡ false
  unfolding any
  any_none Every.none = refl
  any_none (Every.more e h) = rw e (any_none h)

  pub none_any : (xs : List A) → any test xs ≡ false → Every (λ (x : A). test x ≡ false) xs
  unfolding any
  none_any [] e = Every.none
  none_any (x ∷ xs) e =
      by_test (test x) (λ q. absurd (unlike e (rw q refl))) (λ q. Every.more q (none_any xs (rw q at e)))

  -- the first that passes, and those before it
  pub first_split : (xs : List A) (x : A) → first_of test xs ≡ some x
      → (a : List A) × (b : List A) × (xs ≡ a ++ x ∷ b) × Every (λ (y : A). test y ≡ false) a × (test x ≡ true)
  unfolding first_of
  first_split [] x e = absurd (let z : ◌≡◌ {A = ℕ} 0 1 = cc in omega arith)
  first_split (y ∷ xs) x e =
      by_test (test y)
      (λ q. let w : some y ≡ some x = rw q at e in let z : y ≡ x = cc in ([], xs, ap (λ (v : A). v ∷ xs) z, Every.none, rw z at q))
      (λ q.
      let i = first_split xs x (rw q at e) in
      (y ∷ i.0, i.1, ap (λ (l : List A). y ∷ l) i.2, Every.more q i.3, i.4))

  pub first_none : (xs : List A) → first_of test xs ≡ none → any test xs ≡ false
  unfolding first_of any
  first_none [] e = refl
  first_none (y ∷ xs) e =
      by_test (test y) (λ q. absurd (let w : some y ≡ none = rw q at e in let z : ◌≡◌ {A = ℕ} 0 1 = cc in omega arith))
      (λ q. rw q (first_none xs (rw q at e)))

  -- the last that passes: one step
  abbrev last_step : A → Option A → Option A
  last_step x o = elim o [ some y ↦ some y | none ↦ cond (test x) (some x) none ]

  pub last_none : (xs : List A) → last_of test xs ≡ none → any test xs ≡ false
  unfolding last_of any
  last_none [] e = refl
  last_none (y ∷ xs) e = go (last_none xs) (last_of test xs) refl e
    where
      go : (last_of test xs ≡ none → any test xs ≡ false) → (o : Option A) → last_of test xs ≡ o → last_step y o ≡ none → (test y || any test xs) ≡ false
      go i (some z) q h = absurd (let w : ◌≡◌ {A = ℕ} 0 1 = cc in omega arith)
      go i none q h =
          by_test (test y) (λ t. absurd (let w : some y ≡ none = rw t at h in let z : ◌≡◌ {A = ℕ} 0 1 = cc in omega arith))
          (λ t. rw t (i q))

  -- .. and those behind it
  pub last_split : (xs : List A) (x : A) → last_of test xs ≡ some x
      → (a : List A) × (b : List A) × (xs ≡ a ++ x ∷ b) × Every (λ (y : A). test y ≡ false) b × (test x ≡ true)
  unfolding last_of
  last_split [] x e = absurd (let z : ◌≡◌ {A = ℕ} 0 1 = cc in omega arith)
  last_split (y ∷ xs) x e = go (last_split xs x) (last_of test xs) refl e
    where
      go : (last_of test xs ≡ some x → (a : List A) × (b : List A) × (xs ≡ a ++ x ∷ b) × Every (λ (y : A). test y ≡ false) b × (test x ≡ true))
          → (o : Option A) → last_of test xs ≡ o → last_step y o ≡ some x
          → (a : List A) × (b : List A) × (y ∷ xs ≡ a ++ x ∷ b) × Every (λ (y : A). test y ≡ false) b × (test x ≡ true)
      go i (some z) q h =
          let w : z ≡ x = cc in
          let t = i (q ∙ ap some w) in
          (y ∷ t.0, t.1, ap (λ (l : List A). y ∷ l) t.2, t.3, t.4)
      go i none q h =
          by_test (test y)
          (λ t. let w : some y ≡ some x = rw t at h in let z : y ≡ x = cc in ([], xs, ap (λ (v : A). v ∷ xs) z, none_any xs (last_none xs q), rw z at t))
          (λ t. absurd (let w : none ≡ some x = rw t at h in let z : ◌≡◌ {A = ℕ} 0 1 = cc in omega arith))

-- ---- the plain list
-- the first open line is filled
pub fill_at : (f : File) {la : List (Option File)} (l : Option File) (lb : List (Option File)) → Every (λ (o : Option File). is_open o ≡ false) la → is_open l ≡ true
    → fill_first f (la ++ l ∷ lb) ≡ la ++ some f ∷ lb
unfolding fill_first
fill_at f l lb Every.none e = rw e refl
fill_at f l lb (Every.more q h) e = rw (q, fill_at f l lb h e) refl

-- the last line of a name is emptied
pub empty_at : (x : List ℕ) (la : List (Option File)) (l : Option File) (lb : List (Option File)) → any (holds_name x) lb ≡ false → holds_name x l ≡ true
    → empty_last x (la ++ l ∷ lb) ≡ la ++ none ∷ lb
unfolding empty_last
empty_at x [] l lb b e = rw (b, e) refl
empty_at x (z ∷ la) l lb b e = rw (any_here (holds_name x) la l lb e, empty_at x la l lb b e) refl

-- a name among the files is one of the lines'
pub any_present : (x : List ℕ) (ls : List (Option File)) → any (λ (f : File). same x (shown f.raw)) (present ls) ≡ any (holds_name x) ls
unfolding any present
any_present x [] = refl
any_present x (none ∷ ls) = any_present x ls
any_present x (some f ∷ ls) = rw (any_present x ls) refl

-- ---- the last of a name
-- none has it
none_named : (x : List ℕ) (ls : List (Option File)) → any (holds_name x) ls ≡ false → last_named x (present ls) ≡ Err NotOnRoll
unfolding any present last_named
none_named x [] e = refl
none_named x (none ∷ ls) e = none_named x ls e
none_named x (some f ∷ ls) e =
    by_test (same x (shown f.raw)) (λ q. absurd (unlike e (rw q refl))) (λ q. rw (none_named x ls (rw q at e), q) refl)

-- the one that was filled in
pub filled_named : (x : List ℕ) (f : File) → shown f.raw ≡ x → (ls : List (Option File)) → any (holds_name x) ls ≡ false → any is_open ls ≡ true
    → last_named x (present (fill_first f ls)) ≡ Ok f.bytes
unfolding any present last_named fill_first
filled_named x f q [] e o = absurd (clash o)
filled_named x f q (none ∷ ls) e o = rw (none_named x ls e, q, same_refl x) refl
filled_named x f q (some g ∷ ls) e o =
    by_test (same x (shown g.raw)) (λ t. absurd (unlike e (rw t refl))) (λ t. rw (filled_named x f q ls (rw t at e) o) refl)

-- ---- the lines of a disk
module _ (n : ℕ) (d : List ℕ) where
  -- a line that is open is not in use
  pub line_open : (y : ℕ) (l : Option File) → line_at n d y ≡ Ok l → is_open l ≡ not (in_use d y)
  unfolding line_at
  line_open y l h =
      by_test (in_use d y)
      (λ q.
      let g = gives (file_of n d (entry_from d y)) (λ f. Ok (some f)) l (rw q at h) in
      let k : Ok (some g.0) ≡ Ok l = g.2 in
      let z : l ≡ some g.0 = cc in
      ap is_open z ∙ rw q refl)
      (λ q. let k : Ok none ≡ Ok l = rw q at h in let z : l ≡ none = cc in ap is_open z ∙ rw q refl)

  -- a line's file has the shown name of its entry
  pub line_name : (x : List ℕ) (y : ℕ) (l : Option File) → line_at n d y ≡ Ok l → holds_name x l ≡ (in_use d y && is_named x (entry_from d y))
  unfolding line_at
  line_name x y l h =
      by_test (in_use d y)
      (λ q.
      let g = gives (file_of n d (entry_from d y)) (λ f. Ok (some f)) l (rw q at h) in
      let k : Ok (some g.0) ≡ Ok l = g.2 in
      let z : l ≡ some g.0 = cc in
      let s : shown g.0.raw ≡ shown (entry_from d y).raw = ap (λ (f : File). shown f.raw) (file_given n d (entry_from d y) g.0 g.1).3 in
      ap (holds_name x) z ∙ ap (same x) s ∙ rw q refl)
      (λ q. let k : Ok none ≡ Ok l = rw q at h in let z : l ≡ none = cc in ap (holds_name x) z ∙ rw q refl)

  -- a test of the lines is one of the plain list
  pub each_any : (t : Option File → Bool) (s : ℕ → Bool) → ((y : ℕ) (l : Option File) → line_at n d y ≡ Ok l → t l ≡ s y)
      → (ys : List ℕ) (ls : List (Option File)) → each (line_at n d) ys ≡ Ok ls → any t ls ≡ any s ys
  unfolding each any
  each_any t s h [] ls e = let z : ls ≡ [] = cc in rw z refl
  each_any t s h (y ∷ ys) ls e =
      let c = each_cons (line_at n d) y ys ls e in
      ap (any t) c.4 ∙ rw (h y c.0 c.2, each_any t s h ys c.1 c.3) refl
