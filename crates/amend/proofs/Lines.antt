-- Entry lines: where they stand, and what a disk's entries, holders and files are line by line. Assumes nothing.
use mathlib.Core.Path.{◌≡◌, refl, sym, ap, ◌∙◌}
use mathlib.Core.Bool.{true, cond}
use mathlib.Core.Logic.{◌⊎◌, inl, inr}
use mathlib.Core.List.{List, [], ◌∷◌, ◌++◌, map, flat_map}
use mathlib.Core.Option.{Option, none, some}
use Prim.Native.Nat.{ℕ, zero, suc, ◌+◌, ◌*◌, ◌<◌, ◌≤◌}
use native.Mathlib.Omega.{arith}
use Rattle.lists.specs.Every.{Every}
use Rattle.lists.specs.Fill.{below, tab}
use Rattle.lists.specs.Select.{filter, among, Apart}
use Rattle.lists.proofs.Split.{by_test, by_lt}
use Rattle.lists.proofs.Among.{among_here, among_there, unlike}
use Rattle.lists.proofs.Chunks.{every_append, every_tab}
use Rattle.lists.proofs.Select.{filter_append}
use Rattle.lists.proofs.Every.{every_imp, every_map}
use Rattle.std.specs.Prelude.{Ok}
use Rattle.outcome.specs.Outcome.{Outcome, each}
use Rattle.outcome.proofs.Outcome.{gives, each_cons}
use Rattle.disk.specs.declared.Place.{Place}
use Rattle.disk.specs.Disk.{start, number_of}
use Rattle.catalog.specs.Catalog.{live, entry_from, entries_of}
use Rattle.files.specs.Contents.{File, file_of}
use Rattle.holders.specs.Holders.{sectors_of}
use Rattle.amend.specs.Lines.{starts, in_use, line_at, present}

-- ---- where lines stand
-- x lies in the sector p, behind its first 11 bytes
pub record Within (n : ℕ) (p : Place) (x : ℕ) : Type 0 where
  pub low : start n p + 11 ≤ x
  pub high : x + 35 ≤ start n p + 256

-- two lines that share no byte
abbrev pub Far : ℕ → ℕ → Type 0
Far x y = (x + 35 ≤ y) ⊎ (y + 35 ≤ x)

-- lines of which no two share a byte
abbrev pub Spread : List ℕ → Type 0
Spread [] = Unit {0}
Spread (x ∷ xs) = Every (Far x) xs × Spread xs

pub far_sym : (x y : ℕ) → Far x y → Far y x
far_sym x y (inl h) = inr h
far_sym x y (inr h) = inl h

spread_append : (xs : List ℕ) {ys : List ℕ} → Spread xs → Spread ys → Every (λ (x : ℕ). Every (Far x) ys) xs → Spread (xs ++ ys)
spread_append [] a b Every.none = b
spread_append (x ∷ xs) a b (Every.more h e) = (every_append a.0 h, spread_append xs a.1 b e)

-- one line among others is far from all others
pub spread_split : (a : List ℕ) (x : ℕ) (b : List ℕ) → Spread (a ++ x ∷ b) → Every (Far x) a × Every (Far x) b
spread_split [] x b s = (Every.none, s.0)
spread_split (y ∷ a) x b s =
    let i = spread_split a x b s.1 in
    (Every.more (far_sym y x (here a s.0)) i.0, i.1)
  where
    here : (l : List ℕ) → Every (Far y) (l ++ x ∷ b) → Far y x
    here [] (Every.more h e) = h
    here (z ∷ l) (Every.more h e) = here l e

-- lines by a rule
pub map_is_tab : (f g : ℕ → ℕ) (m : ℕ) → map f (tab g m) ≡ tab (λ k. f (g k)) m
unfolding tab
map_is_tab f g zero = refl
map_is_tab f g (suc m) = ap (λ (l : List ℕ). f (g zero) ∷ l) (map_is_tab f (λ k. g (suc k)) m)

spread_tab : (f : ℕ → ℕ) (m : ℕ) → ((j k : ℕ) → j < k → f j + 35 ≤ f k) → Spread (tab f m)
unfolding tab
spread_tab f zero h = tt
spread_tab f (suc m) h = (
  every_tab (Far (f zero)) (λ k. f (suc k)) m (λ k l. inl (h zero (suc k) (omega arith))),
  spread_tab (λ k. f (suc k)) m (λ j k l. h (suc j) (suc k) (omega arith)),
)

module _ (n : ℕ) where
  -- the lines of one page
  abbrev pub starts_of : Place → List ℕ
  starts_of p = map (λ i. start n p + (11 + 35 * i)) (below 7)

  pub page_within : (p : Place) → Every (Within n p) (starts_of p)
  page_within p = every_map {P = Within n p} (λ i. start n p + (11 + 35 * i)) (every_tab (λ i. Within n p (start n p + (11 + 35 * i))) (λ i. i) 7 (λ k h. record { low = omega arith; high = omega arith }))

  page_spread : (p : Place) → Spread (starts_of p)
  page_spread p = rw (map_is_tab (λ i. start n p + (11 + 35 * i)) (λ i. i) 7) (spread_tab (λ i. start n p + (11 + 35 * i)) 7 (λ j k h. omega arith))

  -- lines of different pages are far from each other
  within_far : (p q : Place) (x y : ℕ) → (number_of n p ≡ number_of n q → ⊥) → Within n p x → Within n q y → Far x y
  within_far p q x y h a b =
      by_lt (number_of n p) (number_of n q) (λ l. inl (omega arith))
      (λ l. by_lt (number_of n q) (number_of n p) (λ m. inr (omega arith)) (λ m. absurd (h (omega arith))))

module _ (n : ℕ) (d : List ℕ) where
  -- the lines of one page and of the others
  pub starts_cons : (p : Place) (ps : List Place) → starts n (p ∷ ps) ≡ starts_of n p ++ starts n ps
  unfolding starts flat_map
  starts_cons p ps = refl

  -- each line lies in one of the pages
  abbrev pub Some : List Place → ℕ → Type 0
  Some ps x = (p : Place) × (among (number_of n p) (map (number_of n) ps) ≡ true) × Within n p x

  pub starts_within : (ps : List Place) → Every (Some ps) (starts n ps)
  unfolding starts flat_map
  starts_within [] = Every.none
  starts_within (p ∷ ps) =
      every_append (every_imp (λ x w. (p, among_here _ _, w)) (page_within n p))
      (every_imp (λ x w. (w.0, among_there _ _ _ w.1, w.2)) (starts_within ps))

  -- .. so what holds of each page holds of the page of each line
  pub starts_each : {P : Place → Type 0} {ps : List Place} → Every P ps → Every (λ (x : ℕ). (p : Place) × P p × Within n p x) (starts n ps)
  unfolding starts flat_map
  starts_each Every.none = Every.none
  starts_each (Every.more {x = p} h e) = every_append (every_imp (λ x w. (p, h, w)) (page_within n p)) (starts_each e)

  pub starts_spread : (ps : List Place) → Apart (map (number_of n) ps) → Spread (starts n ps)
  unfolding starts flat_map
  starts_spread [] a = tt
  starts_spread (p ∷ ps) a =
      spread_append (starts_of n p) (page_spread n p) (starts_spread ps a.1)
      (every_imp
      (λ x w.
      every_imp
      (λ y v.
      within_far n p v.0 x y (λ e. unlike a.0 (rw (← e) at v.1)) w v.2)
      (starts_within ps))
      (page_within n p))

  -- ---- the entries in use are those of the lines
  map_map : {A B C : Type 0} (f : B → C) (g : A → B) (xs : List A) → map f (map g xs) ≡ map (λ x. f (g x)) xs
  map_map f g [] = refl
  map_map f g (x ∷ xs) = let i = map_map f g xs in cc

  map_append : {A B : Type 0} (f : A → B) (xs ys : List A) → map f (xs ++ ys) ≡ map f xs ++ map f ys
  map_append f [] ys = refl
  map_append f (x ∷ xs) ys = let i = map_append f xs ys in cc

  pub entries_lines : (ps : List Place) → flat_map (entries_of n d) ps ≡ filter live (map (entry_from d) (starts n ps))
  unfolding starts flat_map entries_of filter
  entries_lines [] = refl
  entries_lines (p ∷ ps) =
      rw (
        map_append (entry_from d) (starts_of n p) (starts n ps),
        filter_append live (map (entry_from d) (starts_of n p)) (map (entry_from d) (starts n ps)),
        map_map (entry_from d) (λ i. start n p + (11 + 35 * i)) (below 7),
        entries_lines ps,
      ) refl

  -- ---- what each line holds
  unfoldable pub line_holds : ℕ → Outcome (List Place)
  line_holds x = cond (in_use d x) (sectors_of n d (entry_from d x)) (Ok [])

  pub holds_lines : (xs : List ℕ) (ts : List (List Place)) → each (sectors_of n d) (filter live (map (entry_from d) xs)) ≡ Ok ts
      → (us : List (List Place)) × (each line_holds xs ≡ Ok us) × (flat_map (λ t. t) us ≡ flat_map (λ t. t) ts)
  unfolding each filter line_holds flat_map
  holds_lines [] ts e = let z : ts ≡ [] = cc in ([], refl, rw z refl)
  holds_lines (x ∷ xs) ts e =
      by_test (live (entry_from d x))
      (λ q.
      let c = each_cons (sectors_of n d) (entry_from d x) (filter live (map (entry_from d) xs)) ts (rw q at e) in
      let i = holds_lines xs c.1 c.3 in
      (c.0 ∷ i.0, rw (q, c.2, i.1) refl, ap (λ (l : List Place). c.0 ++ l) i.2 ∙ sym (ap (flat_map (λ t. t)) c.4)))
      (λ q.
      let i = holds_lines xs ts (rw q at e) in
      ([] ∷ i.0, rw (q, i.1) refl, i.2))

  pub lines_hold : (xs : List ℕ) (us : List (List Place)) → each line_holds xs ≡ Ok us
      → (ts : List (List Place)) × (each (sectors_of n d) (filter live (map (entry_from d) xs)) ≡ Ok ts) × (flat_map (λ t. t) us ≡ flat_map (λ t. t) ts)
  unfolding each filter line_holds flat_map
  lines_hold [] us e = let z : us ≡ [] = cc in ([], refl, rw z refl)
  lines_hold (x ∷ xs) us e =
      let c = each_cons line_holds x xs us e in
      let i = lines_hold xs c.1 c.3 in
      by_test (live (entry_from d x))
      (λ q.
      let s : sectors_of n d (entry_from d x) ≡ Ok c.0 = rw q at c.2 in
      (c.0 ∷ i.0, rw (q, s, i.1) refl, ap (flat_map (λ t. t)) c.4 ∙ ap (λ (l : List Place). c.0 ++ l) i.2))
      (λ q.
      let s : Ok [] ≡ Ok c.0 = rw q at c.2 in
      let z : c.0 ≡ [] = cc in
      (i.0, rw (q, i.1) refl, ap (flat_map (λ t. t)) c.4 ∙ ap (λ (l : List Place). l ++ flat_map (λ t. t) c.1) z ∙ i.2))

  -- the files in use are those of the lines, the empty ones left out
  pub files_lines : (xs : List ℕ) (fs : List File) → each (file_of n d) (filter live (map (entry_from d) xs)) ≡ Ok fs
      → (ls : List (Option File)) × (each (line_at n d) xs ≡ Ok ls) × (fs ≡ present ls)
  unfolding each filter line_at present
  files_lines [] fs e = let z : fs ≡ [] = cc in ([], refl, z)
  files_lines (x ∷ xs) fs e =
      by_test (live (entry_from d x))
      (λ q.
      let c = each_cons (file_of n d) (entry_from d x) (filter live (map (entry_from d) xs)) fs (rw q at e) in
      let i = files_lines xs c.1 c.3 in
      (some c.0 ∷ i.0, rw (q, c.2, i.1) refl, c.4 ∙ ap (λ (l : List File). c.0 ∷ l) i.2))
      (λ q.
      let i = files_lines xs fs (rw q at e) in
      (none ∷ i.0, rw (q, i.1) refl, i.2))

  one_file : (x : ℕ) (xs : List ℕ) (f : File) (fs : List File) → live (entry_from d x) ≡ true → file_of n d (entry_from d x) ≡ Ok f
      → each (file_of n d) (filter live (map (entry_from d) xs)) ≡ Ok fs → each (file_of n d) (filter live (map (entry_from d) (x ∷ xs))) ≡ Ok (f ∷ fs)
  unfolding each filter
  one_file x xs f fs q g i = rw (q, g, i) refl

  pub lines_files : (xs : List ℕ) (ls : List (Option File)) → each (line_at n d) xs ≡ Ok ls
      → each (file_of n d) (filter live (map (entry_from d) xs)) ≡ Ok (present ls)
  unfolding each filter line_at present
  lines_files [] ls e = let z : ls ≡ [] = cc in rw z refl
  lines_files (x ∷ xs) ls e =
      let c = each_cons (line_at n d) x xs ls e in
      let i = lines_files xs c.1 c.3 in
      by_test (live (entry_from d x))
      (λ q.
      let g = gives (file_of n d (entry_from d x)) (λ f. Ok (some f)) c.0 (rw q at c.2) in
      let y : Ok (some g.0) ≡ Ok c.0 = g.2 in
      let z : c.0 ≡ some g.0 = cc in
      let a : each (file_of n d) (filter live (map (entry_from d) (x ∷ xs))) ≡ Ok (g.0 ∷ present c.1) = one_file x xs g.0 (present c.1) q g.1 i in
      a ∙ ap (λ (l : List (Option File)). Ok (present l)) (sym (c.4 ∙ ap (λ (o : Option File). o ∷ c.1) z)))
      (λ q.
      let y : Ok none ≡ Ok c.0 = rw q at c.2 in
      let z : c.0 ≡ none = cc in
      let a : each (file_of n d) (filter live (map (entry_from d) (x ∷ xs))) ≡ Ok (present c.1) = rw (q, i) refl in
      a ∙ ap (λ (l : List (Option File)). Ok (present l)) (sym (c.4 ∙ ap (λ (o : Option File). o ∷ c.1) z)))
