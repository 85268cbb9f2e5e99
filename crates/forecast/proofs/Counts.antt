-- Lists, pairs and lines in use, counted before and after a save. Assumes nothing.
use mathlib.Core.Path.{◌≡◌, refl, sym, ap, subst, ◌∙◌}
use mathlib.Core.Bool.{Bool, true, false, cond, not}
use mathlib.Core.List.{List, [], ◌∷◌, ◌++◌, flat_map}
use Prim.Native.Nat.{ℕ, suc, ◌+◌}
use native.Mathlib.Omega.{arith}
use lib.ListN.{length, length-append}
use lib.Dec.{ltb}
use borrow.Author.Tests.{lt-ltb}
use Rattle.lists.specs.Every.{Every}
use Rattle.lists.specs.Select.{any, filter}
use Rattle.lists.proofs.Split.{by_test}
use Rattle.lists.proofs.Every.{every_imp, parted}
use Rattle.lists.proofs.Select.{filter_yes, filter_no, filter_append, filter_same}
use Rattle.lists.proofs.Chunks.{split_every, flat_map_append, length_joined}
use Rattle.std.specs.Prelude.{Ok}
use Rattle.outcome.specs.Outcome.{each}
use Rattle.outcome.proofs.Outcome.{each_cons, each_also}
use Rattle.disk.specs.declared.Place.{Place}
use Rattle.catalog.specs.Catalog.{Entry, live, entry_from, pages}
use Rattle.files.specs.Contents.{lists, pairs_of}
use Rattle.holders.specs.Holders.{sectors_of}
use Rattle.holders.proofs.Refusals.{sectors_given, split_pairs}
use Rattle.amend.specs.Lines.{starts, in_use}
use Rattle.amend.proofs.Frame.{Alike, lists_alike, all_pairs_alike}
use Rattle.amend.proofs.Lines.{line_holds}
use Rattle.amend.proofs.Reading.{Reading, given_same}
use Rattle.amend.proofs.Change.{each_split, each_join}
use Rattle.amend.proofs.Kept.{Changed, parts_of, changed_pages}
use Rattle.forecast.specs.Claims.{Used, lists_at, used}

-- ---- one element of a list that passes now
module _ (f g : ℕ → Bool) where
  -- one passes more
  one_more : (a : List ℕ) (x : ℕ) (b : List ℕ) → Every (λ (y : ℕ). g y ≡ f y) a → Every (λ (y : ℕ). g y ≡ f y) b → f x ≡ false → g x ≡ true
      → length (filter g (a ++ x ∷ b)) ≡ suc (length (filter f (a ++ x ∷ b)))
  one_more a x b p q u v =
      let l = length-append (filter f a) (x ∷ filter f b) in
      let m = length-append (filter f a) (filter f b) in
      rw (filter_append g a (x ∷ b), filter_append f a (x ∷ b), filter_yes g x b v, filter_no f x b u, filter_same g f p, filter_same g f q) (omega arith)

-- some are counted where one passes
pub some_pass : (f : ℕ → Bool) (xs : List ℕ) → ltb 0 (length (filter f xs)) ≡ any f xs
unfolding any filter
some_pass f [] = refl
some_pass f (x ∷ xs) = by_test (f x) (λ q. rw q (lt-ltb 0 (suc (length (filter f xs))) (omega arith))) (λ q. rw q (some_pass f xs))

-- ---- lists joined, with one between them
-- their pairs, counted
joined_length : (F : Place → List Place) (ta : List (List Place)) (t : List Place) (tb : List (List Place))
    → length (flat_map F (flat_map (λ u. u) (ta ++ t ∷ tb)))
    ≡ length (flat_map F (flat_map (λ u. u) ta)) + length (flat_map F t) + length (flat_map F (flat_map (λ u. u) tb))
unfolding flat_map
joined_length F ta t tb =
    let A : List Place = flat_map (λ u. u) ta in
    let B : List Place = flat_map (λ u. u) tb in
    let e : flat_map (λ u. u) (ta ++ t ∷ tb) ≡ A ++ (t ++ B) = flat_map_append (λ u. u) ta (t ∷ tb) in
    let x = length-append (flat_map F A) (flat_map F t ++ flat_map F B) in
    let y = length-append (flat_map F t) (flat_map F B) in
    rw (e, flat_map_append F A (t ++ B), flat_map_append F t B) (omega arith)

-- ---- lines whose entries and sectors stay
module _ (n : ℕ) (d e : List ℕ) where
  -- the lists of one, and their pairs
  line_lists : (y : ℕ) (u t : List Place) → entry_from e y ≡ entry_from d y → Every (Alike n d e) u → line_holds n d y ≡ Ok u → lists_at n d y ≡ Ok t
      → (lists_at n e y ≡ Ok t) × (flat_map (pairs_of n e) t ≡ flat_map (pairs_of n d) t)
  unfolding line_holds lists_at flat_map
  line_lists y u t q a h k = go (entry_from d y) (entry_from e y) q h k
    where
      go : (x z : Entry) → z ≡ x → cond (live x) (sectors_of n d x) (Ok []) ≡ Ok u → cond (live x) (lists n d x) (Ok []) ≡ Ok t
          → (cond (live z) (lists n e z) (Ok []) ≡ Ok t) × (flat_map (pairs_of n e) t ≡ flat_map (pairs_of n d) t)
      go x z p v w =
          rw p
          (by_test (live x)
          (λ c.
          let g = sectors_given n d x u (rw c at v) in
          let l : lists n d x ≡ Ok t = rw c at w in
          let same : g.0 ≡ t = given_same g.1 l in
          let s : Every (Alike n d e) t = subst (Every (Alike n d e)) same (split_pairs n d g.0 (rw g.3 at a)).0 in
          (rw c (lists_alike n d e x t s l), all_pairs_alike n d e s))
          (λ c. let m : Ok [] ≡ Ok t = rw c at w in let o : t ≡ [] = cc in (rw (c, o) refl, rw o refl)))

  -- .. and of many
  lines_lists : {ys : List ℕ} (us ts : List (List Place)) → Every (λ (y : ℕ). entry_from e y ≡ entry_from d y) ys → Every (Every (Alike n d e)) us
      → each (line_holds n d) ys ≡ Ok us → each (lists_at n d) ys ≡ Ok ts
      → (each (lists_at n e) ys ≡ Ok ts) × (flat_map (pairs_of n e) (flat_map (λ t. t) ts) ≡ flat_map (pairs_of n d) (flat_map (λ t. t) ts))
  unfolding each flat_map
  lines_lists us ts Every.none a h k = let z : ts ≡ [] = cc in (k, rw z refl)
  lines_lists us ts (Every.more {x} {xs} p ps) a h k =
      let c = each_cons (line_holds n d) x xs us h in
      let f = each_cons (lists_at n d) x xs ts k in
      let r = parted (rw c.4 at a) in
      let s = line_lists x c.0 f.0 p r.0 c.2 f.2 in
      let i = lines_lists c.1 f.1 ps r.1 c.3 f.3 in
      let pairs : flat_map (pairs_of n e) (f.0 ++ flat_map (λ t. t) f.1) ≡ flat_map (pairs_of n d) (f.0 ++ flat_map (λ t. t) f.1) =
      flat_map_append (pairs_of n e) f.0 (flat_map (λ t. t) f.1) ∙ (λ j. s.1 j ++ i.1 j) ∙ sym (flat_map_append (pairs_of n d) f.0 (flat_map (λ t. t) f.1)) in
      (one f.0 f.1 s.0 i.0 ∙ ap Ok (sym f.4), joined ts f.0 f.1 f.4 pairs)
    where
      one : (t : List Place) (l : List (List Place)) → lists_at n e x ≡ Ok t → each (lists_at n e) xs ≡ Ok l → each (lists_at n e) (x ∷ xs) ≡ Ok (t ∷ l)
      one t l m o = rw (m, o) refl

      joined : (l : List (List Place)) (t : List Place) (m : List (List Place)) → l ≡ t ∷ m
          → flat_map (pairs_of n e) (t ++ flat_map (λ t. t) m) ≡ flat_map (pairs_of n d) (t ++ flat_map (λ t. t) m)
          → flat_map (pairs_of n e) (flat_map (λ t. t) l) ≡ flat_map (pairs_of n d) (flat_map (λ t. t) l)
      joined l t m o w = rw o w

-- ---- what is used
module _ (n : ℕ) (d : List ℕ) where
  -- counted, the pages and the lists of each line being known
  abbrev used_with : List Place → List (List Place) → Used
  used_with ps ts =
      record {
        data_sectors = length (flat_map (pairs_of n d) (flat_map (λ t. t) ts));
        list_sectors = length (flat_map (λ t. t) ts);
        entry_lines = length (filter (in_use d) (starts n ps));
      }

  used_is : (ps : List Place) (ts : List (List Place)) → pages n d ≡ Ok ps → each (lists_at n d) (starts n ps) ≡ Ok ts → used n d ≡ Ok (used_with ps ts)
  unfolding used
  used_is ps ts p h = rw (p, h) refl

  -- each line that is read has its lists
  lists_too : (y : ℕ) (u : List Place) → line_holds n d y ≡ Ok u → (t : List Place) × (lists_at n d y ≡ Ok t)
  unfolding line_holds lists_at
  lists_too y u h =
      by_test (in_use d y) (λ c. let g = sectors_given n d (entry_from d y) u (rw c at h) in (g.0, rw c g.1)) (λ c. ([], rw c refl))

  -- a clean disk's are counted
  pub used_given : (r : Reading n d) → (ts : List (List Place)) × (each (lists_at n d) (starts n r.ps) ≡ Ok ts) × (used n d ≡ Ok (used_with r.ps ts))
  used_given r =
      let t = each_also (line_holds n d) (lists_at n d) lists_too (starts n r.ps) r.us r.holds in
      (t.0, t.1, used_is r.ps t.0 r.paged t.1)

-- ---- one line filled
module _ (n : ℕ) (d e : List ℕ) (r : Reading n d) (a : List ℕ) (x : ℕ) (b : List ℕ) (c : Changed n d e r a x b) where
  -- in use as before
  use_same : {ys : List ℕ} → Every (λ (y : ℕ). entry_from e y ≡ entry_from d y) ys → Every (λ (y : ℕ). in_use e y ≡ in_use d y) ys
  use_same h = every_imp (λ y q. ap live q) h

  open_same : {ys : List ℕ} → Every (λ (y : ℕ). entry_from e y ≡ entry_from d y) ys → Every (λ (y : ℕ). not (in_use d y) ≡ not (in_use e y)) ys
  open_same h = every_imp (λ y q. ap (λ (z : Entry). not (live z)) (sym q)) h

  -- a line in use more, a line less that is open
  pub more_used : in_use d x ≡ false → in_use e x ≡ true → length (filter (in_use e) (starts n r.ps)) ≡ suc (length (filter (in_use d) (starts n r.ps)))
  more_used u v = rw c.split (one_more (in_use d) (in_use e) a x b (use_same c.before) (use_same c.after) u v)

  pub less_open : in_use d x ≡ false → in_use e x ≡ true
      → length (filter (λ (y : ℕ). not (in_use d y)) (starts n r.ps)) ≡ suc (length (filter (λ (y : ℕ). not (in_use e y)) (starts n r.ps)))
  less_open u v =
      rw c.split
      (one_more (λ (y : ℕ). not (in_use e y)) (λ (y : ℕ). not (in_use d y)) a x b (open_same c.before) (open_same c.after) (rw v refl) (rw u refl))

  -- so much more is used
  pub more_lists : (new : List Place) → in_use d x ≡ false → in_use e x ≡ true → lists n e (entry_from e x) ≡ Ok new → (u : Used) → used n d ≡ Ok u
      → used n e
      ≡ Ok
      (record {
        data_sectors = u.data_sectors + length (flat_map (pairs_of n e) new);
        list_sectors = u.list_sectors + length new;
        entry_lines = u.entry_lines + 1;
      })
  unfolding flat_map lists_at
  more_lists new not-used now h u q =
      let t = used_given n d r in
      let s = each_split (lists_at n d) a x b t.0 (ap (each (lists_at n d)) (sym c.split) ∙ t.1) in
      let p = parts_of n d e r a x b c.split in
      let al = split_every p.ua (rw p.us_is at c.alike) in
      let la = lines_lists n d e p.ua s.0 c.before al.0 p.holds_a s.3 in
      let lb = lines_lists n d e p.ub s.2 c.after (parted al.1).1 p.holds_b s.5 in
      let old : s.1 ≡ [] = given_same s.4 (out not-used) in
      let j : each (lists_at n e) (a ++ x ∷ b) ≡ Ok (s.0 ++ new ∷ s.2) = each_join (lists_at n e) a x b s.0 new s.2 la.0 (here now h) lb.0 in
      let z : used n e ≡ Ok (used_with n e r.ps (s.0 ++ new ∷ s.2)) =
      used_is n e r.ps (s.0 ++ new ∷ s.2) (changed_pages n d e r a x b c p) (ap (each (lists_at n e)) c.split ∙ j) in
      let uu : u ≡ used_with n d r.ps (s.0 ++ [] ∷ s.2) =
      given_same q (t.2 ∙ ap (λ (ts : List (List Place)). Ok (used_with n d r.ps ts)) (s.6 ∙ ap (λ (l : List Place). s.0 ++ l ∷ s.2) old)) in
      let d₁ = joined_length (pairs_of n e) s.0 new s.2 in
      let d₂ = joined_length (pairs_of n d) s.0 [] s.2 in
      let d₃ = ap length la.1 in
      let d₄ = ap length lb.1 in
      let data' : length (flat_map (pairs_of n e) (flat_map (λ t. t) (s.0 ++ new ∷ s.2)))
      ≡ length (flat_map (pairs_of n d) (flat_map (λ t. t) (s.0 ++ [] ∷ s.2))) + length (flat_map (pairs_of n e) new) = omega arith in
      let l₁ = length_joined s.0 new s.2 in
      let l₂ = length_joined s.0 [] s.2 in
      let list' : length (flat_map (λ t. t) (s.0 ++ new ∷ s.2)) ≡ length (flat_map (λ t. t) (s.0 ++ [] ∷ s.2)) + length new = omega arith in
      let m = more_used not-used now in
      let line' : length (filter (in_use e) (starts n r.ps)) ≡ length (filter (in_use d) (starts n r.ps)) + 1 = omega arith in
      z ∙ (λ i. Ok (record { data_sectors = data' i; list_sectors = list' i; entry_lines = line' i }))
      ∙ ap (λ (v : Used). Ok (record { data_sectors = v.data_sectors + length (flat_map (pairs_of n e) new); list_sectors = v.list_sectors + length new; entry_lines = v.entry_lines + 1 })) (sym uu)
    where
      out : in_use d x ≡ false → lists_at n d x ≡ Ok []
      out o = rw o refl

      here : in_use e x ≡ true → lists n e (entry_from e x) ≡ Ok new → lists_at n e x ≡ Ok new
      here o l = rw o l
