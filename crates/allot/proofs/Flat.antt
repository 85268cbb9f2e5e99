-- For the code: the sectors of a save taken in one run, of which sector i is a list where i is a multiple of 123. Assumes nothing.
use mathlib.Core.Path.{◌≡◌, refl, sym, ap, ◌∙◌}
use mathlib.Core.Bool.{Bool, true, false, cond}
use mathlib.Core.List.{List, [], ◌∷◌, ◌++◌, flat_map}
use Prim.Native.Nat.{ℕ, zero, suc, ◌+◌, ◌*◌, ◌-◌, ◌%◌, ◌<◌, ◌≤◌, min}
use native.Mathlib.Omega.{arith}
use lib.ListN.{length, get_or, replicate, length-append, length-replicate, get_or-replicate, get_or-append}
use lib.Seq.{get_or-append-add}
use lib.Dec.{eqb}
use borrow.Author.Tests.{ne_eqb}
use Rattle.lists.proofs.Split.{by_lt}
use Rattle.std.specs.Prelude.{Ok, Err}
use Rattle.outcome.specs.Outcome.{Outcome, ◌>>=◌}
use Rattle.disk.specs.declared.Place.{Place}
use Rattle.files.specs.Contents.{max_pairs}
use Rattle.amend.specs.Search.{take_one}
use Rattle.amend.specs.Save.{Part, sectors_in, take_data, take_parts, take_for, data_for, lists_for}

-- one sector for each flag, a flag being `later`
unfoldable pub take_run : ℕ → List Bool → List ℕ → Outcome (List Place × List ℕ)
take_run n [] d = Ok ([], d)
take_run n (b ∷ bs) d = take_one n b d >>= λ r. take_run n bs r.1 >>= λ s. Ok (r.0 ∷ s.0, s.1)

-- the flags of k lists for m data sectors
unfoldable pub flags : (k m : ℕ) (later : Bool) → List Bool
flags zero m later = []
flags (suc k) m later = later ∷ (replicate (min max_pairs m) false ++ flags k (m - max_pairs) true)

-- ---- a run, one outcome after the other
abbrev Run : Type 0
Run = Outcome (List Place × List ℕ)

-- a run with these sectors in front
abbrev join_to : List Place → Run → Run
join_to ps o = o >>= λ s. Ok (ps ++ s.0, s.1)

joins : (p : Place) (ps : List Place) (o : Run) → join_to (p ∷ []) (join_to ps o) ≡ join_to (p ∷ ps) o
joins p ps (Err q) = refl
joins p ps (Ok s) = refl

-- one run behind another
abbrev behind : (List ℕ → Run) → Run → Run
behind f o = o >>= λ r. join_to r.0 (f r.1)

front_behind : (f : List ℕ → Run) (p : Place) (o : Run) → join_to (p ∷ []) (behind f o) ≡ behind f (join_to (p ∷ []) o)
front_behind f p (Err q) = refl
front_behind f p (Ok r) = joins p r.0 (f r.1)

-- the first sector, and the others
abbrev first : Outcome (Place × List ℕ) → (List ℕ → Run) → Run
first o f = o >>= λ r. join_to (r.0 ∷ []) (f r.1)

first_same : (o : Outcome (Place × List ℕ)) (f g : List ℕ → Run) → ((d : List ℕ) → f d ≡ g d) → first o f ≡ first o g
first_same (Err q) f g h = refl
first_same (Ok r) f g h = ap (join_to (r.0 ∷ [])) (h r.1)

first_behind : (o : Outcome (Place × List ℕ)) (f g : List ℕ → Run) → first o (λ d. behind g (f d)) ≡ behind g (first o f)
first_behind (Err q) f g = refl
first_behind (Ok r) f g = front_behind g r.0 (f r.1)

-- the sectors of parts, in the order in which they were taken
abbrev pub in_row : Outcome (List Part × List ℕ) → Outcome (List Place × List ℕ)
in_row o = o >>= λ r. Ok (sectors_in r.0, r.1)

-- a part in front of others
abbrev with_part : Part → Outcome (List Part × List ℕ) → Outcome (List Part × List ℕ)
with_part g o = o >>= λ t. Ok (g ∷ t.0, t.1)

part_row : (g : Part) (o : Outcome (List Part × List ℕ)) → in_row (with_part g o) ≡ join_to (g.list ∷ g.pairs) (in_row o)
unfolding flat_map
part_row g (Err q) = refl
part_row g (Ok t) = refl

module _ (n : ℕ) where
  -- data sectors
  data_run : (m : ℕ) (d : List ℕ) → take_data n m d ≡ take_run n (replicate m false) d
  unfolding take_data take_run
  data_run zero d = refl
  data_run (suc m) d = first_same (take_one n false d) (take_data n m) (take_run n (replicate m false)) (data_run m)

  -- a run in two parts
  run_append : (xs ys : List Bool) (d : List ℕ) → take_run n (xs ++ ys) d ≡ behind (take_run n ys) (take_run n xs d)
  unfolding take_run
  run_append [] ys d = go (take_run n ys d)
    where
      go : (o : Run) → o ≡ join_to [] o
      go (Err q) = refl
      go (Ok s) = refl
  run_append (x ∷ xs) ys d =
      first_same (take_one n x d) (take_run n (xs ++ ys)) (λ e. behind (take_run n ys) (take_run n xs e)) (run_append xs ys)
      ∙ first_behind (take_one n x d) (take_run n xs) (take_run n ys)

  -- one part
  module _ (k m : ℕ) (ih : (e : List ℕ) → in_row (take_parts n k (m - max_pairs) true e) ≡ take_run n (flags k (m - max_pairs) true) e) where
    with_data_lem : (l : Place) (o : Run)
        → in_row (o >>= λ s. with_part (record { list = l; pairs = s.0 }) (take_parts n k (m - max_pairs) true s.1))
        ≡ join_to (l ∷ []) (behind (take_run n (flags k (m - max_pairs) true)) o)
    with_data_lem l (Err q) = refl
    with_data_lem l (Ok s) =
        part_row (record { list = l; pairs = s.0 }) (take_parts n k (m - max_pairs) true s.1) ∙ ap (join_to (l ∷ s.0)) (ih s.1)
        ∙ sym (joins l s.0 (take_run n (flags k (m - max_pairs) true) s.1))

    with_list : (o : Outcome (Place × List ℕ))
        → in_row (o >>= λ r. take_data n (min max_pairs m) r.1 >>= λ s. with_part (record { list = r.0; pairs = s.0 }) (take_parts n k (m - max_pairs) true s.1))
        ≡ first o (take_run n (replicate (min max_pairs m) false ++ flags k (m - max_pairs) true))
    with_list (Err q) = refl
    with_list (Ok r) =
        with_data_lem r.0 (take_data n (min max_pairs m) r.1)
        ∙ ap (join_to (r.0 ∷ []))
        (ap (behind (take_run n (flags k (m - max_pairs) true))) (data_run (min max_pairs m) r.1)
        ∙ sym (run_append (replicate (min max_pairs m) false) (flags k (m - max_pairs) true) r.1))

  -- the parts of a save are that run
  pub parts_run : (k m : ℕ) (later : Bool) (d : List ℕ) → in_row (take_parts n k m later d) ≡ take_run n (flags k m later) d
  unfolding take_parts take_run flags flat_map
  parts_run zero m later d = refl
  parts_run (suc k) m later d = with_list k m (parts_run k (m - max_pairs) true) (take_one n later d)

  pub for_run : (k : ℕ) (d : List ℕ) → in_row (take_for n k d) ≡ take_run n (flags (lists_for (data_for k)) (data_for k) false) d
  unfolding take_for
  for_run k d = parts_run (lists_for (data_for k)) (data_for k) false d

-- ---- the flags
-- as many as lists and data
pub length_flags : (k m : ℕ) (later : Bool) → m ≤ 122 * k → length (flags k m later) ≡ k + m
unfolding flags
length_flags zero m later h = omega arith
length_flags (suc k) m later h =
    let i = length_flags k (m - max_pairs) true (omega arith) in
    let l = length-replicate (min max_pairs m) false in
    rw (length-append, l, i) (omega arith)

-- sector i is a list where i is a multiple of 123; `later` is asked of all of these but the first
pub flags_at : (k m i : ℕ) (later : Bool) → m ≤ 122 * k → 122 * k < m + 122 → i < k + m → get_or (flags k m later) i false ≡ cond (eqb i 0) later (eqb (i % 123) 0)
unfolding flags
flags_at zero m i later h g l = absurd (omega arith)
flags_at (suc k) m zero later h g l = refl
flags_at (suc k) m (suc i) later h g l =
    rw (ne_eqb (suc i) 0 (λ e. omega arith))
    (by_lt i (min max_pairs m)
    (λ a.
    get_or-append (replicate (min max_pairs m) false) (flags k (m - max_pairs) true) false i (rw length-replicate a) ∙ get_or-replicate (min max_pairs m) i false false a
    ∙ sym (ne_eqb (suc i % 123) 0 (λ e. omega arith)))
    (λ a.
    let j : ℕ = i - 122 in
    let full : min max_pairs m ≡ 122 = omega arith in
    let q : i ≡ length (replicate (min max_pairs m) false) + j = rw length-replicate (omega arith) in
    let r : (suc i) % 123 ≡ j % 123 = omega arith in
    ap (λ (x : ℕ). get_or (replicate (min max_pairs m) false ++ flags k (m - max_pairs) true) x false) q
    ∙ get_or-append-add (replicate (min max_pairs m) false) (flags k (m - max_pairs) true) j false
    ∙ flags_at k (m - max_pairs) j true (omega arith) (omega arith) (omega arith) ∙ rw r (zero_too j)))
  where
    zero_too : (j : ℕ) → cond (eqb j 0) true (eqb (j % 123) 0) ≡ eqb (j % 123) 0
    zero_too zero = refl
    zero_too (suc j) = rw (ne_eqb (suc j) 0 (λ e. omega arith)) refl
