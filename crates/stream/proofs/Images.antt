-- `address_refusal`, `decode_first`, `complete`, `end_refusal`, `collect` and `denibblize` over plain variables.
-- Assumes nothing.
use mathlib.Core.Path.{◌≡◌, refl, sym, ap, ◌∙◌}
use mathlib.Core.Bool.{Bool, true, false, cond, not, ◌&&◌, ◌||◌}
use mathlib.Core.Logic.{◌⊎◌, inl, inr, ⊎_elim}
use mathlib.Core.List.{List, [], ◌∷◌, ◌++◌, flatten}
use Prim.Native.Nat.{ℕ, zero, suc, ◌+◌, ◌-◌, ◌*◌, ◌/◌, ◌%◌, ◌≤◌, ◌<◌}
use native.Mathlib.Omega.{arith}
use borrow.Author.Rules.{rules}
use borrow.Author.Tests.{eq-eqb, ne_eqb, eqb-true, ltb-false}
use lib.Dec.{eqb, ltb}
use lib.ListN.{length, get_or, set, take, drop, replicate, length-set, length-replicate, get_or-replicate}
use lib.Seq.{get_or-set_same, get_or-set_other, length-take-le, take-take}
use Rattle.lists.specs.Fill.{tab, below, put, placed}
use Rattle.lists.specs.Select.{all, any}
use Rattle.lists.proofs.Cuts.{drop_take}
use Rattle.lists.proofs.Put.{put_is, put_front, placed_put}
use Rattle.lists.proofs.Split.{by_lt, by_test, both_true, clash, and_true, and_false}
use Rattle.std.specs.Prelude.{Ok, Err}
use Rattle.std.specs.Prelude.{Some, None}
use Rattle.outcome.specs.declared.Refusal.{Refusal}
use Rattle.outcome.specs.declared.Refusal.TheVariants.{AddressSum, DataSum, Absent, Stranger, TrayShort}
use Rattle.outcome.specs.Outcome.{Outcome, ◌>>=◌, ◌>>◌, require, each, Hands}
use Rattle.outcome.proofs.Outcome.{refused_given, hands_refused, hands_short, hands_over_lem, each_refuses, each_on}
use Rattle.fields.specs.declared.Edition.{Edition}
use Rattle.fields.specs.declared.FieldPair.{FieldPair}
use Rattle.fields.specs.Editions.{nibbles_of, per_track, dos_sector, sum_of, data_of}
use Rattle.fields.specs.Fields.{Field, fields}
use Rattle.fields.specs.Scan.{pair_from, fields_from, field_of, Run}
use Rattle.fields.proofs.Numbers.{per_some, per_small, number_track, number_sector, number_whole, number_below, dos_lt, same_sector}
use Rattle.fields.proofs.Fields.{same_pair, pair_refused, pair_end, pair_more, pair_fits, pair_less, run_more, run_from, run_all, run_bad, from_start}
use Rattle.stream.specs.Stream.{same_key, firsts, sums_ok, is_stranger, first_volume, bytes_at, image}
use Rattle.stream.specs.Steps.{sector_at, first_place, strange, number_of, sum_counts, held_in, Complete, Decides, address_sums, Collects}
use Rattle.stream.specs.Steps
use Rattle.stream.proofs.Firsts.{or_none, any_met, any_none, any_agree, any_place, bytes_at_is, sector_none, sector_some, first_turn, sums_turn}
use Rattle.stream.proofs.Sizes.{length_data}
use Rattle.stream.proofs.Joins.{each_joins, put_here, put_before, put_behind}

-- ---- address_refusal
pub record Ahead (ed : Edition) (s : List ℕ) (i k : ℕ) : Type 0 where
  pub same : address_sums ed s i ≡ address_sums ed s k

pub ahead_start : (ed : Edition) (s : List ℕ) (i : ℕ) → Ahead ed s i i
ahead_start ed s i = record { same = refl }

module _ (ed : Edition) (s : List ℕ) (i k : ℕ) (w : Ahead ed s i k) where
  pub ahead_bad : (h : Outcome (Unit {0})) (r : Refusal) → h ≡ Err r → Err r ≡ pair_from ed s k → h ≡ address_sums ed s i
  ahead_bad h r q e = let b = pair_refused ed s k r e in q ∙ sym (w.same ∙ rw b.1 (ap Err (sym b.0)))

  pub ahead_end : Ok None ≡ pair_from ed s k → Ok tt ≡ address_sums ed s i
  ahead_end e = sym (w.same ∙ rw (pair_end ed s k e) refl)

  pub ahead_turn : (p : FieldPair) → Ok (Some p) ≡ pair_from ed s k → Ahead ed s i p.next
  ahead_turn p e = let m = pair_more ed s k p e in record { same = w.same ∙ rw m.fields (go (fields_from ed s p.next)) }
    where
      go : (o : Outcome (List Field)) → ◌≡◌ {A = Outcome (Unit {0})} ((o >>= λ fs. Ok (field_of ed s p ∷ fs)) >> Ok tt) (o >> Ok tt)
      go (Err r) = refl
      go (Ok fs) = refl

pub ruleset ahead = (ahead_start, ahead_bad, ahead_end, ahead_turn, pair_less, rules)

-- ---- decode_first
module _ (ed : Edition) (s : List ℕ) (p : FieldPair) (old at : ℕ) (good : Bool) where
  pub first_again : (d : List ℕ) → (old ≡ 0 → ⊥) → d ≡ held_in ed s p old at d
  unfolding held_in
  first_again d n = rw (ne_eqb old 0 n) refl

  pub first_put : (d o : List ℕ) → old ≡ 0 → o ≡ put at (data_of ed (take (nibbles_of ed) (drop p.nibbles s))) d → o ≡ held_in ed s p old at d
  unfolding held_in
  first_put d o z q = rw (eq-eqb old 0 z) q

  pub counts_not : (old ≡ 0 → ⊥) → good ≡ sum_counts ed s p old good
  counts_not n = rw (ne_eqb old 0 n) (sym (and_true good))

  pub counts_wrong : (r : ℕ) → old ≡ 0 → r ≡ sum_of ed (take (nibbles_of ed) (drop p.nibbles s)) → (r ≡ 0 → ⊥) → false ≡ sum_counts ed s p old good
  counts_wrong r z q n = rw (eq-eqb old 0 z, ← q, ne_eqb r 0 n) (sym (and_false good))

  pub counts_right : (r : ℕ) → old ≡ 0 → r ≡ sum_of ed (take (nibbles_of ed) (drop p.nibbles s)) → r ≡ 0 → good ≡ sum_counts ed s p old good
  counts_right r z q e = rw (eq-eqb old 0 z, ← q, eq-eqb r 0 e) (sym (and_true good))

pub ruleset counted = (first_again, first_put, counts_not, counts_wrong, counts_right, rules)

-- ---- complete
pub record Having (at : List ℕ) (k : ℕ) : Type 0 where
  pub have : (j : ℕ) → j < k → get_or at j 0 ≡ 0 → ⊥

pub having_start : (at : List ℕ) → Having at 0
having_start at = record { have = λ j h z. omega arith }

module _ (ed : Edition) (at : List ℕ) (k : ℕ) where
  pub having_turn : Having at k → (get_or at k 0 ≡ 0 → ⊥) → Having at (k + 1)
  having_turn w n = record { have = λ j h. by_lt j k (λ l. w.have j l) (λ l. let e : j ≡ k = omega arith in rw e n) }

  pub having_not : (n : ℕ) → n ≡ per_track ed → k < 35 * n → get_or at k 0 ≡ 0 → Complete ed at false
  having_not n e h z = Steps.no refl k (rw e at h) z

  pub having_all : (n : ℕ) → n ≡ per_track ed → Having at k → 35 * n ≤ k → Complete ed at true
  having_all n e w h = Steps.yes refl (λ j l. w.have j (omega arith))

pub ruleset having = (having_start, having_turn, having_not, having_all, rules)

-- ---- end_refusal
module _ (ed : Edition) (good : Bool) (at : List ℕ) where
  pub decide_sum : good ≡ false → Decides ed good at (Err DataSum)
  decide_sum g = Steps.sum g refl

  pub decide_absent : (b : Bool) → good ≡ true → Complete ed at b → b ≡ false → Decides ed good at (Err Absent)
  decide_absent b g (Steps.yes t h) f = absurd (clash (sym f ∙ t))
  decide_absent b g (Steps.no t k h z) f = Steps.absent g refl k h z

  pub decide_all : (b : Bool) → good ≡ true → Complete ed at b → b ≡ true → Decides ed good at (Ok tt)
  decide_all b g (Steps.yes t h) f = Steps.all g refl h
  decide_all b g (Steps.no t k h z) f = absurd (clash (sym t ∙ f))

pub ruleset decided = (decide_sum, decide_absent, decide_all, rules)

-- ---- collect
eqb_swap : (a b : ℕ) → eqb a b ≡ eqb b a
eqb_swap a b = by_test (eqb a b) (λ t. t ∙ sym (eq-eqb b a (sym (eqb-true a b t)))) (λ t. t ∙ sym (ne_eqb b a (λ u. clash (sym t ∙ eq-eqb a b (sym u)))))

not_false : (b : Bool) → not b ≡ false → b ≡ true
not_false true e = refl
not_false false e = absurd (clash (sym e))

-- what is no stranger is of the volume and on the disk
known : (ed : Edition) (v a t p : ℕ) → (not (eqb a v) || (ltb 34 t || ltb (per_track ed - 1) p)) ≡ false → (a ≡ v) × (t ≤ 34) × (p < per_track ed)
known ed v a t p e =
    let b = or_none (not (eqb a v)) _ e in
    let c = or_none (ltb 34 t) (ltb (per_track ed - 1) p) b.1 in
    (eqb-true a v (not_false (eqb a v) b.0), ltb-false 34 t c.0, omega (arith, per_some ed, ltb-false (per_track ed - 1) p c.1))

-- of two such fields: the same key is the same track and DOS sector
key_agrees : (ed : Edition) (v : ℕ) (f g : Field) → is_stranger ed v f ≡ false → is_stranger ed v g ≡ false
    → same_key f g ≡ (eqb g.track f.track && eqb (dos_sector ed g.sector) (dos_sector ed f.sector))
key_agrees ed v f g e q =
    let a = known ed v f.volume f.track f.sector e in
    let b = known ed v g.volume g.track g.sector q in
    rw (
      eq-eqb f.volume g.volume (a.0 ∙ sym b.0),
      eqb_swap f.track g.track,
      same_sector ed f.sector g.sector a.2 b.2,
    ) refl

-- the pairs up to place i are met, and none is a stranger; d₀ is the space as it was lent, d has the sectors that are met
pub record Collecting (ed : Edition) (s : List ℕ) (v i : ℕ) (good : Bool) (at d₀ d : List ℕ) : Type 0 where
  pub met : List Field
  pub run : Run ed s 0 i met
  pub first : FieldPair
  pub opens : Ok (Some first) ≡ pair_from ed s 0
  pub volume : v ≡ first.volume
  pub known_all : any (is_stranger ed v) met ≡ false
  pub sums : good ≡ sums_ok ed (firsts [] met)
  pub long : length at ≡ 560
  pub placed_at : (k : ℕ) → k < 35 * per_track ed → sector_at ed s (get_or at k 0) ≡ bytes_at ed (k / per_track ed) (k % per_track ed) met
  pub size : length d ≡ length d₀
  pub room : 256 * (35 * per_track ed) ≤ length d₀
  pub held : (k : ℕ) → k < 35 * per_track ed → (get_or at k 0 ≡ 0 → ⊥) → take 256 (drop (256 * k) d) ≡ data_of ed (take (nibbles_of ed) (drop (get_or at k 0) s))

pub collecting_start : (ed : Edition) (s at d : List ℕ) (f : FieldPair) → Ok (Some f) ≡ pair_from ed s 0 → at ≡ replicate 560 0 → 256 * (35 * per_track ed) ≤ length d
    → Collecting ed s f.volume 0 true at d d
unfolding bytes_at firsts all any
collecting_start ed s at d f e z l =
    let n : (k : ℕ) → k < 35 * per_track ed → get_or at k 0 ≡ 0 = λ k h. rw z (get_or-replicate {A = ℕ} 560 k 0 0 (omega (arith, per_small ed))) in
    record {
      met = [];
      run = refl;
      first = f;
      opens = e;
      volume = refl;
      known_all = refl;
      sums = refl;
      long = rw z (length-replicate {A = ℕ} 560 0);
      placed_at = λ k h. sector_none ed s (get_or at k 0) (eq-eqb _ 0 (n k h));
      size = refl;
      room = l;
      held = λ k h u. absurd (u (n k h));
    }

-- the volume of all fields is that of the first pair
first_volume_lem : (ed : Edition) (s : List ℕ) (e : ℕ) (xs ys : List Field) (f p : FieldPair) → Ok (Some f) ≡ pair_from ed s 0 → Run ed s 0 e xs → Ok (Some p) ≡ pair_from ed s e
    → first_volume (xs ++ (field_of ed s p ∷ ys)) ≡ f.volume
first_volume_lem ed s e [] ys f p o r q = ap (λ (x : FieldPair). x.volume) (same_pair (q ∙ ap (pair_from ed s) (sym r)) o)
first_volume_lem ed s e (x ∷ xs) ys f p o r q = sym (ap (λ (x : Field). x.volume) r.2) ∙ ap (λ (x : FieldPair). x.volume) (same_pair r.1 o)

-- a field that is put at the place `old` of its sector, or is not put
first_old : (a m : ℕ) → first_place a false m ≡ a
first_old a m = by_test (eqb a 0) (λ t. rw t (sym (eqb-true a 0 t))) (λ t. rw t refl)

-- the first pair is refused
pub collect_first : (ed : Edition) (s d : List ℕ) (h : Outcome (Unit {0})) (r : Refusal) → h ≡ Err r → Err r ≡ pair_from ed s 0 → Collects ed s d h
unfolding image
collect_first ed s d h r q e =
    let b = pair_refused ed s 0 r e in
    let o : image ed s ≡ Err AddressSum = rw (run_bad ed s 0 [] refl b.1) refl in
    rw (q, b.0) (record { is = o })

pub collect_bad : (ed : Edition) (s : List ℕ) (v i : ℕ) (good : Bool) (at d₀ d : List ℕ) → Collecting ed s v i good at d₀ d → (h : Outcome (Unit {0})) (r : Refusal) → h ≡ Err r
    → Err r ≡ pair_from ed s i → Collects ed s d h
unfolding image
collect_bad ed s v i good at d₀ d w h r q e =
    let b = pair_refused ed s i r e in
    let o : image ed s ≡ Err AddressSum = rw (run_bad ed s i w.met w.run b.1) refl in
    rw (q, b.0) (record { is = o })

module _ (ed : Edition) (s : List ℕ) (v i : ℕ) (good : Bool) (at d₀ d : List ℕ) (w : Collecting ed s v i good at d₀ d) (p : FieldPair) (e : Ok (Some p) ≡ pair_from ed s i) where
  -- all fields, where the rest of them is given
  met_fields : (rest : List Field) → fields_from ed s p.next ≡ Ok rest → fields ed (length s) s ≡ Ok (w.met ++ (field_of ed s p ∷ rest))
  met_fields rest g =
      let m = pair_more ed s i p e in
      sym (from_start ed s) ∙ run_from ed s i w.met 0 w.run ∙ rw (m.fields, g) refl

  -- .. or refused: what stands behind the pair decides between 8 and 11
  pub collect_sum : (h : Outcome (Unit {0})) (r : Refusal) → h ≡ Err r → Err r ≡ address_sums ed s p.next → Collects ed s d h
  unfolding image
  collect_sum h r k q = rw k (go (fields_from ed s p.next) refl)
    where
      go : (o : Outcome (List Field)) → fields_from ed s p.next ≡ o → Collects ed s d (Err r)
      go (Ok rest) g = let z : Err r ≡ Ok tt = rw g at q in absurd (refused_given z)
      go (Err t) g =
          let z : Err r ≡ Err t = rw g at q in
          let y : t ≡ r = cc in
          let m = pair_more ed s i p e in
          let a : fields ed (length s) s ≡ Err t = sym (from_start ed s) ∙ run_from ed s i w.met 0 w.run ∙ rw (m.fields, g) refl in
          let b : image ed s ≡ Err t = rw a refl in
          record { is = b ∙ ap Err y }

  module _ (b : Bool) (q : b ≡ strange ed v p) where
    met_strange : (rest : List Field) → b ≡ true → fields_from ed s p.next ≡ Ok rest → image ed s ≡ Err Stranger
    unfolding image
    met_strange rest t g =
        let f : Field = field_of ed s p in
        let u : first_volume (w.met ++ (f ∷ rest)) ≡ v = first_volume_lem ed s i w.met rest w.first p w.opens w.run e ∙ sym w.volume in
        let h : any (is_stranger ed (first_volume (w.met ++ (f ∷ rest)))) (w.met ++ (f ∷ rest)) ≡ true = rw u (any_met (is_stranger ed v) w.met rest f (sym q ∙ t)) in
        rw (met_fields rest g, h) refl

    pub collect_stranger : (u : Unit {0}) → b ≡ true → Ok u ≡ address_sums ed s p.next → Collects ed s d (Err Stranger)
    collect_stranger u t q = go (fields_from ed s p.next) refl
      where
        go : (o : Outcome (List Field)) → fields_from ed s p.next ≡ o → Collects ed s d (Err Stranger)
        go (Ok rest) g = record { is = met_strange rest t g }
        go (Err r) g = let z : Ok u ≡ Err r = rw g at q in absurd (refused_given (sym z))

    -- a pair that is no stranger is on the disk
    pub track_in_lem : b ≡ false → p.track ≤ 34
    track_in_lem t = (known ed v p.volume p.track p.sector (sym q ∙ t)).1

    pub sector_in_lem : b ≡ false → p.sector < per_track ed
    sector_in_lem t = (known ed v p.volume p.track p.sector (sym q ∙ t)).2

    module _ (t : b ≡ false) (k : ℕ) (ek : k ≡ number_of ed p) where
      number_lt : k < 35 * per_track ed
      number_lt = let a = known ed v p.volume p.track p.sector (sym q ∙ t) in rw ek (number_below ed p.track (dos_sector ed p.sector) a.1 (dos_lt ed p.sector a.2))

      pub number_room : 256 * k + 256 ≤ length d
      number_room = omega (arith, number_lt, w.size, w.room)

      -- track and DOS sector of the number
      number_parts : (k / per_track ed ≡ p.track) × (k % per_track ed ≡ dos_sector ed p.sector)
      number_parts = let a = known ed v p.volume p.track p.sector (sym q ∙ t) in
          let l = dos_lt ed p.sector a.2 in
          rw ek (number_track ed p.track (dos_sector ed p.sector) l, number_sector ed p.track (dos_sector ed p.sector) l)

      -- the test for DOS sector j
      abbrev wants : ℕ → Field → Bool
      wants j f = eqb f.track (j / per_track ed) && eqb (dos_sector ed f.sector) (j % per_track ed)

      wants_this : true ≡ wants k (field_of ed s p)
      wants_this = let a = number_parts in rw (a.0, a.1, eq-eqb p.track p.track refl, eq-eqb (dos_sector ed p.sector) (dos_sector ed p.sector) refl) refl

      wants_other : (j : ℕ) → (j ≡ k → ⊥) → false ≡ wants j (field_of ed s p)
      wants_other j h =
          by_test (wants j (field_of ed s p))
          (λ u.
          let c = both_true (eqb p.track (j / per_track ed)) (eqb (dos_sector ed p.sector) (j % per_track ed)) u in
          let x : p.track ≡ j / per_track ed = eqb-true _ _ c.0 in
          let y : dos_sector ed p.sector ≡ j % per_track ed = eqb-true _ _ c.1 in
          absurd (h (sym (number_whole ed j) ∙ rw (← x, ← y) (sym ek))))
          (λ u. sym u)

      -- a pair of the same key came before exactly where its sector has a place
      came_before : any (same_key (field_of ed s p)) w.met ≡ not (eqb (get_or at k 0) 0)
      came_before =
          let a = number_parts in
          let f : Field = field_of ed s p in
          any_agree (same_key f) (wants k) (is_stranger ed v) (λ g h. key_agrees ed v f g (sym q ∙ t) h ∙ rw (← a.0, ← a.1) refl) w.met w.known_all
          ∙ any_place ed (wants k) s (get_or at k 0) w.met (w.placed_at k number_lt ∙ bytes_at_is ed (k / per_track ed) (k % per_track ed) w.met)

      -- the bytes of sector j, when those of p are put in at sector k
      held_turn : (a : ℕ) (o : List ℕ) → a ≡ first_place (get_or at k 0) true p.nibbles → o ≡ held_in ed s p (get_or at k 0) (256 * k) d
          → (length o ≡ length d) × ((j : ℕ) → j < 35 * per_track ed → (get_or (set at k a) j 0 ≡ 0 → ⊥) → take 256 (drop (256 * j) o) ≡ data_of ed (take (nibbles_of ed) (drop (get_or (set at k a) j 0) s)))
      unfolding held_in
      held_turn a o ea q =
          let hk : k < length at = omega (arith, number_lt, w.long, per_small ed) in
          by_test (eqb (get_or at k 0) 0)
          (λ z.
          let x : List ℕ = data_of ed (take (nibbles_of ed) (drop p.nibbles s)) in
          let lx : length x ≡ 256 = length_data ed (take (nibbles_of ed) (drop p.nibbles s)) in
          let e₁ : a ≡ p.nibbles = ea ∙ rw z refl in
          let e₂ : o ≡ put (256 * k) x d = q ∙ rw z refl in (
            (put_is {at = 256 * k} {x = x} {d = d} e₂ (omega (arith, number_room))).long,
            λ j h u. by_test (eqb j k)
                (λ y. let f : j ≡ k = eqb-true j k y in rw (f, get_or-set_same at k a 0 hk, e₁, e₂) (put_here (256 * k) 256 x d lx number_room))
                (λ y.
                let f : j ≡ k → ⊥ = λ r. clash (sym y ∙ eq-eqb j k r) in
                let g : get_or (set at k a) j 0 ≡ get_or at j 0 = get_or-set_other at k j a 0 f in
                let m : take 256 (drop (256 * j) (put (256 * k) x d)) ≡ take 256 (drop (256 * j) d) =
                by_lt j k (λ l. put_before (256 * k) 256 x d lx number_room (256 * j) (omega arith))
                (λ l. by_lt k j (λ m. put_behind (256 * k) 256 x d lx number_room (256 * j) (omega arith)) (λ m. absurd (f (omega arith)))) in
                rw (g, e₂, m) (w.held j h (rw g at u))),
          ))
          (λ z.
          let e₁ : a ≡ get_or at k 0 = ea ∙ rw z refl in
          let e₂ : o ≡ d = q ∙ rw z refl in (
            ap length e₂,
            λ j h u. by_test (eqb j k)
                (λ y.
                let f : j ≡ k = eqb-true j k y in
                let g : get_or (set at k a) j 0 ≡ get_or at j 0 = rw f (get_or-set_same at k a 0 hk ∙ e₁) in
                rw (g, e₂) (w.held j h (rw g at u)))
                (λ y.
                let f : j ≡ k → ⊥ = λ r. clash (sym y ∙ eq-eqb j k r) in
                let g : get_or (set at k a) j 0 ≡ get_or at j 0 = get_or-set_other at k j a 0 f in
                rw (g, e₂) (w.held j h (rw g at u))),
          ))

      pub collecting_turn : (g : Bool) (a : ℕ) (o : List ℕ) → g ≡ sum_counts ed s p (get_or at k 0) good → a ≡ first_place (get_or at k 0) true p.nibbles
          → o ≡ held_in ed s p (get_or at k 0) (256 * k) d → Collecting ed s v p.next g (set at k a) d₀ o
      collecting_turn g a o eg ea eo =
          let f : Field = field_of ed s p in
          let m = pair_more ed s i p e in
          let nz : p.nibbles ≡ 0 → ⊥ = λ z. omega (arith, m.behind_i) in
          let hk : k < length at = omega (arith, number_lt, w.long, per_small ed) in
          let turn : (j : ℕ) → j < 35 * per_track ed → (c : Bool) → c ≡ wants j f → sector_at ed s (first_place (get_or at j 0) c p.nibbles) ≡ bytes_at ed (j / per_track ed) (j % per_track ed) (w.met ++ (f ∷ [])) =
          λ j h c u. first_turn ed (wants j) s w.met (get_or at j 0) p c u nz (w.placed_at j h ∙ bytes_at_is ed (j / per_track ed) (j % per_track ed) w.met) ∙ sym (bytes_at_is ed (j / per_track ed) (j % per_track ed) (w.met ++ (f ∷ []))) in
          let y = held_turn a o ea eo in
          record {
            met = w.met ++ (f ∷ []);
            run = run_more ed s i p e w.met 0 w.run;
            first = w.first;
            opens = w.opens;
            volume = w.volume;
            known_all = any_none (is_stranger ed v) w.met f w.known_all (sym q ∙ t);
            sums = eg ∙ rw w.sums (sym (sums_turn ed f w.met ∙ rw came_before refl));
            long = length-set at k a ∙ w.long;
            placed_at = λ j h. by_test (eqb j k)
                (λ u. let x : j ≡ k = eqb-true j k u in rw (x, get_or-set_same at k a 0 hk, ea) (turn k number_lt true wants_this))
                (λ u. let x : j ≡ k → ⊥ = λ y. clash (sym u ∙ eq-eqb j k y) in
                rw (get_or-set_other at k j a 0 x) (ap (sector_at ed s) (sym (first_old (get_or at j 0) p.nibbles)) ∙ turn j h false (wants_other j x)));
            size = y.0 ∙ w.size;
            room = w.room;
            held = y.1;
          }

-- ---- the end of the scan
-- one sector that is absent, and no other refusal
each_absent : (f : ℕ → Outcome (List ℕ)) (h : ℕ → ℕ) (n : ℕ) → ((k : ℕ) → k < n → (f (h k) ≡ Err Absent) ⊎ ((d : List ℕ) × (f (h k) ≡ Ok d)))
    → (k : ℕ) → k < n → f (h k) ≡ Err Absent → each f (tab h n) ≡ Err Absent
unfolding tab
each_absent f h zero all k l e = absurd (omega arith)
each_absent f h (suc n) all zero l e = each_refuses f (h zero) (tab (λ j. h (suc j)) n) Absent e
each_absent f h (suc n) all (suc k) l e =
    ⊎_elim (λ r. each_refuses f (h zero) (tab (λ j. h (suc j)) n) Absent r)
    (λ g. each_on f (h zero) (tab (λ j. h (suc j)) n) g.0 g.1
    ∙ rw (each_absent f (λ j. h (suc j)) n (λ j i. all (suc j) (omega arith)) k (omega arith) e) refl)
    (all zero (omega arith))

module _ (ed : Edition) (s : List ℕ) (v i : ℕ) (good : Bool) (at d₀ d : List ℕ) (w : Collecting ed s v i good at d₀ d) (e : Ok None ≡ pair_from ed s i) where
  -- the sectors one after the other
  sectors_of : Outcome (List ℕ)
  sectors_of = each (λ k. bytes_at ed (k / per_track ed) (k % per_track ed) w.met) (below (35 * per_track ed)) >>= λ ss. Ok (flatten ss)

  volume_known : (xs : List Field) → Run ed s 0 i xs → any (is_stranger ed v) xs ≡ false → any (is_stranger ed (first_volume xs)) xs ≡ false
  unfolding any
  volume_known [] r k = refl
  volume_known (x ∷ xs) r k =
      let u : x.volume ≡ v = sym (ap (λ (y : Field). y.volume) r.2) ∙ ap (λ (y : FieldPair). y.volume) (same_pair r.1 w.opens) ∙ sym w.volume in
      ap (λ (n : ℕ). any (is_stranger ed n) (x ∷ xs)) u ∙ k

  image_end : image ed s ≡ cond good sectors_of (Err DataSum)
  unfolding image sectors_of
  image_end =
      rw (run_all ed s i w.met w.run (pair_end ed s i e), volume_known w.met w.run w.known_all, ← w.sums) (go good)
    where
      go : (b : Bool) → (require b DataSum >> each (λ k. bytes_at ed (k / per_track ed) (k % per_track ed) w.met) (below (35 * per_track ed)) >>= λ ss. Ok (flatten ss))
          ≡ cond b (each (λ k. bytes_at ed (k / per_track ed) (k % per_track ed) w.met) (below (35 * per_track ed)) >>= λ ss. Ok (flatten ss)) (Err DataSum)
      go true = refl
      go false = refl

  -- each sector is there or absent
  there : (k : ℕ) → k < 35 * per_track ed → (bytes_at ed (k / per_track ed) (k % per_track ed) w.met ≡ Err Absent) ⊎ ((d : List ℕ) × (bytes_at ed (k / per_track ed) (k % per_track ed) w.met ≡ Ok d))
  there k l =
      by_test (eqb (get_or at k 0) 0) (λ t. inl (sym (w.placed_at k l) ∙ sector_none ed s (get_or at k 0) t))
      (λ t. inr (data_of ed (take (nibbles_of ed) (drop (get_or at k 0) s)), sym (w.placed_at k l) ∙ sector_some ed s (get_or at k 0) t))

  absent_end : (k : ℕ) → k < 35 * per_track ed → get_or at k 0 ≡ 0 → sectors_of ≡ Err Absent
  unfolding sectors_of
  absent_end k l u =
      let a : bytes_at ed (k / per_track ed) (k % per_track ed) w.met ≡ Err Absent = sym (w.placed_at k l) ∙ sector_none ed s (get_or at k 0) (eq-eqb (get_or at k 0) 0 u) in
      rw (each_absent (λ k. bytes_at ed (k / per_track ed) (k % per_track ed) w.met) (λ k. k) (35 * per_track ed) there k l a) refl

  all_end : ((k : ℕ) → k < 35 * per_track ed → get_or at k 0 ≡ 0 → ⊥) → sectors_of ≡ Ok (take (256 * (35 * per_track ed)) d)
  unfolding sectors_of
  all_end n =
      each_joins (λ k. bytes_at ed (k / per_track ed) (k % per_track ed) w.met) (λ k. k) (35 * per_track ed) (take (256 * (35 * per_track ed)) d)
      (length-take-le (256 * (35 * per_track ed)) d (omega (arith, w.size, w.room)))
      (λ k l. sym (w.placed_at k l) ∙ sector_some ed s (get_or at k 0) (ne_eqb (get_or at k 0) 0 (n k l)) ∙ ap Ok (sym (sector_of_lem k l ∙ w.held k l (n k l))))
    where
      -- a sector of the front of d
      sector_of_lem : (k : ℕ) → k < 35 * per_track ed → take 256 (drop (256 * k) (take (256 * (35 * per_track ed)) d)) ≡ take 256 (drop (256 * k) d)
      sector_of_lem k l = ap (take 256) (drop_take (256 * k) (256 * (35 * per_track ed)) d) ∙ take-take 256 (256 * (35 * per_track ed) - 256 * k) (drop (256 * k) d) (omega arith)

  pub collect_end : (r : Outcome (Unit {0})) → Decides ed good at r → Collects ed s d r
  collect_end r (Steps.sum g q) =
      let o : image ed s ≡ Err DataSum = image_end ∙ ap (λ b. cond b sectors_of (Err DataSum)) g in
      rw q (record { is = o })
  collect_end r (Steps.absent g q k l u) =
      let o : image ed s ≡ Err Absent = image_end ∙ ap (λ b. cond b sectors_of (Err DataSum)) g ∙ absent_end k l u in
      rw q (record { is = o })
  collect_end r (Steps.all g q n) =
      let o : image ed s ≡ Ok (take (256 * (35 * per_track ed)) d) = image_end ∙ ap (λ b. cond b sectors_of (Err DataSum)) g ∙ all_end n in
      rw q (record { is = o })

-- no pair at all
pub collect_none : (ed : Edition) (s d : List ℕ) → Ok None ≡ pair_from ed s 0 → Collects ed s d (Err Absent)
unfolding image bytes_at firsts all any
collect_none ed s d e =
    let a : fields ed (length s) s ≡ Ok [] = sym (from_start ed s) ∙ pair_end ed s 0 e in
    let b : each (λ k. bytes_at ed (k / per_track ed) (k % per_track ed) []) (below (35 * per_track ed)) ≡ Err Absent =
    each_absent (λ k. bytes_at ed (k / per_track ed) (k % per_track ed) []) (λ k. k) (35 * per_track ed) (λ k l. inl refl) 0 (omega (arith, per_some ed)) refl in
    record { is = rw (a, b) refl }

pub ruleset collecting =
    (collecting_start, collect_first, collect_none, collect_bad, pair_fits, pair_less, collect_sum, collect_stranger, track_in_lem, sector_in_lem, number_room, collecting_turn, collect_end, rules)

-- ---- denibblize: room for either edition, and the returns
pub disk_room : (ed : Edition) (d : List ℕ) → length d ≡ 143360 → 256 * (35 * per_track ed) ≤ length d
disk_room ed d e = omega (arith, per_small ed)

module _ (ed : Edition) (s out d : List ℕ) where
  pub image_refused : (h : Outcome ℕ) (r : Refusal) → h ≡ Err r → Collects ed s d (Err r) → Hands (image ed s) out out h
  image_refused h r q w = hands_refused (image ed s) out r w.is h q

  module _ (u : Unit {0}) (w : Collects ed s d (Ok u)) (n : ℕ) (en : n ≡ per_track ed) (room : length d ≡ 143360) where
    -- the disk has its length
    front_long : length (take (256 * (35 * per_track ed)) d) ≡ 256 * (35 * n)
    front_long = rw (← en) (length-take-le (256 * (35 * n)) d (omega (arith, per_small ed)))

    pub image_short : length out < 256 * (35 * n) → Hands (image ed s) out out (Err TrayShort)
    image_short l = hands_short (image ed s) out (take (256 * (35 * per_track ed)) d) w.is (rw front_long l) (Err TrayShort) refl

    pub image_done : (after : List ℕ) → 256 * (35 * n) ≤ length out → after ≡ placed 0 (take (256 * (35 * n) - 0) (drop 0 d)) out
        → Hands (image ed s) out after (Ok (256 * (35 * n)))
    image_done after l q =
        let x : List ℕ = take (256 * (35 * per_track ed)) d in
        let f : 256 * (35 * n) - 0 ≡ 256 * (35 * per_track ed) = omega arith in
        let u : after ≡ placed 0 x out = q ∙ rw f refl in
        hands_over_lem (image ed s) out after x w.is (rw front_long l) (put_front (placed_put u (rw front_long (omega arith)))) (Ok (256 * (35 * n))) (rw front_long refl)

pub ruleset imaged = (disk_room, image_refused, image_short, image_done, rules)
