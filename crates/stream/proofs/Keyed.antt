-- `repeated`, `sums_right`, `first_place`, `verdict_of`, `locate`, `put_data` and `sector_of` over plain variables. Assumes nothing.
use mathlib.Core.Path.{◌≡◌, refl, sym, ap, ◌∙◌}
use mathlib.Core.Bool.{Bool, true, false, cond, ◌&&◌}
use mathlib.Core.List.{List, [], ◌∷◌, ◌++◌}
use Prim.Native.Nat.{ℕ, ◌+◌, ◌-◌, ◌≤◌, ◌<◌}
use native.Mathlib.Nat.{le_refl}
use native.Mathlib.Omega.{arith}
use borrow.Author.Rules.{rules}
use borrow.Author.Tests.{eq-eqb, ne_eqb}
use lib.Dec.{eqb}
use lib.ListN.{length, take, drop, length-drop}
use lib.Seq.{length-take-le}
use borrow.Rule.Slice.PartMut.{put_mid, mid_of}
use Rattle.lists.specs.Fill.{put, placed}
use Rattle.lists.specs.Select.{all, any}
use Rattle.lists.proofs.Put.{put_is, put_front, put_part, placed_put}
use Rattle.lists.proofs.Split.{by_test, clash}
use Rattle.std.specs.Prelude.{Ok, Err}
use Rattle.std.specs.Prelude.{Some, None}
use Rattle.outcome.specs.declared.Refusal.{Refusal}
use Rattle.outcome.specs.declared.Refusal.TheVariants.{AddressSum, DataSum, Absent, TrayShort}
use Rattle.outcome.specs.Outcome.{Outcome, ◌>>◌, require, Hands}
use Rattle.outcome.proofs.Outcome.{refused_given, hands_refused, hands_short, hands_over_lem}
use Rattle.nibble.specs.Nibble.{decode}
use Rattle.nibble.specs.FiveThree.{decode53}
use Rattle.fields.specs.declared.Edition.{Edition}
use Rattle.fields.specs.declared.Edition.TheVariants.{Sixteen, Thirteen}
use Rattle.fields.specs.declared.FieldPair.{FieldPair}
use Rattle.fields.specs.Editions.{nibbles_of, sum_of, data_of}
use Rattle.fields.specs.Fields.{Field}
use Rattle.fields.specs.Scan.{pair_from, field_of, Run}
use Rattle.fields.proofs.Fields.{none_some, same_pair, pair_refused, pair_end, pair_more, pair_fits, pair_less, run_more, run_all, run_bad, run_le}
use Rattle.stream.specs.Stream.{same_key, firsts, sums_ok, of_key, sector_of}
use Rattle.stream.specs.Steps.{Repeats, Judges, sector_at, first_place, keyed, verdict, Locates}
use Rattle.stream.proofs.Sizes.{length_data}
use Rattle.stream.proofs.Numbers.{part_fits, sum_16, sum_13}
use Rattle.stream.proofs.Firsts.{or_true, or_false, of_key_is, sector_none, sector_some, first_turn, sums_turn}

-- ---- first_place and verdict_of
module _ (at n : ℕ) (b : Bool) where
  pub place_new : at ≡ 0 → b ≡ true → n ≡ first_place at b n
  place_new z e = rw (eq-eqb at 0 z, e) refl

  pub place_no : at ≡ 0 → b ≡ false → 0 ≡ first_place at b n
  place_no z e = rw (eq-eqb at 0 z, e) refl

  pub place_old : (at ≡ 0 → ⊥) → at ≡ first_place at b n
  place_old z = rw (ne_eqb at 0 z) refl

module _ (good : Bool) (at : ℕ) where
  pub verdict_absent : good ≡ true → at ≡ 0 → Err Absent ≡ verdict good at
  verdict_absent g z = rw (g, eq-eqb at 0 z) refl

  pub verdict_found : good ≡ true → (at ≡ 0 → ⊥) → Ok at ≡ verdict good at
  verdict_found g z = rw (g, ne_eqb at 0 z) refl

  pub verdict_sum : good ≡ false → Err DataSum ≡ verdict good at
  verdict_sum g = rw g refl

pub ruleset verdicts = (place_new, place_no, place_old, verdict_absent, verdict_found, verdict_sum, rules)

-- ---- repeated: among the pairs before e the key is found exactly where it is among those from i on
pub record Left (ed : Edition) (s : List ℕ) (e : ℕ) (p : FieldPair) (i : ℕ) : Type 0 where
  pub is : (xs : List Field) → Run ed s 0 e xs → (ys : List Field) × Run ed s i e ys × (any (same_key (field_of ed s p)) xs ≡ any (same_key (field_of ed s p)) ys)

module _ (ed : Edition) (s : List ℕ) (e : ℕ) (p : FieldPair) where
  pub left_start : Left ed s e p 0
  left_start = record { is = λ xs r. (xs, r, refl) }

  module _ (i : ℕ) (l : Left ed s e p i) where
    left_none : i < e → ((q : FieldPair) → Ok (Some q) ≡ pair_from ed s i → ⊥) → Repeats ed s e p false
    left_none h n = record { is = λ xs r. let w = l.is xs r in go w.0 w.1 }
      where
        go : {b : Bool} (ys : List Field) → Run ed s i e ys → false ≡ b
        go [] r = absurd (omega arith)
        go (y ∷ ys) r = absurd (n r.0 r.1)

    pub left_refused : (r : Refusal) → i < e → Err r ≡ pair_from ed s i → Repeats ed s e p false
    left_refused r h q = left_none h (λ x k. refused_given (q ∙ sym k))

    pub left_missing : i < e → Ok None ≡ pair_from ed s i → Repeats ed s e p false
    left_missing h q = left_none h (λ x k. none_some (q ∙ sym k))

    pub left_hit : (q : FieldPair) (b : Bool) → i < e → Ok (Some q) ≡ pair_from ed s i → b ≡ keyed q.volume q.track q.sector p → b ≡ true → Repeats ed s e p true
    unfolding any
    left_hit q b h eq k t = record { is = λ xs r. let w = l.is xs r in sym (w.2 ∙ go w.0 w.1) }
      where
        go : (ys : List Field) → Run ed s i e ys → any (same_key (field_of ed s p)) ys ≡ true
        go [] r = absurd (omega arith)
        go (y ∷ ys) r =
            let u : same_key (field_of ed s p) y ≡ true = rw (← r.2, same_pair r.1 eq, ← k) t in
            rw u refl

    pub left_turn : (q : FieldPair) (b : Bool) → i < e → Ok (Some q) ≡ pair_from ed s i → b ≡ keyed q.volume q.track q.sector p → b ≡ false → Left ed s e p q.next
    unfolding any
    left_turn q b h eq k t = record { is = λ xs r. let w = l.is xs r in go xs w.0 w.1 w.2 }
      where
        go : (xs ys : List Field) → Run ed s i e ys → any (same_key (field_of ed s p)) xs ≡ any (same_key (field_of ed s p)) ys
            → (ys : List Field) × Run ed s q.next e ys × (any (same_key (field_of ed s p)) xs ≡ any (same_key (field_of ed s p)) ys)
        go xs [] r a = absurd (omega arith)
        go xs (y ∷ ys) r a =
            let z = same_pair r.1 eq in
            let u : same_key (field_of ed s p) y ≡ false = rw (← r.2, z, ← k) t in
            (ys, rw z at r.3, a ∙ rw u refl)

    pub left_less : (q : FieldPair) → i < e → Ok (Some q) ≡ pair_from ed s i → e - q.next < e - i
    left_less q h eq = let m = pair_more ed s i q eq in omega (arith, m.behind_i, m.size)

    pub left_end : e ≤ i → Repeats ed s e p false
    unfolding any
    left_end h = record { is = λ xs r. let w = l.is xs r in sym (w.2 ∙ go w.0 w.1) }
      where
        go : (ys : List Field) → Run ed s i e ys → any (same_key (field_of ed s p)) ys ≡ false
        go [] r = refl
        go (y ∷ ys) r =
            let m = pair_more ed s i r.0 r.1 in
            absurd (omega (arith, m.behind_i, m.size, run_le ed s e ys r.0.next r.3))

pub ruleset repeats = (left_start, left_refused, left_missing, left_hit, left_turn, left_less, left_end, rules)

-- ---- sums_right
module _ (ed : Edition) (s : List ℕ) (e : ℕ) (p : FieldPair) (good : Bool) where
  pub judge_bad : good ≡ false → Judges ed s e p good false
  judge_bad g = record { is = λ xs r. rw g refl }

  pub judge_right : (r : ℕ) → good ≡ true → r ≡ sum_of ed (take (nibbles_of ed) (drop p.nibbles s)) → r ≡ 0 → Judges ed s e p good true
  judge_right r g q z =
      record { is = λ xs w. sym (rw (g, ← q, eq-eqb r 0 z) (or_true (any (same_key (field_of ed s p)) xs))) }

  pub judge_wrong : (r : ℕ) (b : Bool) → good ≡ true → r ≡ sum_of ed (take (nibbles_of ed) (drop p.nibbles s)) → (r ≡ 0 → ⊥)
      → Repeats ed s e p b → Judges ed s e p good b
  judge_wrong r b g q z k =
      record { is = λ xs w. k.is xs w ∙ sym (rw (g, ← q, ne_eqb r 0 z) (or_false (any (same_key (field_of ed s p)) xs))) }

pub ruleset judges = (judge_bad, judge_right, judge_wrong, rules)

-- ---- locate: the pairs up to place i are met
pub record Looking (ed : Edition) (s : List ℕ) (v t n : ℕ) (i : ℕ) (good : Bool) (at : ℕ) : Type 0 where
  pub met : List Field
  pub run : Run ed s 0 i met
  pub sums : good ≡ sums_ok ed (firsts [] met)
  pub key : sector_at ed s at ≡ of_key ed v t n met
  pub within : (at ≡ 0 → ⊥) → at + (nibbles_of ed + 3) ≤ length s

place_within : (ed : Edition) (s : List ℕ) (at m : ℕ) (b : Bool) → m + (nibbles_of ed + 3) ≤ length s → ((at ≡ 0 → ⊥) → at + (nibbles_of ed + 3) ≤ length s)
    → (first_place at b m ≡ 0 → ⊥) → first_place at b m + (nibbles_of ed + 3) ≤ length s
place_within ed s at m b l w n =
    by_test (eqb at 0)
    (λ t. go b (let q : first_place at b m ≡ cond b m 0 = rw t refl in q) n)
    (λ t. let q : first_place at b m ≡ at = rw t refl in rw q (w (λ z. n (q ∙ z))))
  where
    go : (c : Bool) → first_place at b m ≡ cond c m 0 → (first_place at b m ≡ 0 → ⊥) → first_place at b m + (nibbles_of ed + 3) ≤ length s
    go true q k = rw q l
    go false q k = absurd (k q)

module _ (ed : Edition) (s : List ℕ) (v t n : ℕ) where
  pub looking_start : Looking ed s v t n 0 true 0
  unfolding of_key sector_at firsts all
  looking_start = record { met = []; run = refl; sums = refl; key = refl; within = λ z. absurd (z refl) }

  module _ (i : ℕ) (good : Bool) (at : ℕ) (w : Looking ed s v t n i good at) where
    pub looking_turn : (p : FieldPair) (g b : Bool) (a : ℕ) → Ok (Some p) ≡ pair_from ed s i → Judges ed s i p good g → b ≡ keyed v t n p → a ≡ first_place at b p.nibbles
        → Looking ed s v t n p.next g a
    looking_turn p g b a e j k q =
        let m = pair_more ed s i p e in
        let f : Field = field_of ed s p in
        let z : p.nibbles ≡ 0 → ⊥ = λ z. omega (arith, m.behind_i) in
        let u : sector_at ed s (first_place at b p.nibbles) ≡ of_key ed v t n (w.met ++ (f ∷ [])) =
        first_turn ed (λ f. eqb f.volume v && (eqb f.track t && eqb f.sector n)) s w.met at p b k z (w.key ∙ of_key_is ed v t n w.met)
        ∙ sym (of_key_is ed v t n (w.met ++ (f ∷ []))) in
        record {
          met = w.met ++ (f ∷ []);
          run = run_more ed s i p e w.met 0 w.run;
          sums = j.is w.met w.run ∙ rw w.sums (sym (sums_turn ed f w.met));
          key = rw q u;
          within = rw q (place_within ed s at p.nibbles b (pair_fits ed s i p e) w.within);
        }

    pub looking_bad : (h : Outcome ℕ) (r : Refusal) → h ≡ Err r → Err r ≡ pair_from ed s i → Locates ed s (sector_of ed v t n s) h
    unfolding sector_of
    looking_bad h r q e =
        let b = pair_refused ed s i r e in
        let o : sector_of ed v t n s ≡ Err AddressSum = rw (run_bad ed s i w.met w.run b.1) refl in
        rw (q, b.0) (record { is = o; within = λ a z. absurd (refused_given z) })

    -- the answer at the end
    looking_is : Ok None ≡ pair_from ed s i → sector_of ed v t n s ≡ cond good (sector_at ed s at) (Err DataSum)
    unfolding sector_of
    looking_is e =
        rw (run_all ed s i w.met w.run (pair_end ed s i e), ← w.sums, ← w.key) (go good)
      where
        go : (b : Bool) → (require b DataSum >> sector_at ed s at) ≡ cond b (sector_at ed s at) (Err DataSum)
        go true = refl
        go false = refl

    pub looking_end : (r : Outcome ℕ) → Ok None ≡ pair_from ed s i → r ≡ verdict good at → Locates ed s (sector_of ed v t n s) r
    looking_end r e q = go good refl
      where
        go : (b : Bool) → good ≡ b → Locates ed s (sector_of ed v t n s) r
        go false g =
            let o : sector_of ed v t n s ≡ Err DataSum = looking_is e ∙ rw g refl in
            let y : r ≡ Err DataSum = q ∙ rw g refl in
            rw y (record { is = o; within = λ a z. absurd (refused_given z) })
        go true g = by_test (eqb at 0)
            (λ b.
            let o : sector_of ed v t n s ≡ Err Absent = looking_is e ∙ rw g (sector_none ed s at b) in
            let y : r ≡ Err Absent = q ∙ rw (g, b) refl in
            rw y (record { is = o; within = λ a z. absurd (refused_given z) }))
            (λ b.
            let o : sector_of ed v t n s ≡ Ok (data_of ed (take (nibbles_of ed) (drop at s))) = looking_is e ∙ rw g (sector_some ed s at b) in
            let y : r ≡ Ok at = q ∙ rw (g, b) refl in
            let l : at + (nibbles_of ed + 3) ≤ length s = w.within (λ k. clash (sym b ∙ eq-eqb at 0 k)) in
            rw y (record { is = o; within = λ a z. let u : at ≡ a = cc in rw (← u) l }))

pub ruleset looking = (looking_start, pair_fits, looking_turn, looking_bad, looking_end, pair_less, rules)

-- ---- put_data: the bytes of a data field, put to the front of the part of o from place `at` on
module _ (ed : Edition) (s o y : List ℕ) (a n at : ℕ) (k : n ≡ nibbles_of ed) (room : at + 256 ≤ length o) where
  -- where f is the edition's decoder
  put_by : (f : List ℕ → List ℕ) → ((ns : List ℕ) → f ns ≡ data_of ed ns) → y ≡ placed 0 (f (take (a + n - a) (drop a s))) (mid_of at (length o - at) o)
      → put_mid at (length o - at) o y ≡ put at (data_of ed (take (nibbles_of ed) (drop a s))) o
  put_by f same q =
      let x : List ℕ = data_of ed (take (nibbles_of ed) (drop a s)) in
      let m : ℕ = length o - at in
      let l : a + n - a ≡ nibbles_of ed = omega arith in
      let u : f (take (a + n - a) (drop a s)) ≡ x = rw l (same (take (nibbles_of ed) (drop a s))) in
      let lx : length x ≡ 256 = length_data ed (take (nibbles_of ed) (drop a s)) in
      let lm : length (mid_of at m o) ≡ m = length-take-le m (drop at o) (rw length-drop (le_refl m)) in
      let e : y ≡ placed 0 x (mid_of at m o) = q ∙ ap (λ (w : List ℕ). placed 0 w (mid_of at m o)) u in
      (put_part {i = at} at m (placed_put e (omega arith)) (omega arith) (omega arith) (omega arith)).is

  pub put_16 : ed ≡ Sixteen → y ≡ placed 0 (decode (take (a + n - a) (drop a s))) (mid_of at (length o - at) o)
      → put_mid at (length o - at) o y ≡ put at (data_of ed (take (nibbles_of ed) (drop a s))) o
  unfolding data_of
  put_16 e q = put_by decode (λ ns. rw e refl) q

  pub put_13 : ed ≡ Thirteen → y ≡ placed 0 (decode53 (take (a + n - a) (drop a s))) (mid_of at (length o - at) o)
      → put_mid at (length o - at) o y ≡ put at (data_of ed (take (nibbles_of ed) (drop a s))) o
  unfolding data_of
  put_13 e q = put_by decode53 (λ ns. rw e refl) q

pub ruleset datas = (put_16, put_13, sum_16, sum_13, part_fits, rules)

-- ---- the returns of sector_of
module _ (ed : Edition) (s out : List ℕ) (o : Outcome (List ℕ)) where
  pub sector_refused : (h : Outcome ℕ) (r : Refusal) → h ≡ Err r → Locates ed s o (Err r) → Hands o out out h
  sector_refused h r q w = hands_refused o out r w.is h q

  module _ (a : ℕ) (w : Locates ed s o (Ok a)) where
    pub sector_short : length out < 256 → Hands o out out (Err TrayShort)
    sector_short l = hands_short o out (data_of ed (take (nibbles_of ed) (drop a s))) w.is (rw (length_data ed (take (nibbles_of ed) (drop a s))) l) (Err TrayShort) refl

    pub sector_fits : a + (nibbles_of ed + 3) ≤ length s
    sector_fits = w.within a refl

    pub sector_done : (after : List ℕ) → 256 ≤ length out → after ≡ put 0 (data_of ed (take (nibbles_of ed) (drop a s))) out → Hands o out after (Ok 256)
    sector_done after room q =
        let b : List ℕ = data_of ed (take (nibbles_of ed) (drop a s)) in
        let l : length b ≡ 256 = length_data ed (take (nibbles_of ed) (drop a s)) in
        hands_over_lem o out after b w.is (rw l room) (put_front (put_is q (omega arith))) (Ok 256) (rw l refl)

pub ruleset sectored = (sector_refused, sector_short, sector_fits, sector_done, rules)
