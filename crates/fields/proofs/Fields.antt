-- The fields of a stream from a place on, by the pair that code finds there. Assumes nothing.
use mathlib.Core.Path.{◌≡◌, refl, sym, ap, subst, ◌∙◌}
use mathlib.Core.Bool.{true, false, ◌&&◌}
use mathlib.Core.List.{List, [], ◌∷◌, ◌++◌, append-nil}
use Rattle.std.specs.Prelude.{Option, Some, None}
use Prim.Native.Nat.{ℕ, suc, ◌+◌, ◌-◌, ◌≤◌, ◌<◌}
use native.Mathlib.Omega.{arith}
use borrow.Author.Tests.{eq-eqb, lt-ltb, le-ltb, eqb-true}
use lib.Bits.{bit_xor}
use lib.Dec.{eqb}
use lib.ListN.{length, get_or, take, drop, length-drop, get_or-eq_default}
use lib.Seq.{drop-drop}
use Rattle.lists.proofs.Split.{by_lt, by_test, both_true, clash}
use Rattle.std.specs.Prelude.{Ok, Err}
use Rattle.outcome.specs.declared.Refusal.{Refusal}
use Rattle.outcome.specs.declared.Refusal.TheVariants.{AddressSum}
use Rattle.outcome.specs.Outcome.{Outcome, ◌>>=◌}
use Rattle.fields.specs.declared.Edition.{Edition}
use Rattle.fields.specs.Editions.{mark_of, nibbles_of}
use Rattle.fields.specs.Fields.{after, Field, fields, from_data, from_address}
use Rattle.fields.specs.declared.AddressField.{AddressField}
use Rattle.fields.specs.Scan.{byte_at4, place_after, address_from, pair_from, fields_from, field_of, Run}
use Rattle.fields.specs.declared.FieldPair.{FieldPair}
use Rattle.fields.proofs.Numbers.{mark_some}
use Rattle.fields.proofs.Scanning.{field, behind, fields_fuel}
use Rattle.outcome.proofs.Outcome.{refused_given}
use Rattle.fields.proofs.Scan.{no_mark, cut_off, bad_sum, address_is, no_data, data_cut, data_is, pair_bad, pair_none, pair_cut, pair_is}

-- all of them
pub from_start : (ed : Edition) (s : List ℕ) → fields_from ed s 0 ≡ fields ed (length s) s
unfolding fields_from
from_start ed s = refl

step : (ed : Edition) (s : List ℕ) (i : ℕ) → fields_from ed s i ≡ from_address ed (fields ed (length s)) (after (mark_of ed) (drop i s))
unfolding fields_from fields
step ed s i = fields_fuel ed (length s) (suc (length s)) (drop i s) (rw (length-drop i s) (omega arith)) (rw (length-drop i s) (omega arith))

-- ---- the place after a mark
-- what stands after a mark is an end of the list
suffix : (c : ℕ) → 0 < c → (l r : List ℕ) → after c l ≡ Some r → (n : ℕ) × (0 < n) × (n ≤ length l) × (r ≡ drop n l)
unfolding after
suffix c p [] r e = let z : ◌≡◌ {A = ℕ} 0 1 = cc in absurd (omega arith)
suffix c p (x ∷ l) r e =
    by_test (eqb x 0xD5 && (eqb (get_or l 0 0) 0xAA && eqb (get_or l 1 0) c))
    (λ t.
    let q = both_true (eqb (get_or l 0 0) 0xAA) _ (both_true (eqb x 0xD5) _ t).1 in
    let z : get_or l 1 0 ≡ c = eqb-true _ _ q.1 in
    let w : Some (drop 2 l) ≡ Some r = rw t at e in
    let m : 1 < length l = by_lt 1 (length l) (λ k. k) (λ k. absurd (omega (arith, z, get_or-eq_default l 0 {n = 1} k))) in
    (3, omega arith, omega arith, cc))
    (λ t.
    let w : after c l ≡ Some r = rw t at e in
    let b = suffix c p l r w in
    (suc b.0, omega arith, omega (arith, b.2), b.3))

place_is : (c : ℕ) (s : List ℕ) (i : ℕ) (r : List ℕ) → after c (drop i s) ≡ Some r → place_after c s i ≡ Some (length s - length r)
unfolding place_after
place_is c s i r e = rw e refl

-- the place is behind i and in the stream
pub found : (c : ℕ) (s : List ℕ) (i : ℕ) (r : List ℕ) → 0 < c → after c (drop i s) ≡ Some r
    → (j : ℕ) × (Some j ≡ place_after c s i) × (i < j) × (j ≤ length s) × (r ≡ drop j s)
found c s i r p e =
    let b = suffix c p (drop i s) r e in
    let n : ℕ = b.0 in
    let l : length (drop i s) ≡ length s - i = length-drop i s in
    let q : r ≡ drop (i + n) s = b.3 ∙ drop-drop n i s in
    let m : i + n ≤ length s = omega (arith, b.1, b.2) in
    let k : length r ≡ length s - (i + n) = ap length q ∙ length-drop (i + n) s in
    let u : length s - length r ≡ i + n = omega arith in
    (i + n, sym (place_is c s i r e ∙ ap Some u), omega (arith, b.1), m, q)

-- none, and no place
missing : (c : ℕ) (s : List ℕ) (i : ℕ) → after c (drop i s) ≡ None → None ≡ place_after c s i
unfolding place_after
missing c s i e = rw e refl

-- ---- what a pair says of the fields
-- where it stands, and what follows
pub record More (ed : Edition) (s : List ℕ) (i : ℕ) (p : FieldPair) : Type 0 where
  pub behind_i : i < p.nibbles
  pub size : p.nibbles + (nibbles_of ed + 3) ≡ p.next
  pub within : p.next ≤ length s
  pub fields : fields_from ed s i ≡ behind (field_of ed s p) (fields_from ed s p.next)

-- ---- the three ways in which a step goes
pub data Step (ed : Edition) (s : List ℕ) (i : ℕ) : Type 0 where
  bad : Err AddressSum ≡ pair_from ed s i → fields_from ed s i ≡ Err AddressSum → Step ed s i
  end : Ok None ≡ pair_from ed s i → fields_from ed s i ≡ Ok [] → Step ed s i
  more : (p : FieldPair) → Ok (Some p) ≡ pair_from ed s i → More ed s i p → Step ed s i

-- the list side
from_none : (ed : Edition) (s : List ℕ) (i : ℕ) → after (mark_of ed) (drop i s) ≡ None → fields_from ed s i ≡ Ok []
unfolding from_address
from_none ed s i e = step ed s i ∙ rw e refl

module _ (ed : Edition) (s : List ℕ) (i j : ℕ) (e : after (mark_of ed) (drop i s) ≡ Some (drop j s)) where
  from_short : length s - j < 11 → fields_from ed s i ≡ Ok []
  unfolding from_address
  from_short h = step ed s i ∙ rw (e, lt-ltb (length (drop j s)) 11 (rw (length-drop j s) h)) refl

  module _ (h : 11 ≤ length s - j) where
    from_bad : eqb (byte_at4 s j 3) (bit_xor (bit_xor (byte_at4 s j 0) (byte_at4 s j 1)) (byte_at4 s j 2)) ≡ false → fields_from ed s i ≡ Err AddressSum
    unfolding from_address byte_at4
    from_bad t = step ed s i ∙ rw (e, le-ltb (length (drop j s)) 11 (rw (length-drop j s) h), t) refl

    module _ (t : eqb (byte_at4 s j 3) (bit_xor (bit_xor (byte_at4 s j 0) (byte_at4 s j 1)) (byte_at4 s j 2)) ≡ true) where
      from_good : fields_from ed s i ≡ from_data ed (fields ed (length s)) (drop j s) (after 0xAD (drop (j + 11) s))
      unfolding from_address byte_at4
      from_good = step ed s i ∙ rw (e, le-ltb (length (drop j s)) 11 (rw (length-drop j s) h), t, drop-drop 11 j s) refl

      from_alone : after 0xAD (drop (j + 11) s) ≡ None → fields_from ed s i ≡ Ok []
      unfolding from_data
      from_alone q = from_good ∙ rw q refl

      module _ (m : ℕ) (q : after 0xAD (drop (j + 11) s) ≡ Some (drop m s)) where
        from_cut : length s - m < (nibbles_of ed + 3) → fields_from ed s i ≡ Ok []
        unfolding from_data
        from_cut l = from_good ∙ rw (q, lt-ltb (length (drop m s)) (nibbles_of ed + 3) (rw (length-drop m s) l)) refl

        from_pair : (nibbles_of ed + 3) ≤ length s - m
            → fields_from ed s i ≡ behind (field (byte_at4 s j 0) (byte_at4 s j 1) (byte_at4 s j 2) (take (nibbles_of ed) (drop m s))) (fields_from ed s (m + (nibbles_of ed + 3)))
        unfolding from_data fields_from byte_at4
        from_pair l = from_good ∙ rw (q, le-ltb (length (drop m s)) (nibbles_of ed + 3) (rw (length-drop m s) l), drop-drop (nibbles_of ed + 3) m s) refl

-- the step behind a right address
module _ (ed : Edition) (s : List ℕ) (i j : ℕ) (e : after (mark_of ed) (drop i s) ≡ Some (drop j s)) (ej : Some j ≡ place_after (mark_of ed) s i) (lt : i < j)
    (h : 11 ≤ length s - j) (t : eqb (byte_at4 s j 3) (bit_xor (bit_xor (byte_at4 s j 0) (byte_at4 s j 1)) (byte_at4 s j 2)) ≡ true) where
  address : AddressField
  address = record { volume = byte_at4 s j 0; track = byte_at4 s j 1; sector = byte_at4 s j 2; next = j + 11 }

  address_found : Ok (Some address) ≡ address_from ed s i
  unfolding address
  address_found = address_is ed s i j ej h (byte_at4 s j 0) (byte_at4 s j 1) (byte_at4 s j 2) (byte_at4 s j 3) refl refl refl refl (eqb-true _ _ t)

  step_data : (o : Option (List ℕ)) → after 0xAD (drop (j + 11) s) ≡ o → Step ed s i
  unfolding address
  step_data None q = end (pair_cut ed s i address address_found (no_data ed s (j + 11) (missing 0xAD s (j + 11) q))) (from_alone ed s i j e h t q)
  step_data (Some r) q =
      let f = found 0xAD s (j + 11) r (omega arith) q in
      let m : ℕ = f.0 in
      let w : after 0xAD (drop (j + 11) s) ≡ Some (drop m s) = q ∙ ap Some f.4 in
      by_lt (length s - m) (nibbles_of ed + 3)
      (λ l. end (pair_cut ed s i address address_found (data_cut ed s (j + 11) m f.1 (nibbles_of ed) refl l)) (from_cut ed s i j e h t m w l))
      (λ l. more _ (pair_is ed s i address address_found _ (data_is ed s (j + 11) m f.1 (nibbles_of ed) refl l))
      (record { behind_i = omega (arith, f.2); size = refl; within = omega (arith, f.3); fields = from_pair ed s i j e h t m w l }))

pub step_of : (ed : Edition) (s : List ℕ) (i : ℕ) → Step ed s i
step_of ed s i = go (after (mark_of ed) (drop i s)) refl
  where
    go : (o : Option (List ℕ)) → after (mark_of ed) (drop i s) ≡ o → Step ed s i
    go None e = end (pair_none ed s i (no_mark ed s i (missing (mark_of ed) s i e))) (from_none ed s i e)
    go (Some r) e =
        let f = found (mark_of ed) s i r (mark_some ed) e in
        let j : ℕ = f.0 in
        let w : after (mark_of ed) (drop i s) ≡ Some (drop j s) = e ∙ ap Some f.4 in
        by_lt (length s - j) 11
        (λ l. end (pair_none ed s i (cut_off ed s i j f.1 l)) (from_short ed s i j w l))
        (λ l. by_test (eqb (byte_at4 s j 3) (bit_xor (bit_xor (byte_at4 s j 0) (byte_at4 s j 1)) (byte_at4 s j 2)))
        (λ t. step_data ed s i j w f.1 f.2 l t (after 0xAD (drop (j + 11) s)) refl)
        (λ t. bad
        (pair_bad ed s i AddressSum (bad_sum ed s i j f.1 l (byte_at4 s j 0) (byte_at4 s j 1) (byte_at4 s j 2) (byte_at4 s j 3) refl refl refl refl
        (λ u. clash (sym t ∙ eq-eqb _ _ u))))
        (from_bad ed s i j w l t)))

-- no pair is none, and there is one at most
pub none_some : {A : Type 0} {x : A} → ◌≡◌ {A = Outcome (Option A)} (Ok None) (Ok (Some x)) → ⊥
none_some e = let z : ◌≡◌ {A = ℕ} 0 1 = cc in omega arith

pub same_pair : {p q : FieldPair} {o : Outcome (Option FieldPair)} → Ok (Some p) ≡ o → Ok (Some q) ≡ o → p ≡ q
same_pair {p} {q} e f = let z : ◌≡◌ {A = Outcome (Option FieldPair)} (Ok (Some p)) (Ok (Some q)) = e ∙ sym f in cc

module _ (ed : Edition) (s : List ℕ) (i : ℕ) where
  -- 8
  pub pair_refused : (r : Refusal) → Err r ≡ pair_from ed s i → (r ≡ AddressSum) × (fields_from ed s i ≡ Err AddressSum)
  pair_refused r e = go (step_of ed s i)
    where
      go : Step ed s i → (r ≡ AddressSum) × (fields_from ed s i ≡ Err AddressSum)
      go (bad q f) = (cc, f)
      go (end q f) = absurd (refused_given (e ∙ sym q))
      go (more u q m) = absurd (refused_given (e ∙ sym q))

  -- no pair
  pub pair_end : Ok None ≡ pair_from ed s i → fields_from ed s i ≡ Ok []
  pair_end e = go (step_of ed s i)
    where
      go : Step ed s i → fields_from ed s i ≡ Ok []
      go (bad q f) = absurd (refused_given (q ∙ sym e))
      go (end q f) = f
      go (more u q m) = absurd (none_some (e ∙ sym q))

  module _ (p : FieldPair) (e : Ok (Some p) ≡ pair_from ed s i) where
    pub pair_more : More ed s i p
    pair_more = go (step_of ed s i)
      where
        go : Step ed s i → More ed s i p
        go (bad q f) = absurd (refused_given (q ∙ sym e))
        go (end q f) = absurd (none_some (q ∙ sym e))
        go (more u q m) = let z : u ≡ p = cc in subst (More ed s i) z m

    -- its nibbles are in the stream
    pub pair_fits : p.nibbles + (nibbles_of ed + 3) ≤ length s
    pair_fits = omega (arith, pair_more.size, pair_more.within)

    -- the scan goes forward
    pub pair_less : length s - p.next < length s - i
    pair_less = omega (arith, pair_more.behind_i, pair_more.size, pair_more.within)

-- ---- runs
-- one pair more
pub run_more : (ed : Edition) (s : List ℕ) (e : ℕ) (p : FieldPair) → Ok (Some p) ≡ pair_from ed s e → (xs : List Field) (i : ℕ) → Run ed s i e xs → Run ed s i p.next (xs ++ (field_of ed s p ∷ []))
run_more ed s e p q [] i r = (p, q ∙ ap (pair_from ed s) (sym r), refl, refl)
run_more ed s e p q (x ∷ xs) i r = (r.0, r.1, r.2, run_more ed s e p q xs r.0.next r.3)

-- what a run leaves
pub run_from : (ed : Edition) (s : List ℕ) (e : ℕ) (xs : List Field) (i : ℕ) → Run ed s i e xs → fields_from ed s i ≡ (fields_from ed s e >>= λ fs. Ok (xs ++ fs))
run_from ed s e [] i r = rw r (go (fields_from ed s e))
  where
    go : (o : Outcome (List Field)) → o ≡ (o >>= λ fs. Ok fs)
    go (Err q) = refl
    go (Ok fs) = refl
run_from ed s e (x ∷ xs) i r =
    let m = pair_more ed s i r.0 r.1 in
    m.fields ∙ rw (r.2, run_from ed s e xs r.0.next r.3) (go (fields_from ed s e))
  where
    go : (o : Outcome (List Field)) → ((o >>= λ fs. Ok (xs ++ fs)) >>= λ fs. Ok (x ∷ fs)) ≡ (o >>= λ fs. Ok (x ∷ (xs ++ fs)))
    go (Err q) = refl
    go (Ok fs) = refl

-- a run that ends the stream is all of its fields, ..
pub run_all : (ed : Edition) (s : List ℕ) (e : ℕ) (xs : List Field) → Run ed s 0 e xs → fields_from ed s e ≡ Ok [] → fields ed (length s) s ≡ Ok xs
run_all ed s e xs r q = sym (from_start ed s) ∙ run_from ed s e xs 0 r ∙ rw (q, append-nil xs) refl

-- .. and one that meets a wrong sum is refused
pub run_bad : (ed : Edition) (s : List ℕ) (e : ℕ) (xs : List Field) → Run ed s 0 e xs → fields_from ed s e ≡ Err AddressSum → fields ed (length s) s ≡ Err AddressSum
run_bad ed s e xs r q = sym (from_start ed s) ∙ run_from ed s e xs 0 r ∙ rw q refl

-- a run goes forward
pub run_le : (ed : Edition) (s : List ℕ) (e : ℕ) (xs : List Field) (i : ℕ) → Run ed s i e xs → i ≤ e
run_le ed s e [] i r = omega arith
run_le ed s e (x ∷ xs) i r =
    let m = pair_more ed s i r.0 r.1 in
    omega (arith, m.behind_i, m.size, run_le ed s e xs r.0.next r.3)
