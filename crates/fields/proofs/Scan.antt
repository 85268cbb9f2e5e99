-- `find_prologue`, `find_and_parse_address_field`, `find_and_parse_data_field` and `parse_nib_sector` over plain variables. Assumes nothing.
use mathlib.Core.Path.{◌≡◌, refl, sym, ap, ◌∙◌}
use mathlib.Core.Bool.{Bool, true, false, cond, ◌&&◌}
use mathlib.Core.List.{List, [], ◌∷◌}
use Rattle.std.specs.Prelude.{Option, Some, None, Ok, Err}
use Rattle.outcome.specs.declared.Refusal.{Refusal}
use Rattle.outcome.specs.declared.Refusal.TheVariants.{AddressSum}
use Prim.Native.Nat.{ℕ, suc, ◌+◌, ◌-◌, ◌*◌, ◌≤◌, ◌<◌}
use native.Mathlib.Omega.{arith}
use borrow.Author.Rules.{rules}
use borrow.Author.Tests.{eq-eqb, ne_eqb, lt-ltb, le-ltb, eqb-true}
use lib.Bits.{bit_xor}
use lib.Dec.{eqb}
use lib.ListN.{length, get_or, drop, length-drop, drop_of_length-le, get_or-eq_default}
use lib.Seq.{drop-cons, drop-drop, drop-nil, get_or-drop}
use Rattle.lists.proofs.Split.{by_lt, by_test, both_true}
use Rattle.nibble.specs.Nibble.{of44}
use Rattle.fields.specs.declared.Edition.{Edition}
use Rattle.fields.specs.Editions.{mark_of, nibbles_of}
use Rattle.fields.specs.Search.{skip}
use Rattle.fields.specs.Fields.{after}
use Rattle.fields.specs.Scan.{byte_at4, mark_at, place_of, place_after, address_in, address_from, data_from, pair_from}
use Rattle.fields.specs.declared.AddressField.{AddressField}
use Rattle.fields.specs.declared.DataField.{DataField}

-- ---- the search for D5 AA c, by places
-- a byte is D5h, or not
pub skip_hit : (x : ℕ) (l : List ℕ) → eqb x 0xD5 ≡ true → skip (x ∷ l) ≡ 0
unfolding skip
skip_hit x l e = rw e refl

pub skip_miss : (x : ℕ) (l : List ℕ) → eqb x 0xD5 ≡ false → skip (x ∷ l) ≡ suc (skip l)
unfolding skip
skip_miss x l e = rw e refl

after_miss : (c x : ℕ) (l : List ℕ) → eqb x 0xD5 ≡ false → after c (x ∷ l) ≡ after c l
unfolding after
after_miss c x l e = rw e refl

-- nothing is lost up to the first D5h
after_skip : (c : ℕ) (l : List ℕ) → after c l ≡ after c (drop (skip l) l)
after_skip c [] = ap (after c) (sym (drop-nil (skip [])))
after_skip c (x ∷ l) =
    by_test (eqb x 0xD5) (λ e. ap (λ (n : ℕ). after c (drop n (x ∷ l))) (sym (skip_hit x l e)))
    (λ e. after_miss c x l e ∙ after_skip c l ∙ ap (λ (n : ℕ). after c (drop n (x ∷ l))) (sym (skip_miss x l e)))

-- one step of the search
after_cons : (c x a b : ℕ) (l r t : List ℕ) → get_or l 0 0 ≡ a → get_or l 1 0 ≡ b → drop 2 l ≡ r → l ≡ t
    → after c (x ∷ l) ≡ cond (eqb x 0xD5 && (eqb a 0xAA && eqb b c)) (Some r) (after c t)
unfolding after
after_cons c x a b l r t ea eb er et = λ i. cond (eqb x 0xD5 && (eqb (ea i) 0xAA && eqb (eb i) c)) (Some (er i)) (after c (et i))

-- what stands at place k
after_at : (c : ℕ) (s : List ℕ) (k : ℕ) → k < length s → after c (drop k s) ≡ cond (mark_at c s k) (Some (drop (k + 3) s)) (after c (drop (k + 1) s))
unfolding mark_at
after_at c s k h =
    let a : suc k + 0 ≡ k + 1 = omega arith in
    let b : suc k + 1 ≡ k + 2 = omega arith in
    let d : suc k + 2 ≡ k + 3 = omega arith in
    let e : suc k ≡ k + 1 = omega arith in
    ap (after c) (drop-cons s k 0 h)
    ∙ after_cons c (get_or s k 0) (get_or s (k + 1) 0) (get_or s (k + 2) 0) (drop (suc k) s) (drop (k + 3) s) (drop (k + 1) s)
    (get_or-drop (suc k) s 0 0 ∙ ap (λ (n : ℕ). get_or s n 0) a) (get_or-drop (suc k) s 1 0 ∙ ap (λ (n : ℕ). get_or s n 0) b)
    (drop-drop 2 (suc k) s ∙ ap (λ (n : ℕ). drop n s) d) (ap (λ (n : ℕ). drop n s) e)

-- a mark whose last byte is not 0 is whole
mark_within : (c : ℕ) (s : List ℕ) (k : ℕ) → 0 < c → mark_at c s k ≡ true → k + 3 ≤ length s
unfolding mark_at
mark_within c s k h e =
    let p = both_true (eqb (get_or s k 0) 0xD5) _ e in
    let q = both_true (eqb (get_or s (k + 1) 0) 0xAA) _ p.1 in
    let z : get_or s (k + 2) 0 ≡ c = eqb-true _ _ q.1 in
    by_lt (k + 2) (length s) (λ l. omega arith) (λ l. absurd (omega (arith, z, get_or-eq_default s 0 {n = k + 2} l)))

-- the search from i on is the search from k on
pub record Seeking (c : ℕ) (s : List ℕ) (i k : ℕ) : Type 0 where
  pub same : after c (drop i s) ≡ after c (drop k s)

from_skip : (c : ℕ) (s : List ℕ) (i k : ℕ) → k ≡ i + skip (drop i s) → after c (drop i s) ≡ after c (drop k s)
from_skip c s i k e = after_skip c (drop i s) ∙ rw (drop-drop (skip (drop i s)) i s, e) refl

pub seeking_start : (c : ℕ) (s : List ℕ) (i k : ℕ) → k ≡ i + skip (drop i s) → Seeking c s i k
seeking_start c s i k e = record { same = from_skip c s i k e }

pub seeking_turn : (c : ℕ) (s : List ℕ) (i k j : ℕ) (b : Bool) → Seeking c s i k → k < length s → b ≡ mark_at c s k → b ≡ false → j ≡ k + 1 + skip (drop (k + 1) s)
    → Seeking c s i j
seeking_turn c s i k j b w h e z q =
    let m : mark_at c s k ≡ false = sym e ∙ z in
    record { same = w.same ∙ after_at c s k h ∙ rw m (from_skip c s (k + 1) j q) }

pub seeking_less : (s : List ℕ) (k j : ℕ) → k < length s → j ≡ k + 1 + skip (drop (k + 1) s) → length s - j < length s - k
seeking_less s k j h q = omega arith

place_some : (s : List ℕ) (k : ℕ) → k ≤ length s → place_of s (Some (drop k s)) ≡ Some k
place_some s k h = rw (length-drop k s) (ap Some (omega arith))

pub seeking_found : (c : ℕ) (s : List ℕ) (i k : ℕ) (b : Bool) → Seeking c s i k → 0 < c → k < length s → b ≡ mark_at c s k → b ≡ true → Some (k + 3) ≡ place_after c s i
unfolding place_after
seeking_found c s i k b w p h e z =
    let m : mark_at c s k ≡ true = sym e ∙ z in
    let q : after c (drop i s) ≡ Some (drop (k + 3) s) = w.same ∙ after_at c s k h ∙ rw m refl in
    rw q (sym (place_some s (k + 3) (mark_within c s k p m)))

pub seeking_end : (c : ℕ) (s : List ℕ) (i k : ℕ) → Seeking c s i k → length s ≤ k → None ≡ place_after c s i
unfolding place_after after
seeking_end c s i k w h = rw (w.same, drop_of_length-le s {i = k} h) refl

pub ruleset seeking = (seeking_start, seeking_turn, seeking_less, seeking_found, seeking_end, rules)

-- ---- what the place says
place_le : (s : List ℕ) (o : Option (List ℕ)) (j : ℕ) → Some j ≡ place_of s o → j ≤ length s
place_le s None j e = let z : ◌≡◌ {A = ℕ} 0 1 = cc in absurd (omega arith)
place_le s (Some r) j e = let q : j ≡ length s - length r = cc in omega arith

pub after_le : (c : ℕ) (s : List ℕ) (i j : ℕ) → Some j ≡ place_after c s i → j ≤ length s
unfolding place_after
after_le c s i j e = place_le s (after c (drop i s)) j e

-- ---- byte_4_and_4
pub byte_at : (s : List ℕ) (j k a b r : ℕ) → a ≡ get_or s (j + 2 * k) 0 → b ≡ get_or s (j + (2 * k + 1)) 0 → r ≡ of44 a b → r ≡ byte_at4 s j k
unfolding byte_at4
byte_at s j k a b r p q e = e ∙ rw (p, q, get_or-drop j s (2 * k) 0, get_or-drop j s (2 * k + 1) 0) refl

pub ruleset bytes = (byte_at, rules)

-- ---- the returns of find_and_parse_address_field
module _ (ed : Edition) (s : List ℕ) (i : ℕ) where
  pub no_mark : None ≡ place_after (mark_of ed) s i → Ok None ≡ address_from ed s i
  unfolding address_from
  no_mark e = rw (← e) refl

  module _ (j : ℕ) (e : Some j ≡ place_after (mark_of ed) s i) where
    pub cut_off : length s - j < 11 → Ok None ≡ address_from ed s i
    unfolding address_from address_in
    cut_off h = rw (← e, lt-ltb (length (drop j s)) 11 (rw (length-drop j s) h)) refl

    module _ (h : 11 ≤ length s - j) (v t p w : ℕ) (ev : v ≡ byte_at4 s j 0) (et : t ≡ byte_at4 s j 1) (ep : p ≡ byte_at4 s j 2) (ew : w ≡ byte_at4 s j 3) where
      pub bad_sum : (w ≡ bit_xor (bit_xor v t) p → ⊥) → Err AddressSum ≡ address_from ed s i
      unfolding address_from address_in byte_at4
      bad_sum u = rw (← e, le-ltb (length (drop j s)) 11 (rw (length-drop j s) h), ← ev, ← et, ← ep, ← ew, ne_eqb w (bit_xor (bit_xor v t) p) u) refl

      pub address_is : w ≡ bit_xor (bit_xor v t) p → Ok (Some (record { volume = v; track = t; sector = p; next = j + 11 })) ≡ address_from ed s i
      unfolding address_from address_in byte_at4
      address_is u = rw (← e, le-ltb (length (drop j s)) 11 (rw (length-drop j s) h), ← ev, ← et, ← ep, ← ew, eq-eqb w (bit_xor (bit_xor v t) p) u) refl

pub ruleset addressed = (after_le, no_mark, cut_off, bad_sum, address_is, rules)

-- ---- the returns of find_and_parse_data_field
module _ (ed : Edition) (s : List ℕ) (i : ℕ) where
  pub no_data : None ≡ place_after 0xAD s i → None ≡ data_from ed s i
  unfolding data_from
  no_data e = rw (← e) refl

  module _ (j : ℕ) (e : Some j ≡ place_after 0xAD s i) where
    pub data_cut : (m : ℕ) → m ≡ nibbles_of ed → length s - j < m + 3 → None ≡ data_from ed s i
    unfolding data_from
    data_cut m k h = rw (← e, ← k, lt-ltb (length (drop j s)) (m + 3) (rw (length-drop j s) h)) refl

    pub data_is : (m : ℕ) → m ≡ nibbles_of ed → m + 3 ≤ length s - j → Some (record { nibbles = j; next = j + (m + 3) }) ≡ data_from ed s i
    unfolding data_from
    data_is m k h = rw (← e, ← k, le-ltb (length (drop j s)) (m + 3) (rw (length-drop j s) h)) refl

pub ruleset fielded = (after_le, no_data, data_cut, data_is, rules)

-- ---- the returns of parse_nib_sector
module _ (ed : Edition) (s : List ℕ) (i : ℕ) where
  pub pair_bad : (r : Refusal) → Err r ≡ address_from ed s i → Err r ≡ pair_from ed s i
  unfolding pair_from
  pair_bad r e = rw (← e) refl

  pub pair_none : Ok None ≡ address_from ed s i → Ok None ≡ pair_from ed s i
  unfolding pair_from
  pair_none e = rw (← e) refl

  module _ (a : AddressField) (e : Ok (Some a) ≡ address_from ed s i) where
    pub pair_cut : None ≡ data_from ed s a.next → Ok None ≡ pair_from ed s i
    unfolding pair_from
    pair_cut q = rw (← e, ← q) refl

    pub pair_is : (d : DataField) → Some d ≡ data_from ed s a.next
        → Ok (Some (record { volume = a.volume; track = a.track; sector = a.sector; nibbles = d.nibbles; next = d.next })) ≡ pair_from ed s i
    unfolding pair_from
    pair_is d q = rw (← e, ← q) refl
