-- `recognize_prologue` over plain variables. Assumes nothing.
use mathlib.Core.Path.{◌≡◌, refl, sym, ap, ◌∙◌}
use mathlib.Core.Bool.{Bool, true, false, cond, ◌&&◌, ◌||◌}
use mathlib.Core.List.{List, [], ◌∷◌}
use Prim.Native.Nat.{ℕ, suc, ◌+◌, ◌≤◌, ◌<◌}
use native.Mathlib.Omega.{arith}
use borrow.Author.Rules.{rules}
use borrow.Author.Tests.{eq-eqb, ne_eqb, eqb-true}
use lib.Dec.{eqb}
use lib.ListN.{length, get_or, drop, drop_of_length-le}
use lib.Seq.{drop-cons, drop-drop, drop-nil, get_or-drop}
use Rattle.lists.proofs.Split.{by_test}
use Rattle.fields.specs.Search.{skip, recognized}
use Rattle.fields.specs.Scan.{mark_at, prologue_at}
use Rattle.fields.proofs.Scan.{skip_hit, skip_miss, seeking_less}

-- ---- recognize_prologue
recognized_miss : (x : ℕ) (l : List ℕ) → eqb x 0xD5 ≡ false → recognized (x ∷ l) ≡ recognized l
unfolding recognized
recognized_miss x l e = rw e refl

recognized_skip : (l : List ℕ) → recognized l ≡ recognized (drop (skip l) l)
recognized_skip [] = ap recognized (sym (drop-nil (skip [])))
recognized_skip (x ∷ l) =
    by_test (eqb x 0xD5) (λ e. ap (λ (n : ℕ). recognized (drop n (x ∷ l))) (sym (skip_hit x l e)))
    (λ e. recognized_miss x l e ∙ recognized_skip l ∙ ap (λ (n : ℕ). recognized (drop n (x ∷ l))) (sym (skip_miss x l e)))

recognized_cons : (x a b : ℕ) (l t : List ℕ) → get_or l 0 0 ≡ a → get_or l 1 0 ≡ b → l ≡ t
    → recognized (x ∷ l) ≡ cond (eqb x 0xD5 && (eqb a 0xAA && (eqb b 0x96 || eqb b 0xB5))) b (recognized t)
unfolding recognized
recognized_cons x a b l t ea eb et = λ i. cond (eqb x 0xD5 && (eqb (ea i) 0xAA && (eqb (eb i) 0x96 || eqb (eb i) 0xB5))) (eb i) (recognized (et i))

-- the byte, or what follows
chosen : (x a : Bool) (b rest : ℕ)
    → cond (x && (a && (eqb b 0x96 || eqb b 0xB5))) b rest
    ≡ cond (eqb (cond (x && (a && eqb b 0x96)) 0x96 (cond (x && (a && eqb b 0xB5)) 0xB5 0)) 0) rest (cond (x && (a && eqb b 0x96)) 0x96 (cond (x && (a && eqb b 0xB5)) 0xB5 0))
chosen false a b rest = refl
chosen true false b rest = refl
chosen true true b rest =
    by_test (eqb b 0x96) (λ t. rw t (eqb-true b 0x96 t))
    (λ t. by_test (eqb b 0xB5) (λ u. rw (t, u) (eqb-true b 0xB5 u)) (λ u. rw (t, u) refl))

recognized_at : (s : List ℕ) (k : ℕ) → k < length s → recognized (drop k s) ≡ cond (eqb (prologue_at s k) 0) (recognized (drop (k + 1) s)) (prologue_at s k)
unfolding prologue_at mark_at
recognized_at s k h =
    let a : suc k + 0 ≡ k + 1 = omega arith in
    let b : suc k + 1 ≡ k + 2 = omega arith in
    let e : suc k ≡ k + 1 = omega arith in
    ap recognized (drop-cons s k 0 h)
    ∙ recognized_cons (get_or s k 0) (get_or s (k + 1) 0) (get_or s (k + 2) 0) (drop (suc k) s) (drop (k + 1) s)
    (get_or-drop (suc k) s 0 0 ∙ ap (λ (n : ℕ). get_or s n 0) a) (get_or-drop (suc k) s 1 0 ∙ ap (λ (n : ℕ). get_or s n 0) b) (ap (λ (n : ℕ). drop n s) e)
    ∙ chosen (eqb (get_or s k 0) 0xD5) (eqb (get_or s (k + 1) 0) 0xAA) (get_or s (k + 2) 0) (recognized (drop (k + 1) s))

-- the answer is that from place k on
pub record Recognizing (s : List ℕ) (k : ℕ) : Type 0 where
  pub same : recognized s ≡ recognized (drop k s)

from_skip : (s : List ℕ) (i k : ℕ) → k ≡ i + skip (drop i s) → recognized (drop i s) ≡ recognized (drop k s)
from_skip s i k e = recognized_skip (drop i s) ∙ rw (drop-drop (skip (drop i s)) i s, e) refl

pub recognizing_start : (s : List ℕ) (k : ℕ) → k ≡ 0 + skip (drop 0 s) → Recognizing s k
recognizing_start s k e = record { same = from_skip s 0 k e }

module _ (s : List ℕ) (k c : ℕ) (w : Recognizing s k) (h : k < length s) (e : c ≡ prologue_at s k) where
  pub recognizing_turn : (j : ℕ) → c ≡ 0 → j ≡ k + 1 + skip (drop (k + 1) s) → Recognizing s j
  recognizing_turn j z q = record { same = w.same ∙ recognized_at s k h ∙ rw (← e, eq-eqb c 0 z) (from_skip s (k + 1) j q) }

  pub recognizing_found : (c ≡ 0 → ⊥) → c ≡ recognized s
  recognizing_found n = sym (w.same ∙ recognized_at s k h ∙ rw (← e, ne_eqb c 0 n) refl)

pub recognizing_end : (s : List ℕ) (k : ℕ) → Recognizing s k → length s ≤ k → 0 ≡ recognized s
unfolding recognized
recognizing_end s k w h = sym (w.same ∙ rw (drop_of_length-le s {i = k} h) refl)

pub ruleset recognizing = (recognizing_start, recognizing_turn, recognizing_found, recognizing_end, seeking_less, rules)
