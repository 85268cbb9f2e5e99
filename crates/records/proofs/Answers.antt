-- What the calls for a Binary file and for the format answer. Assumes nothing.
use mathlib.Core.Path.{◌≡◌, refl}
use mathlib.Core.List.{List, ◌++◌}
use Prim.Native.Nat.{ℕ, ◌+◌, ◌<◌, ◌≤◌}
use native.Mathlib.Omega.{arith}
use lib.ListN.{length}
use borrow.Author.Tests.{eq-eqb, ne_eqb}
use borrow.Author.Rules.{rules}
use Rattle.lists.specs.Fill.{placed}
use Rattle.lists.specs.Words.{le2}
use Rattle.lists.proofs.Put.{Put, placed_put, put_more, put_front}
use Rattle.std.specs.Prelude.{Ok, Err}
use Rattle.outcome.specs.declared.Refusal.TheVariants.{NotBinary, TrayShort}
use Rattle.outcome.specs.Outcome.{Outcome, Hands}
use Rattle.outcome.proofs.Outcome.{hands_refused, hands_short, hands_over_lem}
use Rattle.records.specs.Records.{file_record, file_written}

-- ---- a Binary file
module _ (kind address size : ℕ) (s o : List ℕ) where
  pub file_other : (h : Outcome ℕ) → (kind ≡ 4 → ⊥) → h ≡ Err NotBinary → Hands (file_written kind address size s) o o h
  unfolding file_written
  file_other h k e = hands_refused _ o NotBinary (rw (ne_eqb kind 4 k) refl) h e

  module _ (k : kind ≡ 4) where
    gives : file_written kind address size s ≡ Ok (file_record address size s)
    unfolding file_written
    gives = rw (eq-eqb kind 4 k) refl

    long : length (file_record address size s) ≡ 4 + length s
    unfolding file_record
    long = omega arith

    pub file_short : (h : Outcome ℕ) → length o < 4 + length s → h ≡ Err TrayShort → Hands (file_written kind address size s) o o h
    file_short h l e = hands_short _ o (file_record address size s) gives (rw long l) h e

    pub file_done : (a b o₁ o₂ o₃ : List ℕ) (h : Outcome ℕ) → 4 + length s ≤ length o → a ≡ le2 address → b ≡ le2 size
        → o₁ ≡ placed 0 a o → o₂ ≡ placed 2 b o₁ → o₃ ≡ placed 4 s o₂ → h ≡ Ok (4 + length s) → Hands (file_written kind address size s) o o₃ h
    unfolding file_record
    file_done a b o₁ o₂ o₃ h l ea eb e₁ e₂ e₃ e =
        let A : List ℕ = le2 address in
        let B : List ℕ = le2 size in
        let p₁ : Put 0 A o o₁ = placed_put (rw ea at e₁) (omega arith) in
        let q₂ : Put 2 B o₁ o₂ = placed_put (rw eb at e₂) (omega (arith, p₁.long)) in
        let p₂ : Put 0 (A ++ B) o o₂ = put_more p₁ q₂ refl (omega arith) in
        let q₃ : Put 4 s o₂ o₃ = placed_put e₃ (omega (arith, p₂.long)) in
        let p₃ : Put 0 ((A ++ B) ++ s) o o₃ = put_more p₂ q₃ refl (omega arith) in
        hands_over_lem _ o o₃ (file_record address size s) gives (omega (arith, long)) (put_front p₃) h (rw long e)

pub ruleset file_calls = (file_other, file_short, file_done, rules)
