-- One block written or compared. Assumes nothing.
use mathlib.Core.Path.{◌≡◌, refl, sym, ap, ◌∙◌}
use mathlib.Core.Bool.{Bool, true, false, ◌&&◌}
use mathlib.Core.List.{List}
use Prim.Native.Nat.{ℕ, ◌+◌, ◌*◌}
use native.Mathlib.Omega.{arith}
use lib.ListN.{take, drop}
use borrow.Author.Rules.{rules}
use Rattle.lists.specs.Fill.{placed}
use Rattle.lists.specs.Same.{same}
use Rattle.lists.proofs.Placed.{length_placed}
use denote.Ref.{Bor}
use Rattle.writer.specs.declared.Target.{Target}
use Rattle.writer.specs.declared.Target.TheVariants.{Write, Compare}
use Rattle.writer.specs.declared.Mark.{Mark}
use Rattle.writer.specs.Passes.{writes, compared, pass_of, stepped, Made}

module _ (w : Bool) (a y : List ℕ) (m : Mark) (o : List ℕ) where
  pub emit_written : w ≡ true → (o' : List ℕ) → o' ≡ placed (256 * m.block) y o
      → Made (stepped w a (pass_of m o) y) 1 m o o' (record { block = m.block + 1; good = m.good })
  unfolding stepped
  emit_written e o' q = record { is = rw (e, q) refl; long = rw q (length_placed (256 * m.block) y o); bound = omega arith }

  pub emit_compared : w ≡ false → (z : List ℕ) (b : Bool) → z ≡ take 256 (drop (256 * m.block) a) → b ≡ same y z
      → Made (stepped w a (pass_of m o) y) 1 m o o (record { block = m.block + 1; good = m.good && b })
  unfolding stepped
  emit_compared e z b q u = record { is = rw (e, u, q) refl; long = refl; bound = omega arith }

-- .. by what the pass does
module _ (t : Target) (y : List ℕ) (m : Mark) (o : List ℕ) where
  pub target_written : t ≡ Write → (o' : List ℕ) → o' ≡ placed (256 * m.block) y o
      → Made (stepped (writes t) (compared t) (pass_of m o) y) 1 m o o' (record { block = m.block + 1; good = m.good })
  target_written e o' q = emit_written (writes t) (compared t) y m o (ap writes e) o' q

  pub target_compared : (a : Bor (List ℕ)) → t ≡ Compare a → (z : List ℕ) (b : Bool) → z ≡ take 256 (drop (256 * m.block) a.now) → b ≡ same y z
      → Made (stepped (writes t) (compared t) (pass_of m o) y) 1 m o o (record { block = m.block + 1; good = m.good && b })
  target_compared a e z b q u =
      emit_compared (writes t) (compared t) y m o (ap writes e) z b (q ∙ ap (λ (x : Target). take 256 (drop (256 * m.block) (compared x))) (sym e)) u

pub ruleset emits = (target_written, target_compared, emit_written, emit_compared, rules)
