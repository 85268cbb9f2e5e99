-- Where a mark is found: behind a gap that has no byte D5h. Assumes nothing.
use mathlib.Core.Path.{◌≡◌, refl, ap}
use mathlib.Core.Bool.{Bool, true, false, cond, ◌&&◌}
use mathlib.Core.List.{List, [], ◌∷◌, ◌++◌}
use Rattle.std.specs.Prelude.{Option, Some, None}
use Prim.Native.Nat.{ℕ, zero, suc, ◌<◌}
use native.Mathlib.Omega.{arith}
use borrow.Author.Tests.{eq-eqb, ne_eqb}
use lib.Dec.{eqb}
use lib.ListN.{length, get_or, drop, length-drop}
use Rattle.fields.specs.Search.{Free}
use Rattle.fields.specs.Fields.{after}

-- the empty list has none
pub free_nil : Free []
free_nil k e = omega arith

-- behind a gap free of D5h the mark is found
pub after_found : (c : ℕ) (g rest : List ℕ) → Free g → after c (g ++ (0xD5 ∷ 0xAA ∷ c ∷ rest)) ≡ Some rest
unfolding after
after_found c [] rest h = rw (eq-eqb c c refl) refl
after_found c (x ∷ g) rest h = rw (ne_eqb x 0xD5 (h zero)) (after_found c g rest (λ k. h (suc k)))

-- without D5h there is no mark
pub after_none : (c : ℕ) (g : List ℕ) → Free g → after c g ≡ None
unfolding after
after_none c [] h = refl
after_none c (x ∷ g) h = rw (ne_eqb x 0xD5 (h zero)) (after_none c g (λ k. h (suc k)))

-- what stands behind a mark is shorter
shorter : (b : Bool) (o : Option (List ℕ)) (s r : List ℕ) → (o ≡ Some r → length r < length s) → cond b (Some (drop 2 s)) o ≡ Some r → length r < suc (length s)
shorter true o s r below e = let q : drop 2 s ≡ r = cc in omega (arith, length-drop 2 s, ap length q)
shorter false o s r below e = omega (arith, below e)

-- the same of the search
pub after_shorter : (c : ℕ) (s r : List ℕ) → after c s ≡ Some r → length r < length s
unfolding after
after_shorter c [] r e = let z : ◌≡◌ {A = ℕ} 0 1 = cc in absurd (omega arith)
after_shorter c (x ∷ s) r e = shorter (eqb x 0xD5 && (eqb (get_or s 0 0) 0xAA && eqb (get_or s 1 0) c)) (after c s) s r (after_shorter c s r) e
