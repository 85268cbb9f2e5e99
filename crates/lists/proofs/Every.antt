-- What holds of each element of a list: of element i, of a mapped and of a joined list, of two facts. Assumes nothing.
use mathlib.Core.List.{List, [], ◌∷◌, map, flat_map}
use Prim.Native.Nat.{ℕ, zero, suc, ◌<◌}
use native.Mathlib.Omega.{arith}
use lib.ListN.{length, get_or}
use Rattle.lists.specs.Every.{Every, none, more}
use Rattle.lists.specs.Fill.{below}
use Rattle.lists.proofs.Laws.{length_tab, get_or_tab}
use Rattle.lists.proofs.Chunks.{every_append, split_every}

-- of the first, and of those behind it
pub parted : {A : Type 0} {P : A → Type 0} {x : A} {xs : List A} → Every P (x ∷ xs) → P x × Every P xs
parted (more p ps) = (p, ps)

-- it holds of element i
pub every_at : {A : Type 0} {P : A → Type 0} {xs : List A} (z : A) → Every P xs → (i : ℕ) → i < length xs → P (get_or xs i z)
every_at z none i h = absurd (omega arith)
every_at z (more p ps) zero h = p
every_at z (more p ps) (suc i) h = every_at z ps i (omega arith)

-- of the numbers below m
pub every_below : {P : ℕ → Type 0} (m : ℕ) → Every P (below m) → (k : ℕ) → k < m → P k
every_below {P} m e k h = rw (get_or_tab (λ j. j) m k 0 h) at (every_at 0 e k (rw length_tab h))

-- what follows of each
pub every_imp : {A : Type 0} {P Q : A → Type 0} {xs : List A} → ((x : A) → P x → Q x) → Every P xs → Every Q xs
every_imp f none = none
every_imp f (more {x} p ps) = more (f x p) (every_imp f ps)

-- two facts of each
pub every_both : {A : Type 0} {P Q : A → Type 0} {xs : List A} → Every P xs → Every Q xs → Every (λ (x : A). P x × Q x) xs
every_both none none = none
every_both (more p ps) (more q qs) = more (p, q) (every_both ps qs)

module _ {A B : Type 0} {P : B → Type 0} where
  -- of a mapped list, and back
  pub every_map : (f : A → B) {xs : List A} → Every (λ (x : A). P (f x)) xs → Every P (map f xs)
  every_map f none = none
  every_map f (more p ps) = more p (every_map f ps)

  pub map_every : (f : A → B) (xs : List A) → Every P (map f xs) → Every (λ (x : A). P (f x)) xs
  map_every f [] e = none
  map_every f (x ∷ xs) (more p e) = more p (map_every f xs e)

  -- of a joined list, and back
  pub every_flat_map : (f : A → List B) {xs : List A} → Every (λ (x : A). Every P (f x)) xs → Every P (flat_map f xs)
  unfolding flat_map
  every_flat_map f none = none
  every_flat_map f (more p ps) = every_append p (every_flat_map f ps)

  pub flat_map_every : (f : A → List B) (xs : List A) → Every P (flat_map f xs) → Every (λ (x : A). Every P (f x)) xs
  unfolding flat_map
  flat_map_every f [] e = none
  flat_map_every f (x ∷ xs) e = let s = split_every (f x) e in more s.0 (flat_map_every f xs s.1)
