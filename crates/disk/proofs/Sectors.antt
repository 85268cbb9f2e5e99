-- What each return of the window's functions gives, on plain numbers and lists. Assumes nothing.
use mathlib.Core.Path.{◌≡◌, refl, sym, ◌∙◌}
use mathlib.Core.Bool.{Bool, true, false}
use mathlib.Core.List.{List}
use Prim.Native.Nat.{ℕ, ◌+◌, ◌*◌, ◌-◌, ◌<◌, ◌≤◌}
use native.Mathlib.Omega.{arith}
use lib.ListN.{length, take, drop}
use lib.Dec.{ltb}
use borrow.Author.Tests.{lt-ltb, le-ltb, eq-eqb, ne_eqb}
use borrow.Author.Rules.{rules}
use Rattle.disk.specs.declared.Place.{Place}
use Rattle.std.specs.Prelude.{Ok, Err}
use Rattle.outcome.specs.Outcome.{Outcome}
use Rattle.outcome.specs.declared.Refusal.TheVariants.{OffSize, OffDisc}
use Rattle.disk.specs.Disk.{per_of, on_disk, start, sized, bytes_of}
use Rattle.disk.specs.Window.{sector_in}
use Rattle.disk.proofs.Places.{number_small}

-- ---- on the disk
pub on_disk_is : (n : ℕ) (p : Place) → p.track.0 < 35 → ltb p.sector.0 n ≡ on_disk n p
unfolding on_disk
on_disk_is n p h = rw (lt-ltb _ _ h) refl

pub off_disk_is : (n : ℕ) (p : Place) → 35 ≤ p.track.0 → false ≡ on_disk n p
unfolding on_disk
off_disk_is n p h = rw (le-ltb _ _ h) refl

-- ---- a sector, and why there is none
module _ (n : ℕ) (d : List ℕ) (p : Place) where
  pub wrong_size : (length d ≡ 256 * (35 * n) → ⊥) → Err OffSize ≡ sector_in n d p
  unfolding sector_in sized
  wrong_size h = rw (ne_eqb _ _ h) refl

  module _ (q : Bool) (h : length d ≡ 256 * (35 * n)) (e : q ≡ on_disk n p) where
    pub place_off : q ≡ false → Err OffDisc ≡ sector_in n d p
    unfolding sector_in sized
    place_off t = rw (eq-eqb _ _ h, ← e, t) refl

    module _ (t : q ≡ true) (at : ℕ) (a : at ≡ start n p) where
      pub place_on : Ok (take (at + 256 - at) (drop at d)) ≡ sector_in n d p
      unfolding sector_in sized bytes_of
      place_on = let l : at + 256 - at ≡ 256 = omega arith in rw (eq-eqb _ _ h, ← e, t, l, a) refl

      pub sector_ends : at + 256 ≤ length d
      sector_ends = let s = number_small n p (sym e ∙ t) in omega arith

pub ruleset places = (on_disk_is, off_disk_is, wrong_size, place_on, place_off, sector_ends, rules)

-- ---- the window: d is the slice that was chosen, m the one that is meant
pub window_is : (d m : List ℕ) (n : ℕ) (p : Place) (o : Outcome (List ℕ)) → d ≡ m → n ≡ per_of d → o ≡ sector_in n d p → o ≡ sector_in (per_of m) m p
window_is d m n p o g e h = rw (← g, ← e) h

pub ruleset windows = (window_is, rules)
