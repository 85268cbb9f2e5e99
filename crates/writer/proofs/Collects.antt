-- The starts of a file's sectors, collected along its lists. Assumes nothing.
use mathlib.Core.Path.{◌≡◌, refl}
use mathlib.Core.List.{List, [], ◌∷◌}
use Prim.Native.Nat.{ℕ, ◌+◌, ◌-◌, ◌<◌, ◌≤◌}
use native.Mathlib.Omega.{arith}
use lib.ListN.{length, take, set}
use lib.Seq.{take_all}
use borrow.Author.Rules.{rules}
use Rattle.lists.proofs.Put.{put_1, put_none}
use Rattle.disk.specs.declared.Place.{Place}
use Rattle.disk.specs.Disk.{start}
use Rattle.files.specs.Copies.{Copied, Roomy}
use Rattle.files.proofs.Copying.{pairings}
use Rattle.files.proofs.Datas.{copies}
use Rattle.writer.specs.Passes.{start_of, spot}

module _ (n : ℕ) (q : Place) (at : ℕ) (o : List ℕ) (m : Roomy 257 (spot at) o) where
  pub start_full : 257 ≤ at → Copied 257 (start_of n q) (spot at) o o (spot at)
  start_full h =
      let z : 257 - at ≡ 0 = omega arith in
      record { puts = rw z (put_none at o).is; at = rw z (omega arith); skip = omega arith }

  pub start_room : at < 257 → at < length o
  start_room h = omega (arith, m.fits)

  pub start_put : at < 257 → (v : ℕ) → v ≡ start n q → Copied 257 (start_of n q) (spot at) o (set o at v) (spot (at + 1))
  start_put h v u =
      let e : take (257 - at) (start n q ∷ []) ≡ start n q ∷ [] = take_all (257 - at) (start n q ∷ []) (omega arith) in
      record { puts = rw (e, u) (put_1 at (start n q) o (omega (arith, m.fits))); at = rw e refl; skip = omega arith }

pub ruleset starts = (start_full, start_room, start_put, rules)

pub ruleset collects = (pairings, rules)

pub ruleset collectings = (copies, rules)
