-- The pass over the catalog's pages that makes the totals. Assumes nothing.
use mathlib.Core.Path.{◌≡◌, refl, sym, ap, ◌∙◌}
use mathlib.Core.Bool.{Bool, true, false}
use mathlib.Core.List.{List, []}
use Prim.Native.Nat.{ℕ, ◌+◌, ◌*◌, ◌<◌, ◌≤◌}
use native.Mathlib.Omega.{arith}
use borrow.Author.Tests.{not-true, not-false}
use borrow.Author.Rules.{rules}
use Rattle.std.specs.Prelude.{Ok, Err}
use Rattle.outcome.specs.declared.Refusal.TheVariants.{OffDisc, Ring, BadLetter}
use Rattle.outcome.specs.Outcome.{Outcome, ◌>>=◌, steps, Gives}
use Rattle.outcome.proofs.Outcome.{on, steps_folded}
use Rattle.disk.specs.declared.Place.{Place}
use Rattle.disk.specs.Disk.{on_disk, link_of}
use Rattle.disk.specs.Chain.{walk}
use Rattle.disk.proofs.Steps.{made, rest, rest_start, rest_full, rest_off, rest_bad, rest_end, rest_more}
use Rattle.catalog.specs.Catalog.{Entry, entries_of, plain_names, sound_page, last_page, next_page}
use Rattle.files.specs.declared.Totals.{Totals}
use Rattle.files.specs.Totals.{none_yet, Within, with_page, Turned, walk_totals}

-- a walk's outcome, whose value is the totals or a refusal
abbrev pub flat : Outcome (Outcome Totals) → Outcome Totals
flat o = o >>= λ w. w

module _ (n : ℕ) (d : List ℕ) (g : ℕ → Entry → Bool) (first : Place) where
  abbrev pub page : Outcome Totals → Place → Outcome Totals
  page = on (with_page n d g)

  -- k pages were read, with the totals t, and p is the next
  pub record Going (most k : ℕ) (t : Outcome Totals) (p : Place) : Type 0 where
    pub budget : most ≡ 35 * n + 1
    pub count : k ≤ most
    pub within : Gives (Within (8 * k)) t
    pub is : flat (rest page n (sound_page n d) (next_page n d) (35 * n + 1) k t p) ≡ walk_totals n d g first

  pub go_none : (most : ℕ) (t : Totals) → most ≡ 35 * n + 1 → t ≡ none_yet → Going most 0 (Ok t) first
  unfolding walk_totals
  go_none most t e q =
      rw q
      (record {
        budget = e;
        count = omega arith;
        within = record { entries = omega arith; links = omega arith; blocks = omega arith };
        is =
            ap flat (rest_start page n (sound_page n d) (next_page n d) (35 * n + 1) (Ok none_yet) first)
            ∙ go (walk n (sound_page n d) (next_page n d) (35 * n + 1) [] first);
      })
    where
      go : (o : Outcome (List Place)) → flat (made page (Ok none_yet) o) ≡ (o >>= λ ps. steps (with_page n d g) none_yet ps)
      go (Err r) = refl
      go (Ok ps) = steps_folded (with_page n d g) none_yet ps

  module _ (most k : ℕ) (t : Outcome Totals) (p : Place) (c : Going most k t p) where
    pub go_within : n < 256 → k < most → Gives (Within 90000) t
    go_within s h = go t c.within
      where
        go : (o : Outcome Totals) → Gives (Within (8 * k)) o → Gives (Within 90000) o
        go (Err r) w = tt
        go (Ok u) w = record { entries = omega (arith, w.entries, c.budget); links = omega (arith, w.links, c.budget); blocks = omega (arith, w.blocks, c.budget) }

    pub go_ring : most ≤ k → Err Ring ≡ walk_totals n d g first
    go_ring h = sym (rw (← c.is, rest_full page n (sound_page n d) (next_page n d) (35 * n + 1) k t p (omega (arith, c.budget))) refl)

    module _ (h : k < most) (b : Bool) (o : b ≡ on_disk n p) where
      inside : k < 35 * n + 1
      inside = omega (arith, c.budget)

      pub go_off : b ≡ false → Err OffDisc ≡ walk_totals n d g first
      go_off z = sym (rw (← c.is, rest_off page n (sound_page n d) (next_page n d) (35 * n + 1) k t p inside (sym o ∙ z)) refl)

      module _ (y : b ≡ true) (f : Bool) (s : f ≡ plain_names (entries_of n d p)) where
        pub go_bad : f ≡ false → Err BadLetter ≡ walk_totals n d g first
        unfolding sound_page
        go_bad z =
            sym (rw (← c.is, rest_bad page n (sound_page n d) (next_page n d) (35 * n + 1) k t p inside BadLetter (sym o ∙ y) (rw (← s, z) refl)) refl)

        module _ (z : f ≡ true) (r : Outcome Totals) (u : Turned n d g t p r) (l : Bool) (e : l ≡ last_page n d p) where
          sound : sound_page n d p ≡ Ok tt
          unfolding sound_page
          sound = rw (← s, z) refl

          pub go_last : l ≡ true → r ≡ walk_totals n d g first
          unfolding next_page
          go_last q =
              u.is
              ∙ sym (sym c.is ∙ ap flat (rest_end page n (sound_page n d) (next_page n d) (35 * n + 1) k t p inside (sym o ∙ y, sound) (rw (← e, q) refl)))

          pub go_more : l ≡ false → (a : Place) → a ≡ link_of n d p → Going most (k + 1) r a
          unfolding next_page
          go_more q a w =
              record {
                budget = c.budget;
                count = omega arith;
                within = go r (u.grows (8 * k) c.within);
                is =
                    ap (λ (i : Outcome Totals). flat (rest page n (sound_page n d) (next_page n d) (35 * n + 1) (k + 1) i a)) u.is
                    ∙ ap flat (sym (rest_more page n (sound_page n d) (next_page n d) (35 * n + 1) k t p inside a (sym o ∙ y, sound, rw (← e, q, w) refl)))
                    ∙ c.is;
              }
            where
              go : (x : Outcome Totals) → Gives (Within (8 * k + 8)) x → Gives (Within (8 * (k + 1))) x
              go (Err i) v = tt
              go (Ok i) v = record { entries = omega (arith, v.entries); links = omega (arith, v.links); blocks = omega (arith, v.blocks) }

pub ruleset goings = (go_none, go_within, go_ring, go_off, go_bad, go_last, go_more, not-true, not-false, rules)
