-- Cases of the definitions, computed. Assumes nothing.
use mathlib.Core.Path.{◌≡◌, refl}
use mathlib.Core.Bool.{true, false}
use mathlib.Core.List.{[], ◌∷◌}
use Rattle.catalog.specs.Catalog.{trimmed, shown}
use Rattle.sides.specs.declared.Side.TheVariants.{Survey, Ours}
use Rattle.sides.specs.Sides.{belongs}

-- "S1" and "S" are the survey office's
pub theirs : (belongs Survey (0x53 ∷ 0x31 ∷ []) ≡ true) × (belongs Survey (0x53 ∷ []) ≡ true) × (belongs Survey [] ≡ false)
theirs = (refl, refl, refl)

-- "A", "s", "LS", " S" and an empty name are ours
pub all_others : (belongs Ours (0x41 ∷ []) ≡ true) × (belongs Ours (0x73 ∷ []) ≡ true) × (belongs Ours (0x4C ∷ 0x53 ∷ []) ≡ true)
    × (belongs Ours (0x20 ∷ 0x53 ∷ []) ≡ true) × (belongs Ours [] ≡ true)
all_others = (refl, refl, refl, refl, refl)

-- on the disk S is 53h or D3h; 13h and 93h, which are inverse, F3h, a space before it, and spaces alone are ours
pub cut : (belongs Survey (shown (0x53 ∷ 0xA0 ∷ [])) ≡ true) × (belongs Survey (shown (0xD3 ∷ 0xA0 ∷ [])) ≡ true) × (belongs Ours (shown (0x13 ∷ [])) ≡ true)
    × (belongs Ours (shown (0x93 ∷ [])) ≡ true) × (belongs Ours (shown (0xF3 ∷ [])) ≡ true) × (belongs Ours (shown (0xA0 ∷ 0xD3 ∷ [])) ≡ true)
    × (belongs Ours (shown (0xA0 ∷ 0xA0 ∷ [])) ≡ true)
unfolding shown trimmed
cut = (refl, refl, refl, refl, refl, refl, refl)
