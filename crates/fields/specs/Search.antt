-- The search for the byte D5h, with which every mark begins, and for the first prologue: document 01, "Fields" and "Beside these".
use Rattle.std.specs.Prelude.{◌≡◌, cond, ◌&&◌, ◌||◌, List, [], ◌∷◌, ℕ, suc, ◌+◌, ◌<◌, eqb, get_or}

-- how many elements stand before the first D5h; all, where there is none
unfoldable pub skip : List ℕ → ℕ
skip [] = 0
skip (x ∷ xs) = cond (eqb x 0xD5) 0 (suc (skip xs))

-- no byte D5h (past the end stands 0)
abbrev pub Free : List ℕ → Type 0
Free g = (k : ℕ) → get_or g k 0 ≡ 0xD5 → ⊥

-- ---- what the steps of the search promise each other
-- 1 for D5h, else 0
abbrev pub is_mark : ℕ → ℕ
is_mark b = cond (eqb b 0xD5) 1 0

-- if r is 0, no D5h stands at the n places from i on
pub record Clear (s : List ℕ) (i r n : ℕ) : Type 0 where
  pub clear : r ≡ 0 → (j : ℕ) → j < n → get_or s (i + j) 0 ≡ 0xD5 → ⊥

-- ---- recognize_prologue: document 01, "Beside these"
-- 96h or B5h, whichever first follows a D5 AA; 0 where neither does
unfoldable pub recognized : List ℕ → ℕ
recognized [] = 0
recognized (x ∷ xs) =
    let rest = recognized xs in
    let c = get_or xs 1 0 in
    cond (eqb x 0xD5 && (eqb (get_or xs 0 0) 0xAA && (eqb c 0x96 || eqb c 0xB5))) c rest
