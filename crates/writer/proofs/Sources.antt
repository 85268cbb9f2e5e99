-- The bytes of a file, and its blocks, made of the sectors whose starts were collected. Assumes nothing.
use mathlib.Core.Path.{◌≡◌, refl, sym, ap, ◌∙◌}
use mathlib.Core.Bool.{Bool}
use mathlib.Core.List.{List, [], ◌∷◌, ◌++◌, map, foldl, flat_map}
use Prim.Native.Nat.{ℕ, zero, suc, ◌+◌, ◌-◌, ◌*◌, ◌/◌, ◌%◌, ◌<◌, ◌≤◌, min}
use native.Mathlib.Numerals.{add-one}
use native.Mathlib.Omega.{arith}
use lib.ListN.{length, take, drop, get_or, length-take, length-drop}
use lib.Seq.{drop-cons, get_or-take, take-take, drop-drop, take-append-le, length-take-le}
use lib.Dec.{leb}
use borrow.Author.Tests.{leb-true}
use borrow.Author.Rules.{rules}
use Rattle.lists.specs.Fill.{tab, below}
use Rattle.lists.proofs.Split.{by_test, by_lt}
use Rattle.lists.proofs.Cuts.{drop_take, take_min}
use Rattle.lists.proofs.Chunks.{length_chunks, drop_chunks}
use Rattle.lists.proofs.Every.{every_at}
use Rattle.catalog.specs.declared.EntryHead.{EntryHead}
use Rattle.files.specs.Copies.{cut_of}
use Rattle.files.specs.Survey.{blocks_for}
use Rattle.files.proofs.Copying.{cut_two}
use Rattle.archive.specs.Archive.{data_block, entry_block}
use Rattle.archive.proofs.Back.{is_nil_lem}
use Rattle.writer.specs.declared.Mark.{Mark}
use Rattle.writer.specs.Passes.{Pass, pass_of, sector_at, head_of, tail_of, size_by, start_by, stated_in, collected, next_data, data_at, made_at, head_at, file_blocks, file_with, stepped, with_file, Made, Sectors}

-- equal for each number below k
map_tab : {A : Type 0} (f g : ℕ → A) (h : ℕ → ℕ) (k : ℕ) → ((j : ℕ) → j < k → f (h j) ≡ g (h j)) → map f (tab h k) ≡ map g (tab h k)
unfolding tab
map_tab f g h zero e = refl
map_tab {A} f g h (suc k) e =
    let rest : map f (tab (λ j. h (suc j)) k) ≡ map g (tab (λ j. h (suc j)) k) = map_tab f g (λ j. h (suc j)) k (λ j l. e (suc j) (omega arith)) in
    ap (λ (x : A). x ∷ map f (tab (λ j. h (suc j)) k)) (e zero (omega arith)) ∙ ap (λ (x : List A). g (h zero) ∷ x) rest

module _ (d ns : List ℕ) where
  -- what is taken of one sector
  head_cut : (from size : ℕ) → head_of d ns from size ≡ cut_of size (from % 256) (sector_at d (get_or ns (from / 256) 0))
  unfolding head_of
  head_cut from size =
      let q : ℕ = get_or ns (from / 256) 0 in
      let r : ℕ = from % 256 in
      sym
      (ap (take size) (drop_take r 256 (drop q d) ∙ ap (take (256 - r)) (drop-drop r q d)) ∙ take_min size (256 - r) (drop (q + r) d))

  head_long : (from size : ℕ) → length (head_of d ns from size) ≤ size
  unfolding head_of
  head_long from size = rw length-take (omega arith)

  tail_none : (from size : ℕ) → size ≡ length (head_of d ns from size) → tail_of d ns from size ≡ []
  unfolding tail_of
  tail_none from size e = let z : size - length (head_of d ns from size) ≡ 0 = omega arith in rw z refl

  module _ (m : ℕ) (s : Sectors d ns m) where
    abbrev joined : List ℕ
    joined = flat_map (sector_at d) (take m ns)

    count : length (take m ns) ≡ m
    count = length-take-le m ns s.within

    -- from sector a on
    from_sector : (a : ℕ) → a < m → flat_map (sector_at d) (drop a (take m ns)) ≡ sector_at d (get_or ns a 0) ++ flat_map (sector_at d) (drop (a + 1) (take m ns))
    unfolding flat_map
    from_sector a h = rw (add-one a, drop-cons (take m ns) a 0 (omega (arith, count)), get_or-take m ns a 0 h) refl

    long_at : (a : ℕ) → a < m → length (sector_at d (get_or ns a 0)) ≡ 256
    long_at a h = ap (λ (i : ℕ). length (sector_at d i)) (sym (get_or-take m ns a 0 h)) ∙ every_at 0 s.long a (omega (arith, count))

    -- what is taken of the next sector
    tail_cut : (from size : ℕ) → from + size ≤ 256 * m → size ≤ 256 → from / 256 < m
        → tail_of d ns from size ≡ take (size - length (head_of d ns from size)) (flat_map (sector_at d) (drop (from / 256 + 1) (take m ns)))
    unfolding tail_of
    tail_cut from size h l i =
        let a : ℕ = from / 256 in
        let t : ℕ = size - length (head_of d ns from size) in
        let q : ℕ = get_or ns (a + 1) 0 in
        let w : List ℕ = flat_map (sector_at d) (drop (a + 1 + 1) (take m ns)) in
        let k : length (head_of d ns from size) ≡ min size (256 - from % 256) =
        ap length (head_cut from size) ∙ rw (length-take, length-drop, long_at a i) refl in
        by_lt (a + 1) m
        (λ g.
        let u : length (sector_at d q) ≡ 256 = long_at (a + 1) g in
        sym
        (ap (take t) (from_sector (a + 1) g) ∙ take-append-le t (sector_at d q) w (omega arith) ∙ take-take t 256 (drop q d) (omega arith)))
        (λ g. let z : t ≡ 0 = omega arith in rw z refl)

    -- the two pieces are what is wanted
    pub piece_is : (from size : ℕ) → from + size ≤ 256 * m → size ≤ 256 → head_of d ns from size ++ tail_of d ns from size ≡ cut_of size from joined
    piece_is from size h l =
        let a : ℕ = from / 256 in
        let r : ℕ = from % 256 in
        let e : from ≡ 256 * a + r = omega arith in
        by_lt a m
        (λ i.
        let u : List ℕ = sector_at d (get_or ns a 0) in
        let v : List ℕ = flat_map (sector_at d) (drop (a + 1) (take m ns)) in
        let j : drop from joined ≡ drop r (u ++ v) =
        ap (λ (x : ℕ). drop x joined) e ∙ sym (drop-drop r (256 * a) joined)
        ∙ ap (drop r) (drop_chunks (sector_at d) 256 s.long a ∙ from_sector a i) in
        let z : r - length u ≡ 0 = omega (arith, long_at a i) in
        let c : cut_of size r (u ++ v) ≡ cut_of size r u ++ take (size - length (cut_of size r u)) v = cut_two size r u v ∙ rw z refl in
        let t : tail_of d ns from size ≡ take (size - length (cut_of size r u)) v =
        tail_cut from size h l i ∙ ap (λ (x : List ℕ). take (size - length x) v) (head_cut from size) in
        rw (head_cut from size, t) (sym (ap (take size) j ∙ c)))
        (λ i.
        let z : size ≡ 0 = omega arith in
        let n : length (head_of d ns from size) ≡ 0 = omega (arith, head_long from size) in
        let x : head_of d ns from size ≡ [] = is_nil_lem (head_of d ns from size) n in
        rw (x, tail_none from size (omega arith), z) refl)

    -- a data block of them
    made_is : (start size k b j : ℕ) → start + size ≤ 256 * m → 254 * j ≤ size → made_at d ns start size k b j ≡ data_at k b (cut_of size start joined) j
    unfolding made_at
    made_is start size k b j h l =
        let n : ℕ = min 254 (size - 254 * j) in
        let p : take 254 (drop (254 * j) (cut_of size start joined)) ≡ cut_of n (start + 254 * j) joined =
        ap (take 254) (drop_take (254 * j) size (drop start joined) ∙ ap (take (size - 254 * j)) (drop-drop (254 * j) start joined))
        ∙ take_min 254 (size - 254 * j) (drop (start + 254 * j) joined) in
        ap (data_block (next_data k b j)) (piece_is (start + 254 * j) n (omega arith) (omega arith) ∙ sym p)

    -- all of them
    made_all : (start size k b : ℕ) → start + size ≤ 256 * m → k ≡ blocks_for size
        → map (made_at d ns start size k b) (below k) ≡ map (data_at k b (cut_of size start joined)) (below k)
    made_all start size k b h q =
        map_tab (made_at d ns start size k b) (data_at k b (cut_of size start joined)) (λ j. j) k (λ j l. made_is start size k b j h (omega arith))

    -- the size and where the bytes begin
    extent : start_by m (stated_in d ns) + size_by m (stated_in d ns) ≤ 256 * m
    extent =
        by_test (leb (4 + stated_in d ns) (256 * m)) (λ e. rw e (leb-true (4 + stated_in d ns) (256 * m) e)) (λ e. rw e (omega arith))

    pub size_is : length (collected d ns m) ≡ size_by m (stated_in d ns)
    unfolding collected
    size_is =
        let l : length joined ≡ 256 * m = length_chunks (sector_at d) 256 s.long ∙ rw count refl in
        rw (length-take, length-drop, l) (omega (arith, extent))

    -- ---- the blocks of an entry
    module _ (w : Bool) (a : List ℕ) (total : ℕ) (e : EntryHead) (raw : List ℕ) (m₀ : Mark) (o : List ℕ) where
      blocks_are : (size start k : ℕ) → size ≡ size_by m (stated_in d ns) → start ≡ start_by m (stated_in d ns) → k ≡ (size + 253) / 254
          → file_blocks total m₀.block (file_with e raw (collected d ns m))
          ≡ head_at total m₀.block k size (file_with e raw []) ∷ map (made_at d ns start size k (m₀.block + 1)) (below k)
      unfolding file_blocks collected entry_block
      blocks_are size start k p q r =
          let l : length (collected d ns m) ≡ size = size_is ∙ sym p in
          let x : collected d ns m ≡ cut_of size start joined = rw (p, q) refl in
          let g = made_all start size k (m₀.block + 1) (rw (p, q) extent) r in
          rw (l, ← r, x) (rw g refl)

      pub blocks_done : (stated size start k : ℕ) → stated ≡ stated_in d ns → size ≡ size_by m stated → start ≡ start_by m stated → k ≡ (size + 253) / 254
          → (t : Mark) (o₁ : List ℕ) → Made (stepped w a (pass_of m₀ o) (head_at total m₀.block k size (file_with e raw []))) 1 m₀ o o₁ t
          → (r : Mark) (o₂ : List ℕ) → Made (foldl (stepped w a) (pass_of t o₁) (map (made_at d ns start size k t.block) (below k))) 260 t o₁ o₂ r
          → Made (with_file w a total (pass_of m₀ o) (file_with e raw (collected d ns m))) 261 m₀ o o₂ r
      unfolding with_file stepped
      blocks_done stated size start k f p q g t o₁ h r o₂ u =
          let b : t.block ≡ m₀.block + 1 = ap (λ (y : Pass). y.block) h.is in
          let x = blocks_are size start k (p ∙ rw f refl) (q ∙ rw f refl) g in
          record {
            is =
                u.is
                ∙ ap (λ (i : ℕ). foldl (stepped w a) (pass_of t o₁) (map (made_at d ns start size k i) (below k))) b
                ∙ ap (λ (y : Pass). foldl (stepped w a) y (map (made_at d ns start size k (m₀.block + 1)) (below k))) h.is
                ∙ sym (ap (foldl (stepped w a) (pass_of m₀ o)) x);
            long = u.long ∙ h.long;
            bound = omega (arith, h.bound, u.bound);
          }

pub stated_small : (d ns : List ℕ) (v : ℕ) → v ≡ stated_in d ns → v < 65536 → stated_in d ns < 65536
stated_small d ns v e h = omega arith

pub ruleset sources = (blocks_done, stated_small, rules)
