-- A clean disk changed in the map, in sectors that were free, and then in one entry line: what is read of it. Assumes nothing.
use Rattle.std.specs.Prelude.{Ok}
use mathlib.Core.Path.{◌≡◌, refl, sym, ap, subst, ◌∙◌}
use mathlib.Core.Bool.{true, false}
use mathlib.Core.Logic.{inl, inr, ⊎_elim}
use mathlib.Core.List.{List, [], ◌∷◌, ◌++◌, map}
use mathlib.Core.Option.{Option}
use Prim.Native.Nat.{ℕ, ◌+◌, ◌*◌, ◌-◌, ◌<◌, ◌≤◌}
use native.Mathlib.Omega.{arith}
use lib.ListN.{length, get_or}
use Rattle.lists.specs.Every.{Every}
use Rattle.lists.specs.Fill.{Bytes, put}
use Rattle.lists.specs.Select.{among}
use Rattle.lists.proofs.Split.{by_lt}
use Rattle.lists.proofs.Among.{unlike}
use Rattle.lists.proofs.Put.{length_put}
use Rattle.lists.proofs.Chunks.{split_every}
use Rattle.lists.proofs.Every.{every_imp, every_both}
use Rattle.disk.specs.declared.Place.{Place}
use Rattle.disk.specs.Disk.{start, number_of, on_disk, byte_of, bytes_of, sectors}
use Rattle.disk.specs.Vtoc.{vtoc}
use Rattle.catalog.specs.Catalog.{entry_from}
use Rattle.files.specs.Contents.{File}
use Rattle.holders.specs.Holders.{held, free}
use Rattle.amend.specs.Lines.{starts}
use Rattle.amend.specs.Amending.{Fixed}
use Rattle.amend.proofs.Puts.{Off, put_off, byte_same, sector_ext, sector_fits}
use Rattle.amend.proofs.Frame.{entry_same}
use Rattle.amend.proofs.Lines.{Within, Far, line_holds, spread_split, starts_each, starts_spread}
use Rattle.amend.proofs.Reading.{Reading}
use Rattle.amend.proofs.Change.{Plain}
use Rattle.amend.proofs.Kept.{Sector, Changed, line_sectors_lem, page_sectors, page_sectors_in, lines_pages, pages_apart}

-- what holds of all holds of one
pub every_here : {A : Type 0} {P : A → Type 0} (a : List A) (x : A) (b : List A) → Every P (a ++ x ∷ b) → P x
every_here [] x b (Every.more h e) = h
every_here (y ∷ a) x b (Every.more h e) = every_here a x b e

-- m is d with the map, last track and direction, and the sectors `new` changed
pub record Mid (n : ℕ) (d : List ℕ) (new : List Place) (m : List ℕ) : Type 0 where
  pub size : length m ≡ length d
  pub head : (k : ℕ) → k < 48 → byte_of n m vtoc k ≡ byte_of n d vtoc k
  pub table : (k : ℕ) → 50 ≤ k → k < 56 → byte_of n m vtoc k ≡ byte_of n d vtoc k
  pub tail : (k : ℕ) → 196 ≤ k → k < 256 → byte_of n m vtoc k ≡ byte_of n d vtoc k
  pub rest : (q : Place) → on_disk n q ≡ true → (number_of n q ≡ number_of n vtoc → ⊥) → held n new (number_of n q) ≡ 0 → bytes_of n m q ≡ bytes_of n d q

-- e is m with bytes of the line at x changed
pub record Lined (m : List ℕ) (x : ℕ) (e : List ℕ) : Type 0 where
  pub size : length e ≡ length m
  pub keeps : (i : ℕ) → Off x 35 i → get_or e i 0 ≡ get_or m i 0

-- bytes put into the line
pub lined_put : (m : List ℕ) (x at : ℕ) (w : List ℕ) → x ≤ at → at + length w ≤ x + 35 → x + 35 ≤ length m → Lined m x (put at w m)
lined_put m x at w a b c =
    record {
      size = length_put at w m (omega arith);
      keeps = λ i o. put_off at w m (omega arith) i (⊎_elim (λ h. inl (omega arith)) (λ h. inr (omega arith)) o);
    }

pub lined_more : {m e f : List ℕ} {x : ℕ} → Lined m x e → Lined e x f → Lined m x f
lined_more a b = record { size = b.size ∙ a.size; keeps = λ i o. b.keeps i o ∙ a.keeps i o }

-- the 35 bytes of the line at y are as they were
abbrev pub LineKept : (d e : List ℕ) → ℕ → Type 0
LineKept d e y = (k : ℕ) → k < 35 → get_or e (y + k) 0 ≡ get_or d (y + k) 0

-- e is what a save or a delete makes of d: clean, with these lines; apart from the VTOC, the page of the line and the sectors `new` it is as it was, and
-- the map calls what it called free, without `new` and with `gone`
pub record After (n : ℕ) (d e : List ℕ) (ls : List (Option File)) (line : ℕ) (new gone : List Place) : Type 0 where
  pub reading : Reading n e
  pub lines : reading.ls ≡ ls
  pub bytes : Bytes e
  pub size : length e ≡ length d
  pub page : Place
  pub page_is : Within n page line
  pub rest : (q : Place) → on_disk n q ≡ true → (number_of n q ≡ number_of n vtoc → ⊥) → (number_of n q ≡ number_of n page → ⊥)
      → held n new (number_of n q) ≡ 0 → bytes_of n e q ≡ bytes_of n d q
  pub fixed : (k : ℕ) → k < 256 → Fixed k → byte_of n e vtoc k ≡ byte_of n d vtoc k
  pub paged : (k : ℕ) → k < 256 → Off line 35 (start n page + k) → byte_of n e page k ≡ byte_of n d page k
  pub new_used : (q : Place) → on_disk n q ≡ true → 0 < held n new (number_of n q) → free n e q ≡ false
  pub gone_free : (q : Place) → on_disk n q ≡ true → 0 < held n gone (number_of n q) → free n e q ≡ true
  pub map_kept : (q : Place) → on_disk n q ≡ true → held n new (number_of n q) ≡ 0 → held n gone (number_of n q) ≡ 0 → free n e q ≡ free n d q
  -- line by line: the others, and all sectors that the lines of d hold, are as they were; this one held `gone` and holds `new`
  pub old : Reading n d
  pub front : List ℕ
  pub back : List ℕ
  pub changed : Changed n d e old front line back
  pub kept_front : Every (LineKept d e) front
  pub kept_back : Every (LineKept d e) back
  pub was_held : line_holds n d line ≡ Ok gone
  pub is_held : line_holds n e line ≡ Ok new

-- a line ends within the disk
pub line_fits : (n : ℕ) → 0 < n → (d : List ℕ) → length d ≡ 256 * sectors n → (r : Reading n d) (a : List ℕ) (x : ℕ) (b : List ℕ) → starts n r.ps ≡ a ++ x ∷ b
    → x + 35 ≤ length d
line_fits n z d size r a x b split =
    let t = every_here a x b (subst (Every (λ (y : ℕ). (p : Place) × Sector n d p × Within n p y)) split (starts_each n d (page_sectors n z d r))) in
    let f = sector_fits n d t.0 size t.1.on in
    let w = t.2.high in
    omega arith

module _ (n : ℕ) (z : 0 < n) (d : List ℕ) (r : Reading n d) (new : List Place) (m : List ℕ) (x : ℕ) (e : List ℕ) (mid : Mid n d new m) (line : Lined m x e)
    (fresh : (q : Place) → on_disk n q ≡ true → 0 < held n new (number_of n q) → free n d q ≡ true)
  where
    -- a sector in use is not one of the new
    old : (q : Place) → Sector n d q → held n new (number_of n q) ≡ 0
    old q s = by_lt 0 (held n new (number_of n q)) (λ h. absurd (unlike s.used (fresh q s.on h))) (λ h. omega arith)

    stays : (q : Place) → Sector n d q → bytes_of n m q ≡ bytes_of n d q
    stays q s = mid.rest q s.on s.not_vtoc (old q s)

    -- a byte of another sector than that of the line
    off_sector : (p q : Place) (k : ℕ) → Within n p x → (number_of n q ≡ number_of n p → ⊥) → k < 256 → byte_of n e q k ≡ byte_of n m q k
    off_sector p q k w h l =
        line.keeps (start n q + k)
        (by_lt (number_of n q) (number_of n p) (λ a. inl (omega arith))
        (λ a. by_lt (number_of n p) (number_of n q) (λ b. inr (omega arith)) (λ b. absurd (h (omega arith)))))

    -- a byte before the line's sector's lines
    off_front : (p q : Place) (k : ℕ) → Within n p x → k < 11 → byte_of n e q k ≡ byte_of n m q k
    off_front p q k w l =
        line.keeps (start n q + k)
        (by_lt (number_of n p) (number_of n q) (λ b. inr (omega arith)) (λ a. inl (omega arith)))

    -- another line
    other_kept : (p : Place) (y : ℕ) → Sector n d p → Within n p y → Far x y → LineKept d e y
    other_kept p y s w f k h =
        let j : ℕ = y + k - start n p in
        let q : y + k ≡ start n p + j = omega arith in
        let o : Off x 35 (y + k) = ⊎_elim (λ a. inr (omega arith)) (λ a. inl (omega arith)) f in
        line.keeps (y + k) o ∙ ap (λ (i : ℕ). get_or m i 0) q ∙ byte_same n d m p (stays p s) j (omega arith) ∙ ap (λ (i : ℕ). get_or d i 0) (sym q)

    other_line : (p : Place) (y : ℕ) → Sector n d p → Within n p y → Far x y → entry_from e y ≡ entry_from d y
    other_line p y s w f = entry_same d e (line.size ∙ mid.size) y (other_kept p y s w f)

    module _ (a b : List ℕ) (split : starts n r.ps ≡ a ++ x ∷ b) where
      -- the page of each line
      abbrev Paged : ℕ → Type 0
      Paged y = (p : Place) × (Sector n d p × (among (number_of n p) (map (number_of n) r.ps) ≡ true)) × Within n p y

      paged : Every Paged (a ++ x ∷ b)
      paged = subst (Every Paged) split (starts_each n d (page_sectors_in n z d r))

      pub line_page : Paged x
      line_page = every_here a x b paged

      spread : Every (Far x) a × Every (Far x) b
      spread = spread_split a x b (rw split at (starts_spread n d r.ps (pages_apart n z d r)))

      paged_parts : Every Paged a × Every Paged (x ∷ b)
      paged_parts = split_every a paged

      tail : {y : ℕ} {ys : List ℕ} → Every Paged (y ∷ ys) → Every Paged ys
      tail (Every.more h t) = t

      others : {ys : List ℕ} → Every Paged ys → Every (Far x) ys → Every (λ (y : ℕ). entry_from e y ≡ entry_from d y) ys
      others p f = every_imp (λ y t. other_line t.0.0 y t.0.1.0 t.0.2 t.1) (every_both p f)

      kept_in : {ys : List ℕ} → Every Paged ys → Every (Far x) ys → Every (LineKept d e) ys
      kept_in p f = every_imp (λ y t. other_kept t.0.0 y t.0.1.0 t.0.2 t.1) (every_both p f)

      pub kept_lines : Every (LineKept d e) a × Every (LineKept d e) b
      kept_lines = (kept_in paged_parts.0 spread.0, kept_in (tail paged_parts.1) spread.1)

      pub mid_changed : Plain e x → Changed n d e r a x b
      mid_changed plain =
          let l = line_page in
          let v : number_of n vtoc ≡ number_of n l.0 → ⊥ = λ q. l.1.0.not_vtoc (sym q) in
          record {
            size = line.size ∙ mid.size;
            head = λ k h. off_sector l.0 vtoc k l.2 v (omega arith) ∙ mid.head k h;
            table = λ k h g. off_sector l.0 vtoc k l.2 v (omega arith) ∙ mid.table k h g;
            split = split;
            before = others paged_parts.0 spread.0;
            after = others (tail paged_parts.1) spread.1;
            plain = plain;
            links =
                every_imp
                (λ p s. (
                  off_front l.0 p 1 l.2 (omega arith) ∙ byte_same n d m p (stays p s.0) 1 (omega arith),
                  off_front l.0 p 2 l.2 (omega arith) ∙ byte_same n d m p (stays p s.0) 2 (omega arith),
                ))
                (page_sectors_in n z d r);
            alike =
                every_imp
                (λ u t.
                every_imp
                (λ q s.
                sector_ext n m e q line.size
                (λ k h. off_sector l.0 q k l.2 (λ g. unlike s.1 (rw (← g) at l.1.1)) h)
                ∙ stays q s.0)
                (every_both t.0 t.1))
                (every_both (line_sectors_lem n z d r) (lines_pages n z d r));
          }

      -- the map is as it was made
      pub line_free : (q : Place) → q.track.0 < 35 → free n e q ≡ free n m q
      unfolding free
      line_free q h =
          let l = line_page in
          let v : number_of n vtoc ≡ number_of n l.0 → ⊥ = λ g. l.1.0.not_vtoc (sym g) in
          rw (off_sector l.0 vtoc (56 + 4 * q.track.0) l.2 v (omega arith), off_sector l.0 vtoc (57 + 4 * q.track.0) l.2 v (omega arith)) refl

      -- the VTOC, but for last track, direction and the map
      pub line_fixed : (k : ℕ) → k < 256 → Fixed k → byte_of n e vtoc k ≡ byte_of n d vtoc k
      line_fixed k h f =
          let l = line_page in
          let v : number_of n vtoc ≡ number_of n l.0 → ⊥ = λ g. l.1.0.not_vtoc (sym g) in
          off_sector l.0 vtoc k l.2 v h ∙ ⊎_elim (mid.head k) (λ t. ⊎_elim (λ u. mid.table k u.0 u.1) (λ u. mid.tail k u h) t) f

      -- the page, but for the line
      pub line_paged : (k : ℕ) → k < 256 → Off x 35 (start n line_page.0 + k) → byte_of n e line_page.0 k ≡ byte_of n d line_page.0 k
      line_paged k h o =
          let l = line_page in
          line.keeps (start n l.0 + k) o ∙ byte_same n d m l.0 (stays l.0 l.1.0) k h

      -- any sector but the line's is as it was written
      pub line_sector : (q : Place) → (number_of n q ≡ number_of n line_page.0 → ⊥) → bytes_of n e q ≡ bytes_of n m q
      line_sector q p = sector_ext n m e q line.size (λ k g. off_sector line_page.0 q k line_page.2 p g)

      -- any sector but the VTOC, the line's and the new ones is as it was
      pub line_rest : (q : Place) → on_disk n q ≡ true → (number_of n q ≡ number_of n vtoc → ⊥) → (number_of n q ≡ number_of n line_page.0 → ⊥)
          → held n new (number_of n q) ≡ 0 → bytes_of n e q ≡ bytes_of n d q
      line_rest q on v p h =
          line_sector q p ∙ mid.rest q on v h
