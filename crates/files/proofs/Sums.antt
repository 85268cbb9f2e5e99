-- The totals of a pass are those of the contents: entries, lists, archive blocks and the choice; and they refuse as the contents do. Assumes nothing.
use mathlib.Core.Path.{◌≡◌, refl, sym, ap, ◌∙◌}
use mathlib.Core.Logic.{⊎_elim}
use mathlib.Core.Bool.{Bool, true, cond}
use mathlib.Core.List.{List, [], ◌∷◌, ◌++◌, map, flat_map}
use Prim.Native.Nat.{ℕ, suc, ◌+◌, ◌*◌, ◌<◌}
use native.Mathlib.Omega.{arith}
use lib.ListN.{length, get_or, take, drop, length-append, length-take, length-drop, get_or-append}
use lib.Seq.{get_or-take, get_or-drop}
use lib.Dec.{eqb, leb}
use borrow.Author.Tests.{eqb-true, eqb-false, leb-true, lt-leb}
use Rattle.lists.specs.Select.{all}
use Rattle.lists.specs.Words.{word_at}
use Rattle.lists.proofs.Split.{by_test, both_true}
use Rattle.lists.proofs.Chunks.{length_chunks}
use Rattle.std.specs.Prelude.{Ok, Err, Option}
use Rattle.outcome.specs.declared.Refusal.{Refusal}
use Rattle.outcome.specs.Outcome.{Outcome, ◌>>=◌, each, steps}
use Rattle.outcome.proofs.Outcome.{gives, refuses, each_cons, each_on, each_append, map_refuses, refused_given}
use Rattle.disk.specs.declared.Place.{Place}
use Rattle.disk.specs.Disk.{place, start, sectors, on_disk, word_of, bytes_of}
use Rattle.disk.proofs.Places.{length_sector}
use Rattle.catalog.specs.Catalog.{Entry, entries_of}
use Rattle.files.specs.declared.Choice.{Choice}
use Rattle.files.specs.declared.Thread.{Thread}
use Rattle.files.specs.declared.Totals.{Totals}
use Rattle.files.specs.Contents.{File, bytes_in, pairs_of, lists, file_of}
use Rattle.files.specs.Threads.{head_of, followed, size_of}
use Rattle.files.specs.Survey.{blocks_for, blocks_in, sum_of}
use Rattle.files.specs.Totals.{chosen, with_thread, with_entry, with_link, with_page}
use Rattle.files.specs.Chosen.{chosen_in}
use Rattle.files.proofs.Order.{file_given, file_refused, file_with}
use Rattle.files.proofs.Proper.{all_long, bytes_in_binary}

-- ---- sums of two runs
blocks_append : (fs gs : List File) → blocks_in (fs ++ gs) ≡ blocks_in fs + blocks_in gs
unfolding blocks_in
blocks_append [] gs = omega arith
blocks_append (f ∷ fs) gs = rw (blocks_append fs gs) (omega arith)

sum_append : (a b : List (List Place)) → sum_of (map length (a ++ b)) ≡ sum_of (map length a) + sum_of (map length b)
unfolding sum_of
sum_append [] b = omega arith
sum_append (x ∷ a) b = rw (sum_append a b) (omega arith)

-- ---- a file's size
module _ (n : ℕ) (d : List ℕ) (sized : length d ≡ 256 * sectors n) where
  -- the stated length stands in the first sector
  pub stated : (p : Place) (ps : List Place) → length (bytes_of n d p) ≡ 256 → word_at (flat_map (bytes_of n d) (p ∷ ps)) 2 ≡ word_of n d p 2
  unfolding flat_map bytes_of
  stated p ps e =
      let l : (k : ℕ) → k < 256 → get_or (take 256 (drop (start n p) d) ++ flat_map (bytes_of n d) ps) k 0 ≡ get_or d (start n p + k) 0 =
      λ k h. get_or-append (take 256 (drop (start n p) d)) (flat_map (bytes_of n d) ps) 0 k (omega arith) ∙ get_or-take 256 (drop (start n p) d) k 0 h ∙ get_or-drop (start n p) d k 0 in
      rw (l 2 (omega arith), l 3 (omega arith)) refl

  -- the first is a whole sector
  pub first : (p : Place) (ps : List Place) → all (on_disk n) (p ∷ ps) ≡ true → length (bytes_of n d p) ≡ 256
  unfolding all
  first p ps h = length_sector n d p sized (both_true (on_disk n p) _ h).0

  -- what is counted is the length of the bytes
  size_4 : (ps : List Place) → all (on_disk n) ps ≡ true
      → cond (leb (4 + word_of n d (head_of ps) 2) (256 * length ps)) (word_of n d (head_of ps) 2) (256 * length ps) ≡ length (bytes_in 4 (flat_map (bytes_of n d) ps))
  unfolding bytes_in flat_map
  size_4 [] a = rw (lt-leb (4 + word_of n d (place 0 0) 2) 0 (omega arith)) refl
  size_4 (p ∷ ps) a =
      let s : List ℕ = flat_map (bytes_of n d) (p ∷ ps) in
      let k : ℕ = word_of n d p 2 in
      let l : length s ≡ 256 * length (p ∷ ps) = length_chunks (bytes_of n d) 256 (all_long n d sized (p ∷ ps) a) in
      let w : word_at s 2 ≡ k = stated p ps (first p ps a) in
      by_test (leb (4 + k) (256 * length (p ∷ ps)))
      (λ e.
      let m = leb-true (4 + k) (256 * length (p ∷ ps)) e in
      let z : length (take k (drop 4 s)) ≡ k = length-take k (drop 4 s) ∙ rw length-drop (omega arith) in
      rw (w, l, e) (sym z))
      (λ e. rw (w, l, e) (sym l))

  pub size_is : (kind : ℕ) (ps : List Place) (t : Thread) → all (on_disk n) ps ≡ true → t.pairs ≡ length ps → t.head ≡ head_of ps
      → size_of n d kind t ≡ length (bytes_in kind (flat_map (bytes_of n d) ps))
  unfolding size_of
  size_is kind ps t a b c =
      by_test (eqb kind 4) (λ e. let q = eqb-true kind 4 e in rw (q, b, c) (size_4 ps a)) (λ e. let q = eqb-false kind 4 e in rw (e, bytes_in_binary kind (flat_map (bytes_of n d) ps) q) refl)

-- ---- the totals with k pages, the entries es, their files fs and their lists ls more
module _ (n : ℕ) (d : List ℕ) (g : ℕ → Entry → Bool) where
  abbrev pub plus : Totals → ℕ → List Entry → List File → List (List Place) → Totals
  plus t k es fs ls =
      record {
        entries = t.entries + length es;
        links = t.links + k + sum_of (map length ls);
        blocks = t.blocks + blocks_in fs;
        choice = chosen_in n d g t.choice t.entries es;
      }

  -- the choice after one entry
  abbrev after_one : Option Choice → ℕ → Entry → Option Choice
  after_one c i e = elim (followed n d (lists n d e)) [ Err r ↦ c | Ok h ↦ chosen n d g c i e h ]

  chosen_append : (c : Option Choice) (i : ℕ) (es gs : List Entry)
      → chosen_in n d g (chosen_in n d g c i es) (i + length es) gs ≡ chosen_in n d g c i (es ++ gs)
  unfolding chosen_in
  chosen_append c i [] gs = let e : i + 0 ≡ i = omega arith in rw e refl
  chosen_append c i (e ∷ es) gs =
      let q : i + suc (length es) ≡ i + 1 + length es = omega arith in
      rw q (chosen_append (after_one c i e) (i + 1) es gs)

  -- one run after the other
  plus_plus : (t : Totals) (k m : ℕ) (es gs : List Entry) (fs hs : List File) (ls ms : List (List Place))
      → plus (plus t k es fs ls) m gs hs ms ≡ plus t (k + m) (es ++ gs) (fs ++ hs) (ls ++ ms)
  plus_plus t k m es gs fs hs ls ms =
      let a : t.entries + length es + length gs ≡ t.entries + length (es ++ gs) = rw length-append (omega arith) in
      let q : t.links + k + sum_of (map length ls) + m + sum_of (map length ms) ≡ t.links + (k + m) + sum_of (map length (ls ++ ms)) = rw sum_append (omega arith) in
      let r : t.blocks + blocks_in fs + blocks_in hs ≡ t.blocks + blocks_in (fs ++ hs) = rw blocks_append (omega arith) in
      let c = chosen_append t.choice t.entries es gs in
      λ i. record { entries = a i; links = q i; blocks = r i; choice = c i }

  -- nothing more
  plus_nil : (t : Totals) → t ≡ plus t 0 [] [] []
  unfolding chosen_in blocks_in sum_of
  plus_nil t =
      let a : t.entries ≡ t.entries + 0 = omega arith in
      let q : t.links ≡ t.links + 0 + 0 = omega arith in
      let r : t.blocks ≡ t.blocks + 0 = omega arith in
      λ i. record { entries = a i; links = q i; blocks = r i; choice = t.choice }

  -- a link more
  link_plus : (t : Totals) → with_link t ≡ plus t 1 [] [] []
  unfolding chosen_in blocks_in sum_of
  link_plus t =
      let a : t.entries ≡ t.entries + 0 = omega arith in
      let q : t.links + 1 ≡ t.links + 1 + 0 = omega arith in
      let r : t.blocks ≡ t.blocks + 0 = omega arith in
      λ i. record { entries = a i; links = q i; blocks = r i; choice = t.choice }

  -- one entry that refuses
  followed_refused : (e : Entry) (r : Refusal) → file_of n d e ≡ Err r → followed n d (lists n d e) ≡ Err r
  followed_refused e r h = ⊎_elim (λ k. rw k refl) (λ k. rw k.3 (rw (k.1, k.2) refl)) (file_refused n d e r h)

  one_refused : (t : Totals) (e : Entry) (r : Refusal) → file_of n d e ≡ Err r → with_entry n d g t e ≡ Err r
  unfolding with_entry
  one_refused t e r h = rw (followed_refused e r h) refl

  module _ (sized : length d ≡ 256 * sectors n) where
    -- one entry with these lists
    one_plus : (t : Totals) (e : Entry) (l : List Place) → lists n d e ≡ Ok l → all (on_disk n) (flat_map (pairs_of n d) l) ≡ true
        → with_entry n d g t e ≡ Ok (plus t 0 (e ∷ []) (file_with n d e (flat_map (pairs_of n d) l) ∷ []) (l ∷ []))
    unfolding with_entry chosen_in blocks_in sum_of
    one_plus t e l s a =
        let ps : List Place = flat_map (pairs_of n d) l in
        let h : Thread = record { lists = length l; pairs = length ps; head = head_of ps } in
        let k : size_of n d e.kind h ≡ length (bytes_in e.kind (flat_map (bytes_of n d) ps)) = size_is n d sized e.kind ps h a refl refl in
        let u : t.links + length l ≡ t.links + 0 + (length l + 0) = omega arith in
        let r : t.blocks + (1 + blocks_for (size_of n d e.kind h)) ≡ t.blocks + (1 + blocks_for (length (bytes_in e.kind (flat_map (bytes_of n d) ps))) + 0) = rw k (omega arith) in
        let f : followed n d (lists n d e) ≡ Ok h = rw (s, a) refl in
        let q : chosen_in n d g t.choice t.entries (e ∷ []) ≡ chosen n d g t.choice t.entries e h =
        ap (λ (o : Outcome Thread). elim o [ Err z ↦ t.choice | Ok h' ↦ chosen n d g t.choice t.entries e h' ]) f in
        ap (λ (o : Outcome Thread). o >>= λ h'. Ok (with_thread n d g t e h')) f
        ∙ λ i. Ok (record { entries = t.entries + 1; links = u i; blocks = r i; choice = sym q i })

    -- some entries whose files are given
    pub some_given : (es : List Entry) (t : Totals) (fs : List File) → each (file_of n d) es ≡ Ok fs
        → (ls : List (List Place)) × (each (lists n d) es ≡ Ok ls) × (steps (with_entry n d g) t es ≡ Ok (plus t 0 es fs ls))
    unfolding each steps
    some_given [] t fs h =
        let q : [] ≡ fs = cc in
        ([], refl, ap Ok (plus_nil t ∙ ap (λ (y : List File). plus t 0 [] y []) q))
    some_given (e ∷ es) t fs h =
        let c = each_cons (file_of n d) e es fs h in
        let s = file_given n d e c.0 c.2 in
        let f : File = file_with n d e (flat_map (pairs_of n d) s.0) in
        let o : with_entry n d g t e ≡ Ok (plus t 0 (e ∷ []) (f ∷ []) (s.0 ∷ [])) = one_plus t e s.0 s.1 s.2 in
        let i = some_given es (plus t 0 (e ∷ []) (f ∷ []) (s.0 ∷ [])) c.1 c.3 in
        let w : f ∷ c.1 ≡ fs = ap (λ (y : File). y ∷ c.1) (sym s.3) ∙ sym c.4 in (
          s.0 ∷ i.0,
          each_on (lists n d) e es s.0 s.1 ∙ rw i.1 refl,
          ap (λ (u : Outcome Totals). u >>= λ c. steps (with_entry n d g) c es) o ∙ i.2
              ∙ ap Ok (plus_plus t 0 0 (e ∷ []) es (f ∷ []) c.1 (s.0 ∷ []) i.0 ∙ ap (λ (y : List File). plus t 0 (e ∷ es) y (s.0 ∷ i.0)) w),
        )

    -- some entries that refuse
    pub some_refused : (es : List Entry) (t : Totals) (r : Refusal) → each (file_of n d) es ≡ Err r → steps (with_entry n d g) t es ≡ Err r
    unfolding each steps
    some_refused [] t r h = absurd (refused_given (sym h))
    some_refused (e ∷ es) t r h =
        ⊎_elim
        (λ k. ap (λ (u : Outcome Totals). u >>= λ c. steps (with_entry n d g) c es) (one_refused t e r k))
        (λ k.
        let s = file_given n d e k.0 k.1 in
        let f : File = file_with n d e (flat_map (pairs_of n d) s.0) in
        ap (λ (u : Outcome Totals). u >>= λ c. steps (with_entry n d g) c es) (one_plus t e s.0 s.1 s.2)
        ∙ some_refused es (plus t 0 (e ∷ []) (f ∷ []) (s.0 ∷ [])) r (map_refuses _ (each (file_of n d) es) k.2))
        (refuses (file_of n d e) _ r h)

    -- one page: a link, and its entries
    page_given : (p : Place) (t : Totals) (fs : List File) → each (file_of n d) (entries_of n d p) ≡ Ok fs
        → (ls : List (List Place)) × (each (lists n d) (entries_of n d p) ≡ Ok ls) × (with_page n d g t p ≡ Ok (plus t 1 (entries_of n d p) fs ls))
    unfolding with_page
    page_given p t fs h =
        let i = some_given (entries_of n d p) (plus t 1 [] [] []) fs h in
        (i.0, i.1, ap (λ (u : Totals). steps (with_entry n d g) u (entries_of n d p)) (link_plus t) ∙ i.2 ∙ ap Ok (plus_plus t 1 0 [] (entries_of n d p) [] fs [] i.0))

    page_refused : (p : Place) (t : Totals) (r : Refusal) → each (file_of n d) (entries_of n d p) ≡ Err r → with_page n d g t p ≡ Err r
    unfolding with_page
    page_refused p t r h =
        ap (λ (u : Totals). steps (with_entry n d g) u (entries_of n d p)) (link_plus t) ∙ some_refused (entries_of n d p) (plus t 1 [] [] []) r h

    -- all pages
    pub pages_given : (ps : List Place) (t : Totals) (fs : List File) → each (file_of n d) (flat_map (entries_of n d) ps) ≡ Ok fs
        → (ls : List (List Place)) × (each (lists n d) (flat_map (entries_of n d) ps) ≡ Ok ls)
        × (steps (with_page n d g) t ps ≡ Ok (plus t (length ps) (flat_map (entries_of n d) ps) fs ls))
    unfolding flat_map each steps
    pages_given [] t fs h = let q : [] ≡ fs = cc in ([], refl, ap Ok (plus_nil t ∙ ap (λ (y : List File). plus t 0 [] y []) q))
    pages_given (p ∷ ps) t fs h =
        let a = gives (each (file_of n d) (entries_of n d p)) _ fs (sym (each_append (file_of n d) (entries_of n d p) (flat_map (entries_of n d) ps)) ∙ h) in
        let c = gives (each (file_of n d) (flat_map (entries_of n d) ps)) _ fs a.2 in
        let w : a.0 ++ c.0 ≡ fs = let y = c.2 in cc in
        let o = page_given p t a.0 a.1 in
        let i = pages_given ps (plus t 1 (entries_of n d p) a.0 o.0) c.0 c.1 in
        let m : 1 + length ps ≡ suc (length ps) = omega arith in (
          o.0 ++ i.0,
          each_append (lists n d) (entries_of n d p) (flat_map (entries_of n d) ps) ∙ rw (o.1, i.1) refl,
          ap (λ (u : Outcome Totals). u >>= λ c. steps (with_page n d g) c ps) o.2 ∙ i.2
              ∙ ap Ok
              (plus_plus t 1 (length ps) (entries_of n d p) (flat_map (entries_of n d) ps) a.0 c.0 o.0 i.0
              ∙ λ k. plus t (m k) (entries_of n d p ++ flat_map (entries_of n d) ps) (w k) (o.0 ++ i.0)),
        )

    pub pages_refused : (ps : List Place) (t : Totals) (r : Refusal) → each (file_of n d) (flat_map (entries_of n d) ps) ≡ Err r
        → steps (with_page n d g) t ps ≡ Err r
    unfolding flat_map each steps
    pages_refused [] t r h = absurd (refused_given (sym h))
    pages_refused (p ∷ ps) t r h =
        ⊎_elim
        (λ k. ap (λ (u : Outcome Totals). u >>= λ c. steps (with_page n d g) c ps) (page_refused p t r k))
        (λ k.
        let o = page_given p t k.0 k.1 in
        ap (λ (u : Outcome Totals). u >>= λ c. steps (with_page n d g) c ps) o.2
        ∙ pages_refused ps (plus t 1 (entries_of n d p) k.0 o.0) r (map_refuses _ (each (file_of n d) (flat_map (entries_of n d) ps)) k.2))
        (refuses (each (file_of n d) (entries_of n d p)) _ r (sym (each_append (file_of n d) (entries_of n d p) (flat_map (entries_of n d) ps)) ∙ h))
