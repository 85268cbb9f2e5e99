-- The claim of Req 09: saves and deletes in a row on a clean disk. Assumes nothing.
use mathlib.Core.Path.{◌≡◌, refl, sym, ap, subst, ◌∙◌}
use mathlib.Core.Bool.{Bool, true, false, not, ◌&&◌, ◌||◌}
use mathlib.Core.Logic.{◌⊎◌, inl, inr, ⊎_elim}
use mathlib.Core.List.{List, [], ◌∷◌}
use mathlib.Core.Option.{Option}
use Prim.Native.Nat.{ℕ, ◌+◌, ◌*◌, ◌/◌, ◌<◌, ◌≤◌}
use native.Mathlib.Omega.{arith}
use lib.ListN.{length, get_or}
use Rattle.lists.specs.Every.{Every}
use Rattle.lists.specs.Fill.{Bytes}
use Rattle.std.specs.Prelude.{Ok, Err}
use Rattle.outcome.specs.declared.Refusal.{Refusal}
use Rattle.outcome.specs.declared.Refusal.TheVariants.{UnwritableName, NoSpace, NameTaken}
use Rattle.outcome.specs.Outcome.{Outcome, ◌>>=◌, ◌>>◌, require}
use Rattle.outcome.proofs.Outcome.{refused_given}
use Rattle.disk.specs.declared.Place.{Place}
use Rattle.disk.specs.Disk.{start, sectors, number_of, byte_of}
use Rattle.disk.specs.Vtoc.{vtoc}
use Rattle.disk.proofs.Places.{same_place, is_on}
use Rattle.catalog.specs.Catalog.{entry_from}
use Rattle.files.specs.Contents.{File, Contents, contents}
use Rattle.files.specs.Survey.{last_named, fetched}
use Rattle.lists.specs.Select.{any}
use lib.Dec.{leb}
use Rattle.holders.specs.Holders.{free, sectors_of}
use Rattle.holders.proofs.Counting.{unheld_among, held_among}
use Rattle.holders.proofs.Refusals.{contents_with}
use Rattle.amend.specs.Lines.{savable, lines, present, is_open, holds_name}
use Rattle.amend.specs.Save.{Part, sectors_in, take_for, saved}
use Rattle.amend.specs.Amending.{Op, OfBytes, amend, kept, run, file_saved, planned, planned_by, plan, foreseen, needed, released, line_for, is_in, Clean, Touches, AmendingOf, Amending}
use Rattle.amend.specs.Amending
use Rattle.lists.proofs.Split.{by_test}
use Rattle.amend.proofs.Puts.{Off}
use Rattle.amend.proofs.Lines.{Within}
use Rattle.amend.proofs.Reading.{Reading, tidy_given, tidy_reading, reading_tidy, reading_lines, lines_reading, contents_lines, contents_size}
use Rattle.amend.proofs.Mid.{After}
use Rattle.amend.proofs.Saves.{save_clean, savable_shown}
use Rattle.amend.proofs.Deletes.{delete_clean}
use Rattle.amend.proofs.Seeks.{seek_takable, seek_none}
use Rattle.amend.proofs.Listed.{filled_named}
use Rattle.amend.proofs.Answers.{seek_refused, save_answers, save_accepts, delete_answers, delete_accepts}

module _ (n : ℕ) (some' : 0 < n) (few : n ≤ 16) where
  -- a clean disk, line by line
  pub reading_of : (d : List ℕ) (c : Clean n d) → (r : Reading n d) × (c.has ≡ contents_with n d (present r.ls))
  reading_of d c = tidy_reading n d c.has c.is

  pub size_of : (d : List ℕ) → Clean n d → length d ≡ 256 * sectors n
  size_of d c = contents_size n d c.has (tidy_given n d c.has c.is).1

  pub clean_of : (d : List ℕ) → Bytes d → Reading n d → Clean n d
  clean_of d b r = record { bytes = b; has = contents_with n d (present r.ls); is = reading_tidy n d r }

  -- ---- one op that is accepted
  -- the line, the new sectors, and what is read after
  pub record Step (d : List ℕ) (ls : List (Option File)) (op : Op) (e : List ℕ) : Type 0 where
    pub line : ℕ
    pub new : List Place
    pub line_is : line_for n d op ≡ Ok line
    pub new_is : needed n d op ≡ Ok new
    pub gone : List Place
    pub gone_is : released n d op ≡ Ok gone
    pub after : After n d e (planned op ls) line new gone

  step : (d : List ℕ) (c : Clean n d) (r : Reading n d) (op : Op) → OfBytes op → (e : List ℕ) → amend n d op ≡ Ok e → Step d r.ls op e
  step d c r (Amending.Op.save name address bytes) b e h =
      let t = save_clean n some' few d c.bytes (size_of d c) r name address bytes b e h in
      let q : take_for n (length bytes) d ≡ Ok (t.1, t.2) = t.4 in
      record {
        line = t.0;
        new = sectors_in t.1;
        line_is = t.3;
        new_is = taken_is (take_for n (length bytes) d) t.1 t.2 q;
        gone = [];
        gone_is = refl;
        after = t.5;
      }
    where
      taken_is : (o : Outcome (List Part × List ℕ)) (gs : List Part) (m : List ℕ) → o ≡ Ok (gs, m)
          → (o >>= λ r. Ok (sectors_in r.0)) ≡ Ok (sectors_in gs)
      taken_is o gs m p = rw p refl
  step d c r (Amending.Op.delete name) b e h =
      let t = delete_clean n some' few d c.bytes (size_of d c) r name e h in
      record { line = t.0; new = []; line_is = t.2; new_is = refl; gone = t.1; gone_is = ap (λ (o : Outcome ℕ). o >>= λ x. sectors_of n d (entry_from d x)) t.2 ∙ t.3; after = t.4 }

  -- ---- the claims
  lined_is : (d : List ℕ) (c : Contents) → contents n d ≡ Ok c → (ls : List (Option File)) × (lines n d ≡ Ok ls) × (c.files ≡ present ls)
  unfolding lines
  lined_is d c h = let t = contents_lines n d c h in (t.1, rw t.2 t.3, t.4)

  -- a disk that is clean, with these lines, after some ops
  runs : (ops : List Op) → Every OfBytes ops → (d : List ℕ) → Clean n d → (r : Reading n d)
      → (t : Reading n (run n d ops)) × (t.ls ≡ plan n d ops r.ls) × Bytes (run n d ops) × (byte_of n (run n d ops) vtoc 6 ≡ byte_of n d vtoc 6)
  unfolding run plan
  runs [] Every.none d c r = (r, refl, c.bytes, refl)
  runs (op ∷ ops) (Every.more b bs) d c r = go (amend n d op) refl (runs ops bs)
    where
      go : (o : Outcome (List ℕ)) → amend n d op ≡ o
          → ((d' : List ℕ) → Clean n d' → (r' : Reading n d')
          → (t : Reading n (run n d' ops)) × (t.ls ≡ plan n d' ops r'.ls) × Bytes (run n d' ops) × (byte_of n (run n d' ops) vtoc 6 ≡ byte_of n d' vtoc 6))
          → (t : Reading n (run n (kept d o) ops)) × (t.ls ≡ plan n (kept d o) ops (planned_by o op r.ls)) × Bytes (run n (kept d o) ops)
          × (byte_of n (run n (kept d o) ops) vtoc 6 ≡ byte_of n d vtoc 6)
      go (Err q) h i = i d c r
      go (Ok e) h i =
          let s = step d c r op b e h in
          let t = i e (clean_of e s.after.bytes s.after.reading) s.after.reading in
          (t.0, t.1 ∙ ap (plan n e ops) s.after.lines, t.2, t.3 ∙ s.after.fixed 6 (omega arith) (inl (omega arith)))

  -- the number of the page of a line
  page_number : (p : Place) (x : ℕ) → Within n p x → x / 256 ≡ number_of n p
  page_number p x w = let a = w.low in let b = w.high in omega arith

  touches_is : (d : List ℕ) → Clean n d → (op : Op) → OfBytes op → (e : List ℕ) → amend n d op ≡ Ok e → Touches n d op e
  touches_is d c op b e h =
      let r = (reading_of d c).0 in
      let s = step d c r op b e h in
      let f = s.after in
      record {
        line = s.line;
        line_is = s.line_is;
        new = s.new;
        new_is = s.new_is;
        size = f.size;
        rest = λ p on v l m.
            f.rest p on (λ q. v (same_place n p vtoc on (is_on n 17 0 (omega arith) some') q))
            (λ q. l (q ∙ sym (page_number f.page s.line f.page_is))) (unheld_among n (number_of n p) s.new m);
        gone = s.gone;
        gone_is = s.gone_is;
        page = λ p on q k h o.
            let z : number_of n p ≡ number_of n f.page = q ∙ page_number f.page s.line f.page_is in
            let u : start n p ≡ start n f.page = ap (λ (i : ℕ). 256 * i) z in
            ap (λ (i : ℕ). get_or e (i + k) 0) u ∙ f.paged k h (subst (λ (i : ℕ). Off s.line 35 (i + k)) u o) ∙ ap (λ (i : ℕ). get_or d (i + k) 0) (sym u);
        table = f.fixed;
        bits = λ p on.
            by_test (is_in n s.gone p)
            (λ g. f.gone_free p on (held_among n (number_of n p) s.gone g) ∙ rw g (sym (or_true (free n d p && not (is_in n s.new p)))))
            (λ g.
            let g0 = unheld_among n (number_of n p) s.gone g in
            by_test (is_in n s.new p)
            (λ w. f.new_used p on (held_among n (number_of n p) s.new w) ∙ rw (g, w) (sym (and_not (free n d p))))
            (λ w. f.map_kept p on (unheld_among n (number_of n p) s.new w) g0 ∙ rw (g, w) (sym (and_yes (free n d p)))));
      }
    where
      or_true : (b : Bool) → (b || true) ≡ true
      or_true true = refl
      or_true false = refl

      and_not : (b : Bool) → ((b && false) || false) ≡ false
      and_not true = refl
      and_not false = refl

      and_yes : (b : Bool) → ((b && true) || false) ≡ b
      and_yes true = refl
      and_yes false = refl

  -- the lines of a clean disk
  lines_of : (d : List ℕ) (c : Clean n d) (ls : List (Option File)) → lines n d ≡ Ok ls → (r : Reading n d) × (r.ls ≡ ls)
  lines_of d c ls h = let r = (reading_of d c).0 in (r, lines_reading n d r ls h)

  answer : (d : List ℕ) (r : Reading n d) (op : Op) (q : Refusal) → amend n d op ≡ Err q
      → (foreseen op r.ls ≡ Err q) ⊎ ((foreseen op r.ls ≡ Ok tt) × (needed n d op ≡ Err q) × (q ≡ NoSpace))
  answer d r (Amending.Op.save name address bytes) q h =
      ⊎_elim inl (λ t. inr (t.0, rw t.1 refl, t.2)) (save_answers n d r (reading_tidy n d r) name address bytes q h)
  answer d r (Amending.Op.delete name) q h = inl (delete_answers n d r (reading_tidy n d r) name q h)

  accept : (d : List ℕ) (r : Reading n d) (op : Op) (e : List ℕ) → amend n d op ≡ Ok e → foreseen op r.ls ≡ Ok tt
  accept d r (Amending.Op.save name address bytes) e h = save_accepts n d r (reading_tidy n d r) name address bytes e h
  accept d r (Amending.Op.delete name) e h = delete_accepts n d r (reading_tidy n d r) name e h

  -- the contents, by the volume and the lines
  contents_of_lem : (e d : List ℕ) (r : Reading n e) (ls : List (Option File)) → byte_of n e vtoc 6 ≡ byte_of n d vtoc 6 → r.ls ≡ ls
      → contents n e ≡ Ok (record { volume = byte_of n d vtoc 6; files = present ls })
  contents_of_lem e d r ls v q =
      (tidy_given n e (contents_with n e (present r.ls)) (reading_tidy n e r)).1 ∙ (λ i. Ok (record { volume = v i; files = present (q i) }))

  -- what was saved is fetched
  fetch_is : (d : List ℕ) → Clean n d → (name : List ℕ) (address : ℕ) (bytes : List ℕ) → Bytes bytes → (e : List ℕ) → saved n d name address bytes ≡ Ok e
      → fetched n e name ≡ Ok bytes
  unfolding fetched
  fetch_is d c name address bytes b e h =
      let r = (reading_of d c).0 in
      let f = (step d c r (Amending.Op.save name address bytes) b e h).after in
      let k = fore_parts (savable name) (any (holds_name name) r.ls) (leb (length bytes) 32768) (any is_open r.ls) (accept d r (Amending.Op.save name address bytes) e h) in
      let t : contents n e ≡ Ok (contents_with n e (present f.reading.ls)) = (tidy_given n e (contents_with n e (present f.reading.ls)) (reading_tidy n e f.reading)).1 in
      rw t (ap (λ (ls : List (Option File)). last_named name (present ls)) f.lines ∙ filled_named name (file_saved name bytes) (savable_shown name k.0) r.ls k.1 k.2)
    where
      fore_parts : (A B C D : Bool) → require A UnwritableName >> require (not B) NameTaken >> require C NoSpace >> require D NoSpace ≡ Ok tt → (A ≡ true) × (B ≡ false) × (D ≡ true)
      fore_parts true false true true q = (refl, refl, refl)
      fore_parts true false true false q = absurd (refused_given q)
      fore_parts true false false D q = absurd (refused_given q)
      fore_parts true true C D q = absurd (refused_given q)
      fore_parts false B C D q = absurd (refused_given q)

  -- ---- the whole
  pub amending_of : AmendingOf n
  amending_of =
      record {
        lined = lined_is;
        stays = λ d c ops b. let t = runs ops b d c (reading_of d c).0 in clean_of (run n d ops) t.2 t.0;
        follows = λ d c ops b ls h.
            let r = lines_of d c ls h in
            let t = runs ops b d c r.0 in
            reading_lines n (run n d ops) t.0 ∙ ap Ok (t.1 ∙ ap (plan n d ops) r.1);
        contains = λ d c ops b ls h.
            let r = lines_of d c ls h in
            let t = runs ops b d c r.0 in
            contents_of_lem (run n d ops) d t.0 (plan n d ops ls) t.3 (t.1 ∙ ap (plan n d ops) r.1);
        fetches = fetch_is;
        answers = λ d c op ls h q k.
            let r = lines_of d c ls h in
            subst (λ (l : List (Option File)). (foreseen op l ≡ Err q) ⊎ ((foreseen op l ≡ Ok tt) × (needed n d op ≡ Err q) × (q ≡ NoSpace))) r.1 (answer d r.0 op q k);
        accepts = λ d c op ls h e k.
            let r = lines_of d c ls h in
            subst (λ (l : List (Option File)). foreseen op l ≡ Ok tt) r.1 (accept d r.0 op e k);
        searches = λ d later.
            record { finds = seek_takable n d some' later; fails = λ q h. (seek_refused n later d q h, seek_none n d later q h) };
        touches = touches_is;
      }

-- Req 09
pub amending : Amending
amending = amending_of 16 (omega arith) (omega arith)
