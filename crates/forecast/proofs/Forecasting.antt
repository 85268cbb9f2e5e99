-- The forecast is what the saves do: the claim of Req 11. Assumes nothing.
use mathlib.Core.Path.{◌≡◌, refl, sym, ap, subst, ◌∙◌}
use mathlib.Core.Bool.{true, false, not}
use mathlib.Core.Logic.{◌⊎◌, inl, inr, ⊎_elim}
use mathlib.Core.List.{List, [], ◌∷◌, map, flat_map}
use mathlib.Core.Option.{Option, none, some}
use Prim.Native.Nat.{ℕ, ◌+◌, ◌*◌, ◌-◌, ◌<◌, ◌≤◌}
use native.Mathlib.Omega.{arith}
use lib.ListN.{length, get_or, length-map}
use lib.Dec.{leb, ltb}
use borrow.Author.Tests.{le-leb, lt-leb, leb-true, not-true}
use Rattle.lists.specs.Every.{Every}
use Rattle.lists.specs.Fill.{Bytes}
use Rattle.lists.specs.Same.{same}
use Rattle.lists.specs.Select.{any, filter}
use Rattle.lists.proofs.Split.{by_test}
use Rattle.lists.proofs.Among.{unlike}
use Rattle.lists.proofs.Equal.{same_eq}
use Rattle.std.specs.Prelude.{Ok, Err}
use Rattle.outcome.specs.declared.Refusal.{Refusal}
use Rattle.outcome.specs.declared.Refusal.TheVariants.{NoSpace, PlanLong}
use Rattle.outcome.specs.Outcome.{Outcome}
use Rattle.outcome.proofs.Outcome.{met}
use Rattle.disk.specs.declared.Place.{Place}
use Rattle.disk.specs.Disk.{start, bytes_of, sectors}
use Rattle.disk.specs.Vtoc.{vtoc}
use Rattle.catalog.specs.Catalog.{shown}
use Rattle.files.specs.Contents.{File, pairs_of}
use Rattle.amend.specs.Lines.{savable, starts, in_use, open_line, tidy, is_open, holds_name, fill_first}
use Rattle.amend.specs.Save.{Part, data_for, lists_for, take_for, saved_at, stored, saved}
use Rattle.amend.specs.Amending.{Op, amend, kept, run, file_saved, Clean}
use Rattle.amend.proofs.Puts.{byte_same}
use Rattle.amend.proofs.Takes.{given_pair}
use Rattle.amend.proofs.Reading.{Reading, given_same, reading_tidy, lines_reading}
use Rattle.amend.proofs.Kept.{parts_of, changed_pages}
use Rattle.amend.proofs.Mid.{After}
use Rattle.amend.proofs.Listed.{first_split, line_open, each_any}
use Rattle.amend.proofs.Answers.{take_refused, save_is, opened}
use Rattle.amend.proofs.Saves.{savable_shown, save_clean, open_line_lem, made_of}
use Rattle.amend.proofs.Amending.{reading_of, size_of, clean_of}
use Rattle.amend.proofs.Agree.{Agree, Both, for_two}
use Rattle.forecast.specs.Forecast.{Forecast, no_saves, goes_on, ends_in21, tried, ahead, open_lines, forecast}
use Rattle.forecast.specs.Claims.{Planned, save_of, lengths_of, NotNamed, Allowed, answers_to, Used, used, Foretold, ForecastingOf, Forecasting}
use Rattle.lists.proofs.Every.{parted}
use Rattle.forecast.proofs.Counts.{some_pass, used_given, less_open, more_lists}

-- ---- what a save does to the claim
-- so much more is used after a save of k bytes
abbrev used_more : Used → ℕ → Used
used_more u k =
    record { data_sectors = u.data_sectors + data_for k; list_sectors = u.list_sectors + lists_for (data_for k); entry_lines = u.entry_lines + 1 }

-- the disk after the first of some, refused or accepted
run_refused : (n : ℕ) (d : List ℕ) (op : Op) (ops : List Op) (r : Refusal) → amend n d op ≡ Err r → run n d (op ∷ ops) ≡ run n d ops
unfolding run
run_refused n d op ops r h = ap (λ (o : Outcome (List ℕ)). run n (kept d o) ops) h

run_given : (n : ℕ) (d e : List ℕ) (op : Op) (ops : List Op) → amend n d op ≡ Ok e → run n d (op ∷ ops) ≡ run n e ops
unfolding run
run_given n d e op ops h = ap (λ (o : Outcome (List ℕ)). run n (kept d o) ops) h

-- no saves, a save that ends in 21, and one that is accepted
told_none : (n : ℕ) (d : List ℕ) → Foretold n d [] no_saves
unfolding answers_to run
told_none n d =
    record {
      only = Every.none;
      marks = refl;
      needs = λ u q.
          let a : u.data_sectors ≡ u.data_sectors + 0 = omega arith in
          let b : u.list_sectors ≡ u.list_sectors + 0 = omega arith in
          let c : u.entry_lines ≡ u.entry_lines + 0 = omega arith in
          q ∙ (λ i. Ok (record { data_sectors = a i; list_sectors = b i; entry_lines = c i }));
    }

told_refused : (n : ℕ) (d : List ℕ) (s : Planned) (ss : List Planned) (f : Forecast) → amend n d (save_of s) ≡ Err NoSpace → Foretold n d ss f
    → Foretold n d (s ∷ ss) (ends_in21 f)
unfolding answers_to run
told_refused n d s ss f h t =
    record {
      only = rw h (Every.more (inr refl) t.only);
      marks = rw h (ap (λ (l : List ℕ). 1 ∷ l) t.marks);
      needs = λ u q. ap (used n) (run_refused n d (save_of s) (map save_of ss) NoSpace h) ∙ t.needs u q;
    }

told_accepted : (n : ℕ) (d e : List ℕ) (s : Planned) (ss : List Planned) (f : Forecast) → amend n d (save_of s) ≡ Ok e
    → ((u : Used) → used n d ≡ Ok u → used n e ≡ Ok (used_more u (length s.bytes))) → Foretold n e ss f
    → Foretold n d (s ∷ ss) (goes_on (length s.bytes) f)
unfolding answers_to run
told_accepted n d e s ss f h more t =
    record {
      only = rw h (Every.more (inl refl) t.only);
      marks = rw h (ap (λ (l : List ℕ). 0 ∷ l) t.marks);
      needs = λ u q.
          let k : ℕ = length s.bytes in
          let a : u.data_sectors + data_for k + f.data_sectors ≡ u.data_sectors + (data_for k + f.data_sectors) = omega arith in
          let b : u.list_sectors + lists_for (data_for k) + f.list_sectors ≡ u.list_sectors + (lists_for (data_for k) + f.list_sectors) = omega arith in
          let c : u.entry_lines + 1 + f.entry_lines ≡ u.entry_lines + (1 + f.entry_lines) = omega arith in
          ap (used n) (run_given n d e (save_of s) (map save_of ss) h) ∙ t.needs (used_more u k) (more u q) ∙ (λ i. Ok (record { data_sectors = a i; list_sectors = b i; entry_lines = c i }));
    }

-- ---- names
-- a name that is on no line is on none when a file of another name was filled in
fill_new : (y : List ℕ) (f : File) → same y (shown f.raw) ≡ false → (ls : List (Option File)) → any (holds_name y) ls ≡ false → any (holds_name y) (fill_first f ls) ≡ false
unfolding any fill_first
fill_new y f q [] h = refl
fill_new y f q (none ∷ ls) h = rw q h
fill_new y f q (some g ∷ ls) h =
    by_test (same y (shown g.raw)) (λ t. absurd (unlike h (rw t refl))) (λ t. rw t (fill_new y f q ls (rw t at h)))

-- other names
not_same : (x y : List ℕ) → (x ≡ y → ⊥) → same y x ≡ false
not_same x y h = by_test (same y x) (λ t. absurd (h (sym (same_eq y x t)))) (λ t. t)

-- the saves behind the first
allowed_tail : {ls : List (Option File)} {s : Planned} {ss : List Planned} → Allowed ls (s ∷ ss) → Allowed ls ss
allowed_tail a = record { names = (parted a.names).1; new = (parted a.new).1; different = a.different.1; bytes = (parted a.bytes).1 }

-- .. when it was accepted, with the file f
allowed_after : {ls : List (Option File)} {s : Planned} {ss : List Planned} (f : File) → shown f.raw ≡ s.name → Allowed ls (s ∷ ss) → Allowed (fill_first f ls) ss
allowed_after {ls} {s} {ss} f q a =
    let t = allowed_tail a in
    record { names = t.names; new = go t.new a.different.0; different = t.different; bytes = t.bytes }
  where
    go : {ts : List Planned} → Every (λ (u : Planned). any (holds_name u.name) ls ≡ false) ts → NotNamed s ts
        → Every (λ (u : Planned). any (holds_name u.name) (fill_first f ls) ≡ false) ts
    go Every.none Every.none = Every.none
    go (Every.more {x = u} h e) (Every.more g w) =
        Every.more (fill_new u.name f (rw q (not_same s.name u.name g)) ls h) (go e w)

-- ---- one save beside its trial
module _ (n : ℕ) (some' : 0 < n) (few : n ≤ 16) where
  -- the bytes of the VTOC
  abbrev InTable : ℕ → Type 0
  InTable i = (start n vtoc ≤ i) × (i < start n vtoc + 256)

  -- t and d have the same VTOC
  abbrev Tables : List ℕ → List ℕ → Type 0
  Tables = Agree (256 * sectors n) InTable

  -- the same sectors are taken on both
  tables_for : (k : ℕ) (t d : List ℕ) → Tables t d → Both (256 * sectors n) InTable (take_for n k t) (take_for n k d)
  tables_for k t d a = for_two n some' InTable (λ j h. (omega arith, omega arith)) k t d a

  -- e has the VTOC of m
  tables_then : (t m e : List ℕ) → length e ≡ 256 * sectors n → bytes_of n e vtoc ≡ bytes_of n m vtoc → Tables t m → Tables t e
  tables_then t m e l q a =
      record {
        size_d = a.size_d;
        size_e = l;
        at = λ i p.
            let j : ℕ = i - start n vtoc in
            let x = p.0 in
            let y = p.1 in
            let z : i ≡ start n vtoc + j = omega arith in
            ap (λ (k : ℕ). get_or e k 0) z ∙ byte_same n m e vtoc q j (omega arith) ∙ ap (λ (k : ℕ). get_or m k 0) (sym z) ∙ a.at i p;
      }

  -- how many lines are open
  open_count : (d : List ℕ) (r : Reading n d) → open_lines n d ≡ Ok (length (filter (λ (x : ℕ). not (in_use d x)) (starts n r.ps)))
  unfolding open_lines
  open_count d r = rw r.paged refl

  module _ (d : List ℕ) (c : Clean n d) (r : Reading n d) (name : List ℕ) (address : ℕ) (bytes : List ℕ) (of_bytes : Bytes bytes)
      (named : savable name ≡ true) (new : any (holds_name name) r.ls ≡ false) (t : List ℕ) (tables : Tables t d) (left : ℕ) (count : open_lines n d ≡ Ok left) where
    -- what a save leaves
    record Accepted (t' e : List ℕ) : Type 0 where
      reading : Reading n e
      clean : Clean n e
      lines : reading.ls ≡ fill_first (file_saved name bytes) r.ls
      tables' : Tables t' e
      count' : open_lines n e ≡ Ok (left - 1)
      more : (u : Used) → used n d ≡ Ok u → used n e ≡ Ok (used_more u (length bytes))

    -- .. from the disk d, t' being left of the trial and m of the search
    accepted : (gs : List Part) (m t' e : List ℕ) → take_for n (length bytes) d ≡ Ok (gs, m) → Tables t' m → saved n d name address bytes ≡ Ok e → Accepted t' e
    accepted gs m t' e took same-table h =
        let s = save_clean n some' few d c.bytes (size_of n some' few d c) r name address bytes of_bytes e h in
        let f : After n d e (fill_first (file_saved name bytes) r.ls) s.0 _ [] = s.5 in
        let x : ℕ = s.0 in
        let mm : s.2 ≡ m = (given_pair (sym s.4 ∙ took)).1 in
        let free' : in_use d x ≡ false =
        not-true (in_use d x) (first_split (λ (y : ℕ). not (in_use d y)) (starts n r.ps) x (open_line_lem n d name address bytes r.ps x r.paged s.3)).4 in
        let less = less_open n d e f.old f.front x f.back f.changed free' s.6.in_use_now in
        let p = parts_of n d e f.old f.front x f.back f.changed.split in
        let rp : f.reading.ps ≡ f.old.ps = given_same f.reading.paged (changed_pages n d e f.old f.front x f.back f.changed p) in
        let was : left ≡ length (filter (λ (y : ℕ). not (in_use d y)) (starts n f.old.ps)) = given_same count (open_count d f.old) in
        let is : length (filter (λ (y : ℕ). not (in_use e y)) (starts n f.old.ps)) ≡ left - 1 = omega arith in
        let ls : List Place = map (λ (g : Part). g.list) s.1 in
        let a : length (flat_map (pairs_of n e) ls) ≡ data_for (length bytes) = ap length s.6.pairs_is ∙ s.6.data_many in
        let b : length ls ≡ lists_for (data_for (length bytes)) = length-map s.1 (λ (g : Part). g.list) ∙ s.6.lists_many in
        record {
          reading = f.reading;
          clean = clean_of n some' few e f.bytes f.reading;
          lines = f.lines;
          tables' = tables_then t' m e (f.size ∙ size_of n some' few d c) (s.6.table_is ∙ ap (λ (y : List ℕ). bytes_of n y vtoc) mm) same-table;
          count' = open_count e f.reading ∙ ap (λ (qs : List Place). Ok (length (filter (λ (y : ℕ). not (in_use e y)) (starts n qs)))) rp ∙ ap Ok is;
          more = λ u q.
              more_lists n d e f.old f.front x f.back f.changed ls free' s.6.in_use_now s.6.lists_is u q
              ∙ (λ i. Ok (record { data_sectors = u.data_sectors + a i; list_sectors = u.list_sectors + b i; entry_lines = u.entry_lines + 1 }));
        }

    -- refused on both sides, or accepted on both
    abbrev Beside : Type 0
    Beside =
        ((tried n left (length bytes) t ≡ Err NoSpace) × (saved n d name address bytes ≡ Err NoSpace))
        ⊎ ((t' : List ℕ) × (e : List ℕ) × (tried n left (length bytes) t ≡ Ok t') × (saved n d name address bytes ≡ Ok e) × Accepted t' e)

    -- what is left of the save's tests
    is_stored : saved n d name address bytes ≡ stored n d name address bytes
    is_stored = save_is n d r (reading_tidy n d r) name address bytes ∙ rw (named, new) refl

    -- a line is left where one is open
    left_open : ltb 0 left ≡ any is_open r.ls
    left_open =
        ap (ltb 0) (given_same count (open_count d r)) ∙ some_pass (λ (y : ℕ). not (in_use d y)) (starts n r.ps)
        ∙ sym (each_any n d is_open (λ (y : ℕ). not (in_use d y)) (line_open n d) (starts n r.ps) r.ls r.files)

    -- .. whatever is tested
    beside : Beside
    unfolding tried saved_at
    beside =
        by_test (leb (length bytes) 32768)
        (λ q.
        ⊎_elim
        (λ w. go q (left_open ∙ w.0) w.1 w.2 (take_for n (length bytes) t) (take_for n (length bytes) d) refl refl (tables_for (length bytes) t d tables))
        (λ w. inl (rw (q, left_open ∙ w.0) refl, is_stored ∙ rw (q, w.1) refl))
        (opened n d r (reading_tidy n d r)))
        (λ q. inl (rw q refl, is_stored ∙ rw q refl))
      where
        go : leb (length bytes) 32768 ≡ true → ltb 0 left ≡ true → (x : ℕ) → open_line n d ≡ Ok x
            → (o w : Outcome (List Part × List ℕ)) → take_for n (length bytes) t ≡ o → take_for n (length bytes) d ≡ w → Both (256 * sectors n) InTable o w → Beside
        go q l x ox (Err a) (Err b) ho hw z =
            let y : a ≡ NoSpace = take_refused n (length bytes) t a ho in
            let v : b ≡ NoSpace = take_refused n (length bytes) d b hw in
            inl (rw (q, l, ho, y) refl, is_stored ∙ rw (q, ox, hw, v) refl)
        go q l x ox (Err a) (Ok b) ho hw z = absurd z
        go q l x ox (Ok a) (Err b) ho hw z = absurd z
        go q l x ox (Ok a) (Ok b) ho hw z =
            let h : (e : List ℕ) × (saved n d name address bytes ≡ Ok e) = (made_of n d name address bytes x b.0 b.1, is_stored ∙ rw (q, ox, hw) refl) in
            inr (a.1, h.0, rw (q, l, ho) refl, h.1, accepted b.0 b.1 a.1 h.0 hw z.1 h.1)

  -- ---- all of them
  told : (ss : List Planned) (d : List ℕ) → Clean n d → (r : Reading n d) → Allowed r.ls ss → (t : List ℕ) → Tables t d → (left : ℕ) → open_lines n d ≡ Ok left
      → Foretold n d ss (ahead n left t (lengths_of ss))
  unfolding ahead
  told [] d c r a t tb left count = told_none n d
  told (s ∷ ss) d c r a t tb left count =
      ⊎_elim
      (λ w.
      rw (w.0, ahead)
      (told_refused n d s ss (ahead n left t (lengths_of ss)) w.1 (told ss d c r (allowed_tail a) t tb left count)))
      (λ w.
      let g = w.4 in
      rw (w.2, ahead)
      (told_accepted n d w.1 s ss (ahead n (left - 1) w.0 (lengths_of ss)) w.3 g.more
      (told ss w.1 g.clean g.reading (rw g.lines (allowed_after (file_saved s.name s.bytes) (savable_shown s.name (parted a.names).0) a)) w.0 g.tables' (left - 1) g.count')))
      (beside d c r s.name s.address s.bytes (parted a.bytes).0 (parted a.names).0 (parted a.new).0 t tb left count)

  -- a forecast on a clean disk
  forecast_is : (d : List ℕ) → Clean n d → (ks : List ℕ) → length ks ≤ 64 → (left : ℕ) → open_lines n d ≡ Ok left → forecast n d ks ≡ Ok (ahead n left d ks)
  unfolding forecast
  forecast_is d c ks h left q = rw (le-leb (length ks) 64 h, c.is, q) refl

  -- .. of over 64 lengths, and on one that is not
  forecast_long : (d ks : List ℕ) → 64 < length ks → forecast n d ks ≡ Err PlanLong
  unfolding forecast
  forecast_long d ks h = rw (lt-leb (length ks) 64 h) refl

  forecast_reads : (d ks : List ℕ) → length ks ≤ 64 → (r : Refusal) → tidy n d ≡ Err r → forecast n d ks ≡ Err r
  unfolding forecast
  forecast_reads d ks h r q = rw (le-leb (length ks) 64 h, q) refl

  -- one that is given is of no more than 64
  short_enough : (d ks : List ℕ) (f : Forecast) → forecast n d ks ≡ Ok f → length ks ≤ 64
  unfolding forecast
  short_enough d ks f h = leb-true (length ks) 64 (met (leb (length ks) 64) PlanLong _ h).0

  -- Req 11, for n sectors a track
  pub forecasting_of : ForecastingOf n
  forecasting_of =
      record {
        long = forecast_long;
        reads = forecast_reads;
        tells = λ d c ks h. let r = (reading_of n some' few d c).0 in (_, forecast_is d c ks h _ (open_count d r));
        equals = λ d c ls h ss a f q.
            let r = (reading_of n some' few d c).0 in
            let k = short_enough d (lengths_of ss) f q in
            let z = given_same (forecast_is d c (lengths_of ss) k _ (open_count d r)) q in
            let same_disk : Tables d d = record { size_d = size_of n some' few d c; size_e = size_of n some' few d c; at = λ i p. refl } in
            subst (λ (g : Forecast). Foretold n d ss g) z
            (told ss d c r (subst (λ (l : List (Option File)). Allowed l ss) (sym (lines_reading n d r ls h)) a) d same_disk _ (open_count d r));
        counts = λ d c. let r = (reading_of n some' few d c).0 in (_, (used_given n d r).2);
      }

-- .. and for 16
pub forecasting : Forecasting
forecasting = forecasting_of 16 (omega arith) (omega arith)
