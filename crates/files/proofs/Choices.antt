-- The entry that a pass chose is the one asked for, and its bytes are handed over. Assumes nothing.
use mathlib.Core.Path.{◌≡◌, refl, sym, ap, subst, ◌∙◌}
use mathlib.Core.Logic.{◌⊎◌, inl, inr, ⊎_elim}
use mathlib.Core.Bool.{Bool, true, false}
use mathlib.Core.List.{List, [], ◌∷◌, flat_map}
use Prim.Native.Nat.{ℕ, ◌+◌, ◌<◌}
use native.Mathlib.Omega.{arith}
use lib.ListN.{length}
use lib.Dec.{eqb}
use borrow.Author.Tests.{ne_eqb, eqb-true}
use borrow.Author.Rules.{rules}
use Rattle.disk.specs.Disk.{per_of}
use Rattle.lists.specs.Same.{same}
use Rattle.lists.proofs.Split.{by_test}
use denote.Ref.{Bor}
use Rattle.std.specs.Prelude.{Ok, Err, Option, Some, None}
use Rattle.outcome.specs.declared.Refusal.{Refusal}
use Rattle.outcome.specs.declared.Refusal.TheVariants.{NotOnRoll}
use Rattle.outcome.specs.Outcome.{Outcome, each, Hands}
use Rattle.outcome.proofs.Outcome.{each_cons, some_none, hands_refused, hands_over_lem}
use Rattle.catalog.specs.Catalog.{Entry, shown, catalog}
use Rattle.files.specs.declared.Choice.{Choice}
use Rattle.files.specs.declared.Totals.{Totals}
use Rattle.files.specs.declared.Thread.{Thread}
use Rattle.files.specs.declared.Wanted.TheVariants.{Named, Numbered}
use Rattle.files.specs.Threads.{head_of, followed}
use Rattle.disk.specs.declared.Place.{Place}
use Rattle.files.specs.Contents.{File, Contents, contents, pairs_of, lists, file_of}
use Rattle.files.specs.Survey.{last_named, fetched}
use Rattle.files.specs.Totals.{picked, choice, chosen, totals}
use Rattle.files.specs.Chosen.{chosen_in, ChoiceOf, numbered, file_of_number}
use Rattle.files.specs.Copies.{Kept, file_bytes}
use Rattle.files.proofs.Order.{file_given}
use Rattle.files.proofs.Proper.{catalog_size}
use Rattle.files.proofs.Calls.{total_refused, total_given}

-- ---- what a pass chooses among some entries with their files
module _ (n : ℕ) (d : List ℕ) (g : ℕ → Entry → Bool) where
  -- the chosen entry e with its file f
  abbrev Chosen : Option Choice → (File → Type 0) → Type 0
  Chosen c P = (e : Entry) × (f : File) × (file_of n d e ≡ Ok f) × ChoiceOf n d e c × P f

  -- its lists are followed
  pub file_followed : (e : Entry) (f : File) → file_of n d e ≡ Ok f → (h : Thread) × (followed n d (lists n d e) ≡ Ok h)
  file_followed e f q =
      let t = file_given n d e f q in
      let ps : List Place = flat_map (pairs_of n d) t.0 in
      (record { lists = length t.0; pairs = length ps; head = head_of ps }, rw (t.1, t.2) refl)

  -- an entry more, which is asked for, or is not
  module _ (c : Option Choice) (j : ℕ) (e : Entry) (es : List Entry) (h : Thread) (q : followed n d (lists n d e) ≡ Ok h) where
    abbrev after : (o : Outcome Thread) → Option Choice
    after o = elim o [ Err r ↦ c | Ok k ↦ chosen n d g c j e k ]

    pub taken : g j e ≡ true → chosen_in n d g c j (e ∷ es) ≡ chosen_in n d g (Some (choice e.list e.kind h)) (j + 1) es
    unfolding chosen_in
    taken b = ap (λ (o : Option Choice). chosen_in n d g o (j + 1) es) (ap after q ∙ rw b refl)

    pub passed_by : g j e ≡ false → chosen_in n d g c j (e ∷ es) ≡ chosen_in n d g c (j + 1) es
    unfolding chosen_in
    passed_by b = ap (λ (o : Option Choice). chosen_in n d g o (j + 1) es) (ap after q ∙ rw b refl)

-- by number: behind it no other is
pub num_past : (n : ℕ) (d : List ℕ) (k : ℕ) (es : List Entry) (fs : List File) (c : Option Choice) (j : ℕ) → each (file_of n d) es ≡ Ok fs → k < j
    → chosen_in n d (picked (Numbered k)) c j es ≡ c
unfolding chosen_in each
num_past n d k [] fs c j a h = refl
num_past n d k (e ∷ es) fs c j a h =
    let w = each_cons (file_of n d) e es fs a in
    let f = file_followed n d (picked (Numbered k)) e w.0 w.2 in
    passed_by n d (picked (Numbered k)) c j e es f.0 f.1 (ne_eqb j k (λ q. omega arith)) ∙ num_past n d k es w.1 c (j + 1) w.3 (omega arith)

pub num : (n : ℕ) (d : List ℕ) (k : ℕ) (es : List Entry) (fs : List File) (c : Option Choice) (j : ℕ) → each (file_of n d) es ≡ Ok fs
    → ((chosen_in n d (picked (Numbered k)) c j es ≡ c) × (numbered k j fs ≡ []))
    ⊎ Chosen n d (picked (Numbered k)) (chosen_in n d (picked (Numbered k)) c j es) (λ f. numbered k j fs ≡ f.bytes)
unfolding chosen_in numbered each
num n d k [] fs c j h = let q : fs ≡ [] = cc in inl (refl, rw q refl)
num n d k (e ∷ es) fs c j h =
    let w = each_cons (file_of n d) e es fs h in
    let f = file_followed n d (picked (Numbered k)) e w.0 w.2 in
    by_test (eqb j k)
    (λ b.
    let q = eqb-true j k b in
    inr (e, w.0, w.2, (f.0, f.1, taken n d (picked (Numbered k)) c j e es f.0 f.1 b ∙ num_past n d k es w.1 _ (j + 1) w.3 (omega arith)), ap (numbered k j) w.4 ∙ rw b refl))
    (λ b.
    let p = passed_by n d (picked (Numbered k)) c j e es f.0 f.1 b in
    ⊎_elim (λ i. inl (p ∙ i.0, ap (numbered k j) w.4 ∙ rw b i.1)) (λ i. inr (i.0, i.1, i.2, (i.3.0, i.3.1, p ∙ i.3.2), ap (numbered k j) w.4 ∙ rw b i.4))
    (num n d k es w.1 c (j + 1) w.3))

-- ---- by name
module _ (x : List ℕ) where
  named_here : (f : File) (fs : List File) → last_named x fs ≡ Err NotOnRoll → same x (shown f.raw) ≡ true → last_named x (f ∷ fs) ≡ Ok f.bytes
  unfolding last_named
  named_here f fs h b = rw (h, b) refl

  named_not : (f : File) (fs : List File) → last_named x fs ≡ Err NotOnRoll → same x (shown f.raw) ≡ false → last_named x (f ∷ fs) ≡ Err NotOnRoll
  unfolding last_named
  named_not f fs h b = rw (h, b) refl

  named_on : (f : File) (fs : List File) (w : List ℕ) → last_named x fs ≡ Ok w → last_named x (f ∷ fs) ≡ Ok w
  unfolding last_named
  named_on f fs w h = rw h refl

pub nam : (n : ℕ) (d : List ℕ) (x : Bor (List ℕ)) (es : List Entry) (fs : List File) (c : Option Choice) (j : ℕ) → each (file_of n d) es ≡ Ok fs
    → ((chosen_in n d (picked (Named x)) c j es ≡ c) × (last_named x.now fs ≡ Err NotOnRoll))
    ⊎ Chosen n d (picked (Named x)) (chosen_in n d (picked (Named x)) c j es) (λ f. last_named x.now fs ≡ Ok f.bytes)
unfolding chosen_in last_named each
nam n d x [] fs c j h = let q : fs ≡ [] = cc in inl (refl, rw q refl)
nam n d x (e ∷ es) fs c j h =
    let w = each_cons (file_of n d) e es fs h in
    let f : File = w.0 in
    let m : f.raw ≡ e.raw = ap (λ (y : File). y.raw) (file_given n d e f w.2).3 in
    let l = file_followed n d (picked (Named x)) e f w.2 in
    by_test (same x.now (shown e.raw))
    (λ b.
    let p = taken n d (picked (Named x)) c j e es l.0 l.1 b in
    ⊎_elim (λ i. inr (e, f, w.2, (l.0, l.1, p ∙ i.0), ap (last_named x.now) w.4 ∙ named_here x.now f w.1 i.1 (rw m b)))
    (λ i. inr (i.0, i.1, i.2, (i.3.0, i.3.1, p ∙ i.3.2), ap (last_named x.now) w.4 ∙ named_on x.now f w.1 i.1.bytes i.4))
    (nam n d x es w.1 (Some (choice e.list e.kind l.0)) (j + 1) w.3))
    (λ b.
    let p = passed_by n d (picked (Named x)) c j e es l.0 l.1 b in
    ⊎_elim (λ i. inl (p ∙ i.0, ap (last_named x.now) w.4 ∙ named_not x.now f w.1 i.1 (rw m b)))
    (λ i. inr (i.0, i.1, i.2, (i.3.0, i.3.1, p ∙ i.3.2), ap (last_named x.now) w.4 ∙ named_on x.now f w.1 i.1.bytes i.4))
    (nam n d x es w.1 c (j + 1) w.3))

-- ---- the bytes of the chosen entry
module _ (per : ℕ) (d : List ℕ) (es : List Entry) (g : catalog per d ≡ Ok es) (e : Entry) (f : File) (h : file_of per d e ≡ Ok f)
    (c : Choice) (q : ChoiceOf per d e (Some c)) where
  is : c ≡ choice e.list e.kind q.0
  is = let z = q.2 in cc

  pub chosen_at : Kept per d c.list c.thread
  chosen_at =
      let t = file_given per d e f h in
      rw is (record { at = record { ls = t.0; is = t.1; on = t.2; size = catalog_size per d es g }; thread = sym q.1 })

  pub chosen_bytes : file_bytes per d c.list c.kind ≡ Ok f.bytes
  unfolding file_bytes
  chosen_bytes =
      let t = file_given per d e f h in
      rw is (rw t.1 (ap Ok (sym (ap (λ (y : File). y.bytes) t.3))))

  pub chosen_list : c.list ≡ e.list
  chosen_list = ap (λ (y : Choice). y.list) is

-- ---- the calls: t are the totals, and W is what is handed over; `none` where no entry is asked for
module _ (per : ℕ) (d : List ℕ) (g : ℕ → Entry → Bool) (t : Totals) (u : Ok t ≡ totals per d g) (W none : Outcome (List ℕ)) where
  abbrev Which : Type 0
  Which =
      ((t.choice ≡ None) × (W ≡ none))
      ⊎ ((e : Entry) × (f : File) × (file_of per d e ≡ Ok f) × ChoiceOf per d e t.choice × (W ≡ Ok f.bytes))

  -- the choice among the entries
  the_choice : t.choice ≡ chosen_in per d g None 0 (total_given per d g t u).2.es
  the_choice = ap (λ (y : Totals). y.choice) (total_given per d g t u).2.is

  none_is : t.choice ≡ None → Which → W ≡ none
  none_is n (inl i) = i.1
  none_is n (inr i) = absurd (some_none (sym i.3.2 ∙ n))

  module _ (c : Choice) (y : t.choice ≡ Some c) where
    at_is : Which → Kept per d c.list c.thread
    at_is (inl i) = absurd (some_none (sym y ∙ i.0))
    at_is (inr i) = let v = total_given per d g t u in chosen_at per d v.2.es v.2.catalog i.0 i.1 i.2 c (i.3.0, i.3.1, sym y ∙ i.3.2)

    bytes_are : Which → file_bytes per d c.list c.kind ≡ W
    bytes_are (inl i) = absurd (some_none (sym y ∙ i.0))
    bytes_are (inr i) = let v = total_given per d g t u in chosen_bytes per d v.2.es v.2.catalog i.0 i.1 i.2 c (i.3.0, i.3.1, sym y ∙ i.3.2) ∙ sym i.4

-- ---- by number
module _ (per : ℕ) (d : List ℕ) (k : ℕ) (o : List ℕ) where
  pub file_refused : (r : Outcome ℕ) (e : Refusal) → r ≡ Err e → Err e ≡ totals per d (picked (Numbered k)) → Hands (file_of_number per d k) o o r
  unfolding file_of_number
  file_refused r e q h = hands_refused (file_of_number per d k) o e (rw (total_refused per d (picked (Numbered k)) e h) refl) r q

  module _ (t : Totals) (u : Ok t ≡ totals per d (picked (Numbered k))) where
    number_bytes : (c : Contents) → contents per d ≡ Ok c → file_of_number per d k ≡ Ok (numbered k 0 c.files)
    unfolding file_of_number
    number_bytes c h = rw h refl

    which_file : Which per d (picked (Numbered k)) t u (file_of_number per d k) (Ok [])
    which_file =
        let v = total_given per d (picked (Numbered k)) t u in
        let s = the_choice per d (picked (Numbered k)) t u (file_of_number per d k) (Ok []) in
        let b = number_bytes v.0 v.1 in
        ⊎_elim (λ i. inl (s ∙ i.0, b ∙ ap Ok i.1)) (λ i. inr (i.0, i.1, i.2, (i.3.0, i.3.1, s ∙ i.3.2), b ∙ ap Ok i.4))
        (num per d k v.2.es v.0.files None 0 v.2.files)

    pub file_none : t.choice ≡ None → Hands (file_of_number per d k) o o (Ok 0)
    file_none n =
        hands_over_lem (file_of_number per d k) o o [] (none_is per d (picked (Numbered k)) t u (file_of_number per d k) (Ok []) n which_file) (omega arith) refl (Ok 0) refl

    module _ (c : Choice) (y : t.choice ≡ Some c) where
      pub file_at : Kept per d c.list c.thread
      file_at = at_is per d (picked (Numbered k)) t u (file_of_number per d k) (Ok []) c y which_file

      pub file_done : (o' : List ℕ) (r : Outcome ℕ) → Hands (file_bytes per d c.list c.kind) o o' r → Hands (file_of_number per d k) o o' r
      file_done o' r h =
          subst (λ (w : Outcome (List ℕ)). Hands w o o' r) (bytes_are per d (picked (Numbered k)) t u (file_of_number per d k) (Ok []) c y which_file) h

-- by the disk's own size
pub file_per : (d o o' : List ℕ) (r : Outcome ℕ) (k n : ℕ) → n ≡ per_of d → Hands (file_of_number n d k) o o' r → Hands (file_of_number (per_of d) d k) o o' r
file_per d o o' r k n e q = rw e at q

pub ruleset file_calls = (file_per, file_none, file_at, file_done, rules)

-- ---- by name
module _ (per : ℕ) (d : List ℕ) (x : Bor (List ℕ)) (o : List ℕ) where
  pub fetch_refused : (r : Outcome ℕ) (e : Refusal) → r ≡ Err e → Err e ≡ totals per d (picked (Named x)) → Hands (fetched per d x.now) o o r
  unfolding fetched
  fetch_refused r e q h = hands_refused (fetched per d x.now) o e (rw (total_refused per d (picked (Named x)) e h) refl) r q

  module _ (t : Totals) (u : Ok t ≡ totals per d (picked (Named x))) where
    name_bytes : (c : Contents) → contents per d ≡ Ok c → fetched per d x.now ≡ last_named x.now c.files
    unfolding fetched
    name_bytes c h = rw h refl

    which_name : Which per d (picked (Named x)) t u (fetched per d x.now) (Err NotOnRoll)
    which_name =
        let v = total_given per d (picked (Named x)) t u in
        let s = the_choice per d (picked (Named x)) t u (fetched per d x.now) (Err NotOnRoll) in
        let b = name_bytes v.0 v.1 in
        ⊎_elim (λ i. inl (s ∙ i.0, b ∙ i.1)) (λ i. inr (i.0, i.1, i.2, (i.3.0, i.3.1, s ∙ i.3.2), b ∙ i.4))
        (nam per d x v.2.es v.0.files None 0 v.2.files)

    pub fetch_none : t.choice ≡ None → Hands (fetched per d x.now) o o (Err NotOnRoll)
    fetch_none n =
        hands_refused (fetched per d x.now) o NotOnRoll (none_is per d (picked (Named x)) t u (fetched per d x.now) (Err NotOnRoll) n which_name) (Err NotOnRoll) refl

    module _ (c : Choice) (y : t.choice ≡ Some c) where
      pub fetch_at : Kept per d c.list c.thread
      fetch_at = at_is per d (picked (Named x)) t u (fetched per d x.now) (Err NotOnRoll) c y which_name

      pub fetch_done : (o' : List ℕ) (r : Outcome ℕ) → Hands (file_bytes per d c.list c.kind) o o' r → Hands (fetched per d x.now) o o' r
      fetch_done o' r h =
          subst (λ (w : Outcome (List ℕ)). Hands w o o' r) (bytes_are per d (picked (Named x)) t u (fetched per d x.now) (Err NotOnRoll) c y which_name) h

-- by the disk's own size
pub fetch_per : (d o o' x : List ℕ) (r : Outcome ℕ) (n : ℕ) → n ≡ per_of d → Hands (fetched n d x) o o' r → Hands (fetched (per_of d) d x) o o' r
fetch_per d o o' x r n e q = rw e at q

pub ruleset fetch_calls = (fetch_per, fetch_none, fetch_at, fetch_done, rules)
