-- Claims 1 and 2 of Req 10: what the other side has stays, and a side stays within its limit. Assumes nothing.
use mathlib.Core.Path.{◌≡◌, refl, sym, ap, subst, ◌∙◌}
use mathlib.Core.Logic.{◌⊎◌, inl, inr, ⊎_elim}
use mathlib.Core.List.{List, [], ◌∷◌}
use Prim.Native.Nat.{ℕ, ◌<◌, ◌≤◌}
use native.Mathlib.Omega.{arith}
use lib.ListN.{length}
use Rattle.lists.specs.Every.{Every}
use Rattle.lists.specs.Fill.{Bytes}
use Rattle.std.specs.Prelude.{Ok, Err}
use Rattle.outcome.specs.declared.Refusal.{Refusal}
use Rattle.outcome.specs.Outcome.{Outcome, ◌>>=◌}
use Rattle.disk.specs.declared.Place.{Place}
use Rattle.files.specs.Contents.{Contents}
use Rattle.amend.specs.Lines.{tidy}
use Rattle.amend.specs.Amending.{Op, kept, Clean}
use Rattle.amend.specs.Amending
use Rattle.lists.proofs.Every.{every_imp, every_both}
use Rattle.amend.proofs.Amending.{clean_of}
use Rattle.sides.specs.declared.Side.{Side}
use Rattle.sides.specs.Sides.{other, held_by, saved_for, deleted_for, Call, call_of, answer, run_for}
use Rattle.sides.specs.Claims.{BytesIn, KeptFor, InLimit, OneLimit}
use Rattle.sides.proofs.Own.{kept_for, held_then}
use Rattle.sides.proofs.Steps.{Effect, effect}

-- ---- a disk that is not clean stays
not_clean : (n : ℕ) (d : List ℕ) (s : Side) (limit : ℕ) (op : Op) (r : Refusal) → tidy n d ≡ Err r → call_of n d s limit op ≡ Err r
unfolding saved_for deleted_for
not_clean n d s limit (Amending.Op.save name address bytes) r h = rw h refl
not_clean n d s limit (Amending.Op.delete name) r h = rw h refl

run_refused : (n : ℕ) (d : List ℕ) (r : Refusal) → tidy n d ≡ Err r → (cs : List Call) → run_for n d cs ≡ d
unfolding run_for
run_refused n d r h [] = refl
run_refused n d r h (c ∷ cs) =
    ap (λ (o : Outcome (List ℕ)). run_for n (kept d o) cs) (not_clean n d c.side c.limit c.op r h) ∙ run_refused n d r h cs

-- ---- what stays, one change after the other
kept_self : (n : ℕ) (s : Side) (d : List ℕ) → KeptFor n s d d
kept_self n s d =
    record { lines = refl; line_bytes = λ xs h. anything xs (λ x k l. refl); sectors = refl; sector_bytes = λ ps h. anything ps (λ p. refl) }
  where
    anything : {A : Type 0} {P : A → Type 0} (xs : List A) → ((x : A) → P x) → Every P xs
    anything [] f = Every.none
    anything (x ∷ xs) f = Every.more (f x) (anything xs f)

kept_more : {n : ℕ} {s : Side} {d e f : List ℕ} → KeptFor n s d e → KeptFor n s e f → KeptFor n s d f
kept_more a b =
    record {
      lines = b.lines ∙ a.lines;
      line_bytes = λ xs h. every_imp (λ x t k l. t.1 k l ∙ t.0 k l) (every_both (a.line_bytes xs h) (b.line_bytes xs (a.lines ∙ h)));
      sectors = b.sectors ∙ a.sectors;
      sector_bytes = λ ps h. every_imp (λ p t. t.1 ∙ t.0) (every_both (a.sector_bytes ps h) (b.sector_bytes ps (a.sectors ∙ h)));
    }

other_twice : (s : Side) → other (other s) ≡ s
other_twice Side.Survey = refl
other_twice Side.Ours = refl

-- the side is one of the two
which : (s t : Side) → (t ≡ s) ⊎ (other t ≡ s)
which Side.Survey Side.Survey = inl refl
which Side.Survey Side.Ours = inr refl
which Side.Ours Side.Survey = inr refl
which Side.Ours Side.Ours = inl refl

module _ (n : ℕ) (some' : 0 < n) (few : n ≤ 16) where
  -- one accepted call
  pub effect_keeps : (d e : List ℕ) (s : Side) (limit : ℕ) → Effect n d e s limit → KeptFor n (other s) d e
  effect_keeps d e s limit f =
      kept_for n d e f.old f.front f.line f.back f.changed (other s) f.was_other f.is_other f.kept_front f.kept_back

  -- the other holds as much, the side no more than its limit
  effect_other : (d e : List ℕ) (s : Side) (limit : ℕ) → Effect n d e s limit → held_by n e (other s) ≡ held_by n d (other s)
  unfolding held_by
  effect_other d e s limit f = ap (λ (o : Outcome (List Place)). o >>= λ ps. Ok (length ps)) (effect_keeps d e s limit f).sectors

  effect_own : (d e : List ℕ) (s : Side) (limit : ℕ) → Effect n d e s limit → InLimit n s limit d → InLimit n s limit e
  effect_own d e s limit f w =
      let t = held_then n d e f.old f.front f.line f.back f.changed s f.was f.is f.was_is f.is_is w.0 w.1 in
      let b = f.bound w.0 w.1 w.2 in
      let q = t.2 in
      (t.0, t.1, omega arith)

  effect_within : (d e : List ℕ) (c : Call) (s : Side) (limit : ℕ) → (c.side ≡ s → c.limit ≡ limit) → Effect n d e c.side c.limit → InLimit n s limit d → InLimit n s limit e
  effect_within d e c s limit q f w =
      ⊎_elim
      (λ z.
      let l : c.limit ≡ limit = q z in
      effect_own d e s limit (subst (λ (m : ℕ). Effect n d e s m) l (subst (λ (u : Side). Effect n d e u c.limit) z f)) w)
      (λ z. (w.0, subst (λ (u : Side). held_by n e u ≡ held_by n d u) z (effect_other d e c.side c.limit f) ∙ w.1, w.2))
      (which s c.side)

  -- ---- lists of calls
  pub stays_run : (cs : List Call) (d : List ℕ) → Clean n d → Every BytesIn cs → Clean n (run_for n d cs)
  unfolding run_for
  stays_run [] d c Every.none = c
  stays_run (a ∷ cs) d c (Every.more b bs) = go (answer n d a) refl (λ d' c'. stays_run cs d' c' bs)
    where
      go : (o : Outcome (List ℕ)) → answer n d a ≡ o → ((d' : List ℕ) → Clean n d' → Clean n (run_for n d' cs)) → Clean n (run_for n (kept d o) cs)
      go (Err r) h i = i d c
      go (Ok e) h i = let f = effect n some' few d c a.side a.limit a.op b e h in i e (clean_of n some' few e f.bytes f.reading)

  keeps_run : (cs : List Call) (d : List ℕ) → Clean n d → (s : Side) → Every BytesIn cs → Every (λ (c : Call). c.side ≡ s) cs → KeptFor n (other s) d (run_for n d cs)
  unfolding run_for
  keeps_run [] d c s Every.none Every.none = kept_self n (other s) d
  keeps_run (a ∷ cs) d c s (Every.more b bs) (Every.more q qs) = go (answer n d a) refl (λ d' c'. keeps_run cs d' c' s bs qs)
    where
      go : (o : Outcome (List ℕ)) → answer n d a ≡ o → ((d' : List ℕ) → Clean n d' → KeptFor n (other s) d' (run_for n d' cs)) → KeptFor n (other s) d (run_for n (kept d o) cs)
      go (Err r) h i = i d c
      go (Ok e) h i =
          let f = effect n some' few d c a.side a.limit a.op b e h in
          kept_more (subst (λ (u : Side). KeptFor n (other u) d e) q (effect_keeps d e a.side a.limit f)) (i e (clean_of n some' few e f.bytes f.reading))

  within_run : (cs : List Call) (d : List ℕ) → Clean n d → (s : Side) (limit : ℕ) → InLimit n s limit d → Every BytesIn cs → OneLimit s limit cs → InLimit n s limit (run_for n d cs)
  unfolding run_for
  within_run [] d c s limit w Every.none Every.none = w
  within_run (a ∷ cs) d c s limit w (Every.more b bs) (Every.more q qs) = go (answer n d a) refl (λ d' c' w'. within_run cs d' c' s limit w' bs qs)
    where
      go : (o : Outcome (List ℕ)) → answer n d a ≡ o → ((d' : List ℕ) → Clean n d' → InLimit n s limit d' → InLimit n s limit (run_for n d' cs)) → InLimit n s limit (run_for n (kept d o) cs)
      go (Err r) h i = i d c w
      go (Ok e) h i =
          let f = effect n some' few d c a.side a.limit a.op b e h in
          i e (clean_of n some' few e f.bytes f.reading) (effect_within d e a s limit q f w)

  -- ---- whatever the disk
  pub keeps_is : (d : List ℕ) → Bytes d → (s : Side) → (cs : List Call) → Every BytesIn cs → Every (λ (c : Call). c.side ≡ s) cs → KeptFor n (other s) d (run_for n d cs)
  keeps_is d b s cs bs qs = go (tidy n d) refl
    where
      go : (o : Outcome Contents) → tidy n d ≡ o → KeptFor n (other s) d (run_for n d cs)
      go (Err r) h = subst (λ (e : List ℕ). KeptFor n (other s) d e) (sym (run_refused n d r h cs)) (kept_self n (other s) d)
      go (Ok t) h = keeps_run cs d (record { bytes = b; has = t; is = h }) s bs qs

  pub limits_is : (d : List ℕ) → Bytes d → (s : Side) (limit : ℕ) → InLimit n s limit d → (cs : List Call) → Every BytesIn cs → OneLimit s limit cs → InLimit n s limit (run_for n d cs)
  limits_is d b s limit w cs bs qs = go (tidy n d) refl
    where
      go : (o : Outcome Contents) → tidy n d ≡ o → InLimit n s limit (run_for n d cs)
      go (Err r) h = subst (λ (e : List ℕ). InLimit n s limit e) (sym (run_refused n d r h cs)) w
      go (Ok t) h = within_run cs d (record { bytes = b; has = t; is = h }) s limit w bs qs
