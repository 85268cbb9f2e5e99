-- Numbers handed over in elements, and bytes: the part of a window, the word of a refusal. Assumes nothing.
use mathlib.Core.Path.{◌≡◌, refl, ap, subst, ◌∙◌}
use mathlib.Core.Bool.{Bool, false, cond}
use mathlib.Core.List.{List, [], ◌∷◌}
use Prim.Native.Nat.{ℕ, ◌<◌, ◌≤◌}
use native.Mathlib.Omega.{arith}
use lib.ListN.{length}
use lib.Dec.{ltb}
use borrow.Author.Rules.{rules}
use Rattle.lists.specs.Fill.{placed}
use Rattle.lists.proofs.Split.{by_test}
use Rattle.lists.proofs.Put.{placed_put, put_front}
use Rattle.std.specs.Prelude.{Ok, Err, Option}
use Rattle.outcome.specs.declared.Refusal.{Refusal}
use Rattle.outcome.specs.declared.Refusal.TheVariants.{TrayShort}
use Rattle.outcome.specs.Outcome.{Outcome, ◌>>=◌, ◌>>◌, Hands}
use Rattle.outcome.proofs.Outcome.{hands_short, hands_over_lem}
use Rattle.disk.specs.declared.VolumeTableOfContents.{VolumeTableOfContents}
use Rattle.disk.specs.Disk.{per_of, byte_of}
use Rattle.disk.specs.Vtoc.{vtoc, readable, table_of, parsed}
use Rattle.files.specs.Contents.{Contents}
use Rattle.files.specs.Survey.{blocks}
use Rattle.archive.specs.Archive.{if_any}
use Rattle.archive.specs.Reader.{opened}
use Rattle.reader.specs.declared.Entry.{Entry}
use Rattle.reader.specs.Steps.{opened_with, entry_of, entry_with, is_entry, entry_step}
use Rattle.host.specs.Exports.{Puts, vtoc_values, vtoc_numbers, open_numbers, entry_fields, entry_numbers}

-- ---- the elements

-- ---- numbers f of what the library gives, or its refusal
module _ {A : Type 0} (f : A → List ℕ) (p : Outcome A) (d : List ℕ) where
  pub puts_refused : (r : Outcome (Unit {0})) (e : Refusal) → r ≡ Err e → Err e ≡ p → Puts (p >>= λ v. Ok (f v)) d d r
  puts_refused r e q h = rw (q, ← h) (record { answer = refl; left = refl })

  pub puts_given : (v : A) → Ok v ≡ p → (o : List ℕ) (r : Outcome (Unit {0})) → Puts (Ok (f v)) d o r → Puts (p >>= λ v. Ok (f v)) d o r
  puts_given v h o r u = rw (← h) u

-- ---- the VTOC: the numbers of the table that is read
pub vtoc_is : (d : List ℕ) → (parsed (per_of d) d >>= λ v. Ok (vtoc_values v (byte_of (per_of d) d vtoc 49))) ≡ vtoc_numbers d
unfolding vtoc_numbers parsed
vtoc_is d = go (readable (per_of d) d)
  where
    go : (o : Outcome (Unit {0}))
        → ((o >> Ok (table_of (per_of d) d)) >>= λ v. Ok (vtoc_values v (byte_of (per_of d) d vtoc 49)))
        ≡ (o >> Ok (vtoc_values (table_of (per_of d) d) (byte_of (per_of d) d vtoc 49)))
    go (Err r) = refl
    go (Ok u) = refl

module _ (x d : List ℕ) where
  pub vtoc_refused : (r : Outcome (Unit {0})) (e : Refusal) → r ≡ Err e → Err e ≡ parsed (per_of x) x → Puts (vtoc_numbers x) d d r
  vtoc_refused r e q h = rw (← (vtoc_is x)) (puts_refused (λ v. vtoc_values v (byte_of (per_of x) x vtoc 49)) (parsed (per_of x) x) d r e q h)

  pub vtoc_given : (v : VolumeTableOfContents) → Ok v ≡ parsed (per_of x) x → (b : ℕ) → b ≡ byte_of (per_of x) x vtoc 49 → (y o : List ℕ) (r : Outcome (Unit {0}))
      → y ≡ vtoc_values v b → Puts (Ok y) d o r → Puts (vtoc_numbers x) d o r
  vtoc_given v h b e y o r q u =
      rw (← (vtoc_is x))
      (puts_given (λ t. vtoc_values t (byte_of (per_of x) x vtoc 49)) (parsed (per_of x) x) d v h o r
      (subst (λ (l : List ℕ). Puts (Ok l) d o r) (q ∙ ap (vtoc_values v) e) u))

-- ---- an archive: what its opening and its steps answer, in numbers
module _ (a : List ℕ) where
  pub open_is : (opened_with (opened a) >>= λ o. Ok (o.volume ∷ o.first ∷ o.blocks ∷ [])) ≡ open_numbers a
  unfolding open_numbers
  open_is = go (opened a)
    where
      go : (o : Outcome Contents)
          → (opened_with o >>= λ w. Ok (w.volume ∷ w.first ∷ w.blocks ∷ [])) ≡ (o >>= λ c. Ok (c.volume ∷ if_any c.files 1 ∷ blocks c ∷ []))
      go (Err r) = refl
      go (Ok c) = refl

  pub entry_is : (b : ℕ) → (entry_with (opened a) b >>= λ e. Ok (entry_fields e)) ≡ entry_numbers a b
  unfolding entry_numbers
  entry_is b = go (opened a)
    where
      go : (o : Outcome Contents) → (entry_with o b >>= λ e. Ok (entry_fields e)) ≡ (o >>= λ c. Ok (entry_fields (entry_of 1 c.files b)))
      go (Err r) = refl
      go (Ok c) = refl

  -- a step, whatever the block
  none_past : (b : ℕ) → ltb b 4096 ≡ false → entry_step a 0 ≡ entry_step a b
  unfolding entry_step is_entry
  none_past b e = by_test (ltb 0 b) (λ z. rw (z, e) refl) (λ z. rw z refl)

  step_block : (b : ℕ) → entry_step a (cond (ltb b 4096) b 0) ≡ entry_step a b
  step_block b = by_test (ltb b 4096) (λ e. ap (λ (t : Bool). entry_step a (cond t b 0)) e) (λ e. ap (λ (t : Bool). entry_step a (cond t b 0)) e ∙ none_past b e)

  pub step_is : (b k : ℕ) (s : Option Entry) (y : List ℕ) → k ≡ cond (ltb b 4096) b 0 → s ≡ entry_step a k → y ≡ entry_fields s → y ≡ entry_fields (entry_step a b)
  step_is b k s y h e q = q ∙ ap entry_fields (e ∙ ap (entry_step a) h ∙ step_block b)

-- ---- bytes handed over
module _ (y o : List ℕ) where
  pub bytes_short : length o < length y → Hands (Ok y) o o (Err TrayShort)
  bytes_short l = hands_short (Ok y) o y refl l (Err TrayShort) refl

  pub bytes_done : length y ≤ length o → (o' : List ℕ) → o' ≡ placed 0 y o → Hands (Ok y) o o' (Ok (length y))
  bytes_done l o' q = hands_over_lem (Ok y) o o' y refl l (put_front (placed_put q (omega arith))) (Ok (length y)) refl

pub ruleset handing = (bytes_short, bytes_done, rules)

-- ---- direction_byte
