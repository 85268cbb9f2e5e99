-- Opening, and a step that looks at one block: one law for each `return`. Assumes nothing.
use mathlib.Core.Path.{◌≡◌, refl, sym, ap, ◌∙◌}
use mathlib.Core.Bool.{Bool, true, false, cond}
use mathlib.Core.Logic.{◌⊎◌, inl, inr}
use mathlib.Core.List.{List}
use Prim.Native.Nat.{ℕ, ◌+◌, ◌*◌, ◌-◌, ◌/◌, ◌%◌, ◌≤◌, ◌<◌}
use native.Mathlib.Omega.{arith}
use lib.ListN.{length, get_or, take, drop}
use lib.Dec.{eqb, leb}
use borrow.Author.Tests.{leb-true, lt-ltb, le-ltb, not-true, not-false}
use borrow.Author.Rules.{rules}
use mir.Val.{Fits}
use mir.Syntax.{w8}
use Rattle.lists.specs.Words.{word_at}
use Rattle.lists.proofs.Split.{by_test, both_true}
use Rattle.std.specs.Prelude.{Some, None, Ok, Err}
use Rattle.outcome.specs.declared.Refusal.{Refusal}
use Rattle.outcome.specs.declared.Refusal.TheVariants.{NotItsReturn}
use Rattle.outcome.specs.Outcome.{Outcome, ◌>>=◌}
use Rattle.outcome.proofs.Outcome.{refused_given}
use Rattle.files.specs.Contents.{File, Contents}
use Rattle.files.specs.Survey.{blocks_in}
use Rattle.archive.specs.Reader.{size_in, sound_entry, sound_first, entries_from, opened, whether}
use Rattle.archive.proofs.Back.{link_is}
use Rattle.archive.proofs.Blocks.{length_archive, proper_short}
use Rattle.archive.proofs.Reader.{opened_is}
use Rattle.reader.specs.declared.Entry.{Entry}
use Rattle.reader.specs.Steps.{opened_with, fields_in, is_entry, entry_step, name_in, raw_in, data_part, next_data}

-- ---- opening
-- the entries refuse, or are given
refuses : (o : Outcome (List File)) (w : ℕ) (r : Refusal) → Err r ≡ whether o → Err r ≡ opened_with (o >>= λ fs. Ok (record { volume = w; files = fs }))
refuses (Err q) w r e = cc
refuses (Ok fs) w r e = absurd (refused_given e)

given : (o : Outcome (List File)) → Ok tt ≡ whether o → (fs : List File) × (o ≡ Ok fs)
given (Err q) e = absurd (refused_given (sym e))
given (Ok fs) e = (fs, refl)

module _ (a : List ℕ) (n : ℕ) (q : n ≡ length a / 256 - 1) (t : Bool) (e : t ≡ sound_first n a) where
  pub open_not : t ≡ false → Err NotItsReturn ≡ opened_with (opened a)
  unfolding opened
  open_not z = rw (← q, ← e, z) refl

  pub open_few : t ≡ true → 1 + n ≤ 4096
  unfolding sound_first
  open_few z =
      let p = both_true (eqb (length a) (256 * (1 + n))) _ (sym e ∙ z) in
      leb-true _ _ (both_true (leb (1 + n) 4096) _ p.1).0

  pub open_fits : t ≡ true → 1 + n < 65536
  open_fits z = omega (arith, open_few z)

  pub open_refused : (r : Refusal) → t ≡ true → Err r ≡ whether (entries_from n 1 (drop (256 * 1) a)) → Err r ≡ opened_with (opened a)
  unfolding opened
  open_refused r z l = rw (← q, ← e, z) (refuses (entries_from n 1 (drop 256 a)) (get_or a 0 0) r l)

  -- the entries are given
  gave : (fs : List File) → t ≡ true → entries_from n 1 (drop 256 a) ≡ Ok fs → opened a ≡ Ok (record { volume = get_or a 0 0; files = fs })
  unfolding opened
  gave fs z f = rw (← q, ← e, z, f) refl

  pub open_is : (w l : ℕ) → t ≡ true → Ok tt ≡ whether (entries_from n 1 (drop (256 * 1) a)) → w ≡ get_or a 0 0 → l ≡ cond (eqb 0 n) 0 1 % 65536
      → ((k : ℕ) → Fits w8 (get_or a k 0)) → Ok (record { volume = w; first = l; blocks = 1 + n }) ≡ opened_with (opened a)
  open_is w l z g u k h =
      let f = given (entries_from n 1 (drop 256 a)) g in
      let c : Contents = record { volume = get_or a 0 0; files = f.0 } in
      let o : opened a ≡ Ok c = gave f.0 z f.1 in
      let s = (opened_is a c (λ k. omega (arith, h k))).0 o in
      let d : length a ≡ 256 * (1 + blocks_in f.0) = ap length s.3 ∙ length_archive c (proper_short s.0) in
      let b : blocks_in f.0 ≡ n = omega arith in
      let x : l ≡ cond (eqb 0 n) 0 1 = k ∙ by_test (eqb 0 n) (λ i. rw i refl) (λ i. rw i refl) in
      rw (o, u, x, b, ← link_is f.0 0 n 1 (omega arith)) refl

pub ruleset opens = (open_not, open_few, open_fits, open_refused, open_is, not-true, not-false, rules)

-- ---- one block
pub fields_are : (s : List ℕ) (next first kind locked m count size : ℕ) → next ≡ word_at s 0 → first ≡ word_at s 2 → kind ≡ get_or s 4 0 → locked ≡ get_or s 5 0
    → m ≡ get_or s 6 0 → count ≡ word_at s 37 → size ≡ size_in s
    → record { next = next; first = first; kind = kind; locked = locked; name_length = m; count = count; size = size } ≡ fields_in s
unfolding fields_in
fields_are s next first kind locked m count size a b c d e f g = rw (a, b, c, d, e, f, g) refl

module _ (a : List ℕ) (b : ℕ) where
  pub entry_not : ((b ≡ 0) ⊎ (4096 ≤ b)) → false ≡ is_entry a b
  unfolding is_entry
  entry_not (inl e) = rw e refl
  entry_not (inr h) = rw (lt-ltb 0 b (omega arith), le-ltb b 4096 h) refl

  pub entry_near : (s : List ℕ) (n : ℕ) (r : Bool) → (b ≡ 0 → ⊥) → b < 4096 → s ≡ drop (256 * b) a → n ≡ length a / 256 - (b + 1) → r ≡ sound_entry n b s → r ≡ is_entry a b
  unfolding is_entry
  entry_near s n r h l q e o = o ∙ rw (lt-ltb 0 b (omega arith), lt-ltb b 4096 l, q, e) refl

  pub step_some : (t : Bool) (s : List ℕ) (v : Entry) → t ≡ is_entry a b → t ≡ true → s ≡ drop (256 * b) a → v ≡ fields_in s → Some v ≡ entry_step a b
  unfolding entry_step
  step_some t s v e z q k = rw (k, ← e, z, q) refl

  pub step_none : (t : Bool) → t ≡ is_entry a b → t ≡ false → None ≡ entry_step a b
  unfolding entry_step
  step_none t e z = rw (← e, z) refl

  pub name_read : (s r : List ℕ) (m : ℕ) → s ≡ drop (256 * b) a → m ≡ get_or s 6 0 → r ≡ take m (drop 7 s) → r ≡ name_in a b
  name_read s r m q e k = k ∙ rw (e, q) refl

  pub raw_read : (s r : List ℕ) → s ≡ drop (256 * b) a → r ≡ take 30 (drop 42 s) → r ≡ raw_in a b
  raw_read s r q k = k ∙ rw q refl

  pub data_read : (s y r : List ℕ) (left : ℕ) → s ≡ drop (256 * b) a → y ≡ take 254 (drop 2 s) → r ≡ take left (drop 0 y) → r ≡ data_part a b left
  data_read s y r left q e k = k ∙ rw (e, q) refl

  pub next_read : (s : List ℕ) (r : ℕ) → s ≡ drop (256 * b) a → r ≡ word_at s 0 → r ≡ next_data a b
  next_read s r q k = k ∙ rw q refl

pub ruleset steps = (fields_are, entry_not, entry_near, step_some, step_none, name_read, raw_read, data_read, next_read, not-true, not-false, rules)
