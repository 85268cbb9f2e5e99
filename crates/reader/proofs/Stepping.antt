-- From the block that opening answers, the steps show the files of the contents. Assumes nothing.
use Rattle.std.specs.Prelude.{Option, Some, None, Ok}
use mathlib.Core.Path.{◌≡◌, refl, ap, ◌∙◌}
use mathlib.Core.Bool.{cond}
use mathlib.Core.List.{List, [], ◌∷◌}
use Prim.Native.Nat.{ℕ, ◌+◌, ◌≤◌, ◌<◌}
use native.Mathlib.Omega.{arith}
use lib.ListN.{length}
use lib.Dec.{eqb}
use borrow.Author.Tests.{eq-eqb, ne_eqb}
use Rattle.lists.specs.Fill.{Bytes}
use Rattle.files.specs.Contents.{File, Contents}
use Rattle.files.specs.Survey.{data_blocks, blocks_in}
use Rattle.archive.specs.Archive.{if_any}
use Rattle.archive.specs.Reader.{opened}
use Rattle.reader.specs.declared.Entry.{Entry}
use Rattle.outcome.specs.Outcome.{Outcome}
use Rattle.reader.specs.Steps.{opened_with, begins, is_entry, entry_step, fields_of, entry_of, entry_with}
use Rattle.reader.specs.Claims.{Joins, Shows, Stepped}
use Rattle.reader.specs.Claims
use Rattle.reader.proofs.Files.{From, from_first, from_data_lem, from_next, from_name, from_raw, from_step, joins}

-- a step that answers a file's fields shows the file
shows : (step : ℕ → Outcome (Option Entry)) (a : List ℕ) (b : ℕ) (f : File) (fs : List File) → From a b (f ∷ fs) → step b ≡ Ok (Some (fields_of b f fs)) → Shows step a b f
unfolding fields_of blocks_in
shows step a b f fs r e =
    let k = data_blocks f in
    let j : Joins a (cond (eqb k 0) 0 (b + 1)) (length f.bytes) f.bytes =
    joins a k (b + 1) f.bytes _ refl (omega arith) (omega (arith, r.few)) (from_data_lem a b f fs r) in
    record {
      answer = fields_of b f fs;
      is = e;
      kind = refl;
      locked = refl;
      name_length = refl;
      name = from_name a b f fs r;
      raw = from_raw a b f fs r;
      count = refl;
      size = refl;
      bytes = j;
    }

-- steps that answer the fields of each file, as long as Q holds, and then the end
module _ (step : ℕ → Outcome (Option Entry)) (a : List ℕ) (Q : ℕ → List File → Type 0) (z : step 0 ≡ Ok None)
    (answers : (b : ℕ) (f : File) (fs : List File) → From a b (f ∷ fs) → Q b (f ∷ fs) → step b ≡ Ok (Some (fields_of b f fs)))
    (goes : (b : ℕ) (f : File) (fs : List File) → Q b (f ∷ fs) → Q (b + 1 + data_blocks f) fs) where
  stepped : (fs : List File) (b : ℕ) → From a b fs → Q b fs → Stepped step a (if_any fs b) fs
  unfolding fields_of shows
  stepped [] b r q = Claims.end z
  stepped (f ∷ fs) b r q =
      let i : Stepped step a (if_any fs (b + 1 + data_blocks f)) fs = stepped fs (b + 1 + data_blocks f) (from_next a b f fs r) (goes b f fs q) in
      Claims.entry b f fs r.some (shows step a b f fs r (answers b f fs r q)) i

-- ---- the step that looks at one block
step_zero : (a : List ℕ) → entry_step a 0 ≡ None
unfolding entry_step is_entry
step_zero a = refl

-- where opening begins
first_is : (a : List ℕ) (c : Contents) → opened a ≡ Ok c → begins (opened_with (opened a)) ≡ if_any c.files 1
first_is a c o = rw o refl

pub steps : (a : List ℕ) (c : Contents) → Bytes a → opened a ≡ Ok c → Stepped (λ b. Ok (entry_step a b)) a (begins (opened_with (opened a))) c.files
steps a c h o =
    rw (first_is a c o)
    (stepped (λ b. Ok (entry_step a b)) a (λ b fs. Unit {0}) (ap Ok (step_zero a)) (λ b f fs r q. ap Ok (from_step a b f fs r)) (λ b f fs q. tt) c.files 1 (from_first a c h o) tt)

-- ---- the step that looks at all
-- before the first file's block is none
pub entry_before : (fs : List File) (i b : ℕ) → b < i → entry_of i fs b ≡ None
unfolding entry_of
entry_before [] i b h = refl
entry_before (f ∷ fs) i b h = rw (ne_eqb i b (λ e. omega arith)) (entry_before fs (i + 1 + data_blocks f) b (omega arith))

-- the file at its own block
pub entry_here : (f : File) (fs : List File) (i b : ℕ) → i ≡ b → entry_of i (f ∷ fs) b ≡ Some (fields_of i f fs)
unfolding entry_of
entry_here f fs i b e = rw (eq-eqb i b e) refl

-- .. and the others
pub entry_there : (f : File) (fs : List File) (i b : ℕ) → (i ≡ b → ⊥) → entry_of i (f ∷ fs) b ≡ entry_of (i + 1 + data_blocks f) fs b
unfolding entry_of
entry_there f fs i b h = rw (ne_eqb i b h) refl

pub exact : (a : List ℕ) (c : Contents) → Bytes a → opened a ≡ Ok c → Stepped (entry_with (opened a)) a (begins (opened_with (opened a))) c.files
exact a c h o =
    rw (first_is a c o)
    (rw o
    (stepped (λ j. Ok (entry_of 1 c.files j)) a (λ b fs. (j : ℕ) → b ≤ j → entry_of 1 c.files j ≡ entry_of b fs j) (ap Ok (entry_before c.files 1 0 (omega arith)))
    (λ b f fs r q. ap Ok (q b (omega arith) ∙ entry_here f fs b b refl))
    (λ b f fs q j l. q j (omega arith) ∙ entry_there f fs b j (λ e. omega arith)) c.files 1 (from_first a c h o) (λ j l. refl)))
