-- The stepping law, carried from the cursor to the reader. Assumes nothing.
use mathlib.Core.Path.{◌≡◌, sym, ap, ◌∙◌, subst}
use mathlib.Core.List.{List}
use Prim.Native.Nat.{ℕ}
use denote.Ref.{Bor}
use Rattle.std.specs.Prelude.{Option, Some, None, Ok}
use Rattle.files.specs.Contents.{File}
use Rattle.archive.specs.Reader.{opened}
use Rattle.reader.specs.declared.Entry.{Entry}
use Rattle.reader.specs.Steps.{opened_with, begins, entry_step}
use Rattle.reader.specs.Claims.{Stepped, end, entry}
use Rattle.reader.proofs.Claimed.{reading}
use Rattle.cursor.specs.Cursor
use Rattle.cursor.specs.Cursor.{next_of, Goes, Stepping}

-- what the cursor shows from a block on, the reader shows that stands there
goes : (a : Bor (List ℕ)) (b : ℕ) (fs : List File) → Stepped (λ i. Ok (entry_step a.now i)) a.now b fs → Goes (record { archive = a; block = b }) fs
goes a b fs (end e) =
    let z : entry_step a.now 0 ≡ None = cc in
    Cursor.end (record { archive = a; block = 0 }) z (ap (λ (x : Option Entry). entry_step a.now (next_of x)) z ∙ z)
goes a b fs (entry b₁ f fs₁ z s t) =
    let e : Ok (entry_step a.now b) ≡ Ok (Some s.answer) = s.is in
    let y : entry_step a.now b ≡ Some s.answer = cc in
    Cursor.entry (record { archive = a; block = b }) f fs₁ s
    (subst (λ (i : ℕ). Goes (record { archive = a; block = i }) fs₁) (sym (ap next_of y)) (goes a s.answer.next fs₁ t))

pub stepping : Stepping
stepping r c bytes e at =
    subst (λ (b : ℕ). Goes (record { archive = r.archive; block = b }) c.files) (sym at)
    (goes r.archive (begins (opened_with (opened r.archive.now))) c.files (reading.steps r.archive.now c bytes e))
