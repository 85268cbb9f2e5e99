-- One pass over the entries, up to the block asked for. Assumes nothing.
use mathlib.Core.Path.{◌≡◌, refl, sym, ap, subst, ◌∙◌}
use mathlib.Core.List.{List, [], ◌∷◌}
use Prim.Native.Nat.{ℕ, ◌+◌, ◌/◌, ◌≤◌, ◌<◌}
use native.Mathlib.Omega.{arith}
use lib.ListN.{length, get_or}
use borrow.Author.Rules.{rules}
use mir.Val.{Fits}
use mir.Syntax.{w8}
use Rattle.std.specs.Prelude.{Some, None, Ok, Err}
use Rattle.outcome.specs.declared.Refusal.{Refusal}
use Rattle.outcome.specs.Outcome.{Outcome}
use Rattle.outcome.proofs.Outcome.{some_none, gives, map_refuses}
use Rattle.files.specs.Contents.{File, Contents}
use Rattle.files.specs.Survey.{data_blocks, blocks_in}
use Rattle.archive.specs.Reader.{opened}
use Rattle.reader.specs.declared.Opened.{Opened}
use Rattle.reader.specs.declared.Entry.{Entry}
use Rattle.reader.specs.Steps.{Opens, opening, opened_with, entry_step, fields_of, entry_of, entry_with}
use Rattle.reader.proofs.Files.{From, from_first, from_next, from_step}
use Rattle.reader.proofs.Stepping.{entry_here, entry_there}

-- the files before block i were passed over
pub record Passed (a : List ℕ) (block i : ℕ) : Type 0 where
  pub files : List File
  pub blocks : From a i files
  pub is : entry_with (opened a) block ≡ Ok (entry_of i files block)

-- the data length among a file's fields
size_is : (i : ℕ) (f : File) (fs : List File) (e : Entry) → Some e ≡ Some (fields_of i f fs) → e.size ≡ length f.bytes
unfolding fields_of
size_is i f fs e h = let z : e ≡ fields_of i f fs = cc in ap (λ (v : Entry). v.size) z

module _ (a : List ℕ) (block : ℕ) where
  pub pass_none : Opens a → ((k : ℕ) → Fits w8 (get_or a k 0)) → Passed a block 1
  pass_none z h =
      record {
        files = z.contents.files;
        blocks = from_first a z.contents (λ k. omega (arith, h k)) z.is;
        is = ap (λ (o : Outcome Contents). entry_with o block) z.is;
      }

  module _ (i m : ℕ) (q : m ≡ length a / 256) where
    -- a block is left: its entry is given
    go_some : (fs : List File) → From a i fs → i < m → entry_step a i ≡ None → ⊥
    unfolding blocks_in
    go_some [] r l o = omega (arith, r.long)
    go_some (f ∷ fs) r l o = some_none (sym (from_step a i f fs r) ∙ o)

    go_more : (fs : List File) → From a i fs → entry_with (opened a) block ≡ Ok (entry_of i fs block) → i < m → (e : Entry) → Some e ≡ entry_step a i → (i ≡ block → ⊥)
        → Passed a block (i + (1 + (e.size + 253) / 254))
    unfolding blocks_in
    go_more [] r h l e o y = absurd (omega (arith, r.long))
    go_more (f ∷ fs) r h l e o y =
        let s : e.size ≡ length f.bytes = size_is i f fs e (o ∙ from_step a i f fs r) in
        let n : i + 1 + data_blocks f ≡ i + (1 + (e.size + 253) / 254) = omega arith in
        subst (Passed a block) n (record { files = fs; blocks = from_next a i f fs r; is = h ∙ ap Ok (entry_there f fs i block y) })

    go_hit : (fs : List File) → From a i fs → entry_with (opened a) block ≡ Ok (entry_of i fs block) → i < m → (e : Entry) → Some e ≡ entry_step a i → i ≡ block
        → Ok (Some e) ≡ entry_with (opened a) block
    unfolding blocks_in
    go_hit [] r h l e o y = absurd (omega (arith, r.long))
    go_hit (f ∷ fs) r h l e o y = ap Ok (o ∙ from_step a i f fs r ∙ sym (entry_here f fs i block y)) ∙ sym h

    go_end : (fs : List File) → From a i fs → entry_with (opened a) block ≡ Ok (entry_of i fs block) → m ≤ i → Ok None ≡ entry_with (opened a) block
    unfolding blocks_in entry_of
    go_end [] r h l = sym h
    go_end (f ∷ fs) r h l = absurd (omega (arith, r.long))

    pub pass_some : {A : Type 0} → Passed a block i → i < m → None ≡ entry_step a i → A
    pass_some p l o = absurd (go_some p.files p.blocks l (sym o))

    pub pass_more : (e : Entry) → Passed a block i → i < m → Some e ≡ entry_step a i → (i ≡ block → ⊥) → Passed a block (i + (1 + (e.size + 253) / 254))
    pass_more e p l o y = go_more p.files p.blocks p.is l e o y

    pub pass_hit : (e : Entry) → Passed a block i → i < m → Some e ≡ entry_step a i → i ≡ block → Ok (Some e) ≡ entry_with (opened a) block
    pass_hit e p l o y = go_hit p.files p.blocks p.is l e o y

    pub pass_end : Passed a block i → m ≤ i → Ok None ≡ entry_with (opened a) block
    pass_end p l = go_end p.files p.blocks p.is l

-- what opening says of it
module _ (a : List ℕ) where
  pub opens_lem : (v : Opened) → Ok v ≡ opened_with (opened a) → Opens a
  opens_lem v e = let g = gives (opened a) (λ c. Ok (opening c)) v (sym e) in record { contents = g.0; is = g.1 }

  pub entry_refused : (block : ℕ) (r : Refusal) → Err r ≡ opened_with (opened a) → Err r ≡ entry_with (opened a) block
  entry_refused block r e = rw (map_refuses opening (opened a) (sym e)) refl

pub ruleset finds = (pass_none, pass_more, pass_hit, pass_end, opens_lem, entry_refused, rules)
