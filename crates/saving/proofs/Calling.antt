-- Saves and deletes in a row, as they are called. Assumes nothing.
use mathlib.Core.Path.{◌≡◌, refl, sym, ap, ◌∙◌}
use mathlib.Core.List.{List, [], ◌∷◌}
use Prim.Native.Nat.{ℕ}
use Rattle.lists.specs.Every.{Every}
use Rattle.std.specs.Prelude.{Ok, Err}
use Rattle.outcome.specs.declared.Refusal.{Refusal}
use Rattle.outcome.specs.Outcome.{Outcome}
use Rattle.outcome.proofs.Outcome.{refused_given}
use Rattle.outcome.proofs.Silent.{silent}
use Rattle.disk.specs.Disk.{per_of}
use Rattle.files.specs.Survey.{fetched}
use Rattle.amend.specs.Save.{saved}
use Rattle.amend.specs.Amending.{Op, amend, kept, run, Clean}
use Rattle.amend.specs.Amending as Amends
use Rattle.amend.proofs.Reading.{contents_size, tidy_given}
use Rattle.amend.proofs.Amending.{amending}
use Rattle.saving.specs.Saving.{Amended, Calls, Calling}
use Rattle.saving.specs.Saving as Says
use Rattle.saving.proofs.Tidied.{per_is}

-- calls in a row are the run of the definitions
runs_are : (d e : List ℕ) (ops : List Op) → Calls d ops e → e ≡ run 16 d ops
unfolding run
runs_are d e ops Says.none = refl
runs_are d f ops (Says.more {e = e} {op = op} {ops = ops'} r a c) = runs_are e f ops' c ∙ ap (λ (x : List ℕ). run 16 x ops') a.disk

-- a refusal leaves the disk
left : (d e : List ℕ) (o : Outcome (List ℕ)) (r : Refusal) → Err r ≡ silent o → e ≡ kept d o → e ≡ d
left d e (Err q) r a b = b
left d e (Ok x) r a b = absurd (refused_given a)

-- a clean disk has 16 sectors a track
clean_per : (d : List ℕ) → Clean 16 d → per_of d ≡ 16
clean_per d c = per_is d (contents_size 16 d c.has (tidy_given 16 d c.has c.is).1)

-- the answer without a refusal says that the disk is the one that is given
gave : (d e : List ℕ) (o : Outcome (List ℕ)) → Amended o d e (Ok tt) → o ≡ Ok e
gave d e (Err q) a = absurd (refused_given (sym a.is))
gave d e (Ok x) a = ap Ok (sym a.disk)

pub calling : Calling
calling =
    record {
      runs = runs_are;
      stays = λ d e ops c k b. rw (runs_are d e ops c) (amending.stays d k ops b);
      follows = λ d e ops c k b ls l. rw (runs_are d e ops c) (amending.follows d k ops b ls l);
      fetches = λ d e k name address bytes b a.
          let g : saved 16 d name address bytes ≡ Ok e = gave d e (saved 16 d name address bytes) a in
          let c : Calls d (Amends.save name address bytes ∷ []) e = Says.more (Ok tt) a Says.none in
          let m : Clean 16 e = rw (runs_are d e _ c) (amending.stays d k (Amends.save name address bytes ∷ []) (Every.more b Every.none)) in
          ap (λ (n : ℕ). fetched n e name) (clean_per e m) ∙ amending.fetches d k name address bytes b e g;
      leaves = λ d e op r a. left d e (amend 16 d op) r a.is a.disk;
    }
