-- What a save and a delete promise, and what calls in a row come to: Req 09.
use Rattle.std.specs.Prelude.{◌≡◌, List, [], ◌∷◌, ℕ}
use Rattle.std.proofs.Math.Option.{Option}
use Rattle.lists.specs.Every.{Every}
use Rattle.lists.specs.Fill.{Bytes}
use Rattle.std.specs.Prelude.{Ok, Err}
use Rattle.outcome.specs.declared.Refusal.{Refusal}
use Rattle.outcome.specs.Outcome.{Outcome}
use Rattle.disk.specs.Disk.{per_of}
use Rattle.files.specs.Contents.{File}
use Rattle.files.specs.Survey.{fetched}
use Rattle.amend.specs.Lines.{lines}
use Rattle.amend.specs.Save.{saved}
use Rattle.amend.specs.Amending.{Op, OfBytes, amend, bare, kept, run, plan, Clean}

-- The answer r is the refusal of o, or that there is none; the disk is then as it was, or the one that o gives.
pub record Amended (o : Outcome (List ℕ)) (before after : List ℕ) (r : Outcome (Unit {0})) : Type 0 where
  pub is : r ≡ bare o
  pub disk : after ≡ kept before o

-- calls in a row, each by its promise: the disk d became e
pub data Calls : List ℕ → List Op → List ℕ → Type 0 where
  none : {d : List ℕ} → Calls d [] d
  more : {d e f : List ℕ} {op : Op} {ops : List Op} (r : Outcome (Unit {0})) → Amended (amend 16 d op) d e r → Calls e ops f → Calls d (op ∷ ops) f

-- Req 09 of the calls
pub record Calling : Type 0 where
  -- calls in a row leave the disk of the definitions
  pub runs : (d e : List ℕ) (ops : List Op) → Calls d ops e → e ≡ run 16 d ops
  -- so a clean disk stays clean, and its lines are those of the plain list
  pub stays : (d e : List ℕ) (ops : List Op) → Calls d ops e → Clean 16 d → Every OfBytes ops → Clean 16 e
  pub follows : (d e : List ℕ) (ops : List Op) → Calls d ops e → Clean 16 d → Every OfBytes ops → (ls : List (Option File)) → lines 16 d ≡ Ok ls
      → lines 16 e ≡ Ok (plan 16 d ops ls)
  -- what was saved is fetched by its name, as the fetch is promised
  pub fetches : (d e : List ℕ) → Clean 16 d → (name : List ℕ) (address : ℕ) (bytes : List ℕ) → Bytes bytes → Amended (saved 16 d name address bytes) d e (Ok tt)
      → fetched (per_of e) e name ≡ Ok bytes
  -- a call that is refused leaves every byte
  pub leaves : (d e : List ℕ) (op : Op) (r : Refusal) → Amended (amend 16 d op) d e (Err r) → e ≡ d
