-- What the two sides may rely on, of the calls: Req 10.
use Rattle.std.specs.Prelude.{◌≡◌, List, [], ◌∷◌, ℕ, Ok, Err}
use Rattle.lists.specs.Every.{Every}
use Rattle.lists.specs.Fill.{Bytes}
use Rattle.outcome.specs.declared.Refusal.TheVariants.{NoSpace, OtherSide, OverLimit}
use Rattle.outcome.specs.Outcome.{Outcome}
use Rattle.disk.specs.declared.Place.{Place}
use Rattle.amend.specs.Amending.{amend, Clean}
use Rattle.sides.specs.declared.Side.{Side}
use Rattle.sides.specs.Sides.{other, Call, answer, run_for}
use Rattle.sides.specs.Claims.{BytesIn, KeptFor, InLimit, OneLimit, SameOwn, own_data, DifferIn}
use Rattle.saving.specs.Saving.{Amended}

-- calls by the sides in a row, each by its promise: the disk d became e
pub data SideCalls : List ℕ → List Call → List ℕ → Type 0 where
  none : {d : List ℕ} → SideCalls d [] d
  more : {d e f : List ℕ} {c : Call} {cs : List Call} (r : Outcome (Unit {0})) → Amended (answer 16 d c) d e r → SideCalls e cs f → SideCalls d (c ∷ cs) f

-- the same call on two disks, each by its promise: d became d' and answered r, e became e' and answered q
pub record Twice (c : Call) (d d' : List ℕ) (r : Outcome (Unit {0})) (e e' : List ℕ) (q : Outcome (Unit {0})) : Type 0 where
  pub one : Amended (answer 16 d c) d d' r
  pub two : Amended (answer 16 e c) e e' q

-- Req 10 of the calls
pub record Serving : Type 0 where
  -- calls in a row leave the disk of the definitions, and a clean one clean
  pub runs : (d e : List ℕ) (cs : List Call) → SideCalls d cs e → e ≡ run_for 16 d cs
  pub stays : (d e : List ℕ) (cs : List Call) → SideCalls d cs e → Clean 16 d → Every BytesIn cs → Clean 16 e
  -- a call that is not refused as 23 or 24 keeps the promise of the save or delete of Req 09
  pub otherwise : (d e : List ℕ) (c : Call) (r : Outcome (Unit {0})) → Amended (answer 16 d c) d e r → (r ≡ Err OtherSide → ⊥) → (r ≡ Err OverLimit → ⊥) → Amended (amend 16 d c.op) d e r
  -- 1. calls by one side leave every byte of the other's files, and of its entry lines
  pub keeps : (d e : List ℕ) (cs : List Call) → SideCalls d cs e → Bytes d → (s : Side) → Every BytesIn cs → Every (λ (c : Call). c.side ≡ s) cs
      → KeptFor 16 (other s) d e
  -- 2. a side stays within its limit, whatever the other does between
  pub limits : (d e : List ℕ) (cs : List Call) → SideCalls d cs e → Bytes d → (s : Side) (limit : ℕ) → InLimit 16 s limit d → Every BytesIn cs
      → OneLimit s limit cs → InLimit 16 s limit e
  -- 3. on two clean disks with the same lines and threads of its own a call is answered the same, unless one answer is 21
  pub alike : (c : Call) (d d' : List ℕ) (r : Outcome (Unit {0})) (e e' : List ℕ) (q : Outcome (Unit {0})) → Twice c d d' r e e' q → Clean 16 d → Clean 16 e → SameOwn 16 c.side d e
      → (r ≡ Err NoSpace → ⊥) → (q ≡ Err NoSpace → ⊥) → q ≡ r
  -- 4. on two that differ only in data sectors of the other's files it is answered the same always, and they then differ only there
  pub always : (c : Call) (d d' : List ℕ) (r : Outcome (Unit {0})) (e e' : List ℕ) (q : Outcome (Unit {0})) → Twice c d d' r e e' q → Clean 16 d → BytesIn c → (ps : List Place)
      → own_data 16 d (other c.side) ≡ Ok ps → DifferIn 16 ps d e → (q ≡ r) × DifferIn 16 ps d' e'
