-- What the tests of a forecast tell, one after the other. Assumes nothing.
use mathlib.Core.Path.{◌≡◌, refl, sym, ap, ◌∙◌}
use mathlib.Core.List.{List, ◌++◌}
use Prim.Native.Nat.{ℕ, ◌+◌, ◌<◌, ◌≤◌, ◌^◌}
use native.Mathlib.Omega.{arith}
use lib.ListN.{length, drop}
use borrow.Author.Tests.{lt-leb, le-leb}
use borrow.Author.Rules.{rules}
use Rattle.lists.specs.Select.{filter}
use Rattle.std.specs.Prelude.{Ok, Err}
use Rattle.outcome.specs.declared.Refusal.{Refusal}
use Rattle.outcome.specs.declared.Refusal.TheVariants.{TrayShort, PlanLong}
use Rattle.outcome.specs.Outcome.{Outcome, Hands}
use Rattle.outcome.proofs.Outcome.{hands_refused, hands_short, hands_over_lem}
use Rattle.outcome.proofs.Silent.{silent, silent_refused}
use Rattle.disk.specs.declared.Place.{Place}
use Rattle.files.specs.Contents.{Contents}
use Rattle.holders.proofs.Tallies.{silent_given}
use Rattle.amend.specs.Lines.{starts, tidy}
use Rattle.amend.proofs.Reading.{given_same}
use Rattle.saving.specs.Steps.{idle, Paged, Copied}
use Rattle.saving.proofs.Freeing.{vtoc_long, copy_is}
use Rattle.saving.proofs.Calls.{tidy_size, tidy_pages}
use Rattle.forecast.specs.Forecast.{ahead, open_lines, forecast, numbers_in, forecast_numbers}
use Rattle.forecast.specs.Steps.{Counted, HasTable, Plan, Foreseen, Prepared, AllTold}
use Rattle.forecast.proofs.Ahead.{marks_many}

-- ---- on a clean disk
module _ (d ks : List ℕ) (c : Contents) (clean : tidy 16 d ≡ Ok c) (few : length ks ≤ 64) where
  paged : Paged d
  paged = tidy_pages d c clean

  -- the numbers, so many lines being left
  told : (left : ℕ) → Counted d left → forecast_numbers d ks ≡ Ok (numbers_in (ahead 16 left d ks))
  unfolding forecast_numbers forecast open_lines
  told left m =
      rw (le-leb (length ks) 64 few, clean, paged.is) (ap (λ (n : ℕ). Ok (numbers_in (ahead 16 n d ks))) (sym (m.is paged.places paged.is)))

  length_told : (left : ℕ) → length (numbers_in (ahead 16 left d ks)) ≡ 3 + length ks
  length_told left = let m = marks_many 16 left d ks in omega arith

  -- there are so many of them
  pub numbers : (ns : List ℕ) × (forecast_numbers d ks ≡ Ok ns) × (length ns ≡ 3 + length ks)
  numbers =
      let left : ℕ = length (filter (idle d) (starts 16 paged.places)) in
      let m : Counted d left = record { is = λ ps q. ap (λ (l : List Place). length (filter (idle d) (starts 16 l))) (given_same paged.is q) } in
      (numbers_in (ahead 16 left d ks), told left m, length_told left)

module _ (d ks N : List ℕ) (y : Prepared d ks N) where
  size : length d ≡ 143360
  size = tidy_size d y.has y.clean

  pub told_paged : Paged d
  told_paged = paged d ks y.has y.clean y.few

  module _ (T : List ℕ) (c : Copied d T) where
    pub told_plan : Plan T ks N
    told_plan = record { long = ap length (copy_is d T c size) ∙ vtoc_long d size; few = y.few; wide = y.wide }

    pub told_all : (left : ℕ) (N' : List ℕ) → Foreseen T left ks N N' → Counted d left → AllTold d ks N N'
    told_all left N' f m =
        record {
          is = λ ns q.
              let e : numbers_in (ahead 16 left d ks) ≡ ns = given_same (told d ks y.has y.clean y.few left m) q in
              let o : HasTable T d = record { size = size; table = copy_is d T c size } in
              f.is d o ∙ (λ i. e i ++ drop ((sym (length_told d ks y.has y.clean y.few left) ∙ ap length e) i) N);
        }

pub ruleset tells = (told_paged, told_plan, told_all, rules)

-- ---- test by test
module _ (d ks N : List ℕ) where
  pub plan_long : 64 < length ks → Hands (forecast_numbers d ks) N N (Err PlanLong)
  unfolding forecast_numbers forecast
  plan_long h = hands_refused (forecast_numbers d ks) N PlanLong (rw (lt-leb (length ks) 64 h) refl) (Err PlanLong) refl

  pub plan_fits : length ks ≤ 64 → 3 + length ks < 2 ^ 64
  plan_fits h = omega arith

  module _ (few : length ks ≤ 64) where
    pub forecast_refused : (r : Outcome ℕ) (e : Refusal) → r ≡ Err e → Err e ≡ silent (tidy 16 d) → Hands (forecast_numbers d ks) N N r
    unfolding forecast_numbers forecast
    forecast_refused r e z h =
        let o : Outcome Contents = Err e in
        let t : tidy 16 d ≡ Err e = silent_refused o (tidy 16 d) e h refl in
        hands_refused (forecast_numbers d ks) N e (rw (le-leb (length ks) 64 few, t) refl) r z

    module _ (z : Ok tt ≡ silent (tidy 16 d)) where
      has : (c : Contents) × (tidy 16 d ≡ Ok c)
      has = silent_given (tidy 16 d) (sym z)

      pub forecast_ready : 3 + length ks ≤ length N → Prepared d ks N
      forecast_ready h = record { has = has.0; clean = has.1; few = few; wide = h }

      pub forecast_short : length N < 3 + length ks → Hands (forecast_numbers d ks) N N (Err TrayShort)
      forecast_short h =
          let c = numbers d ks has.0 has.1 few in
          hands_short (forecast_numbers d ks) N c.0 c.1 (omega (arith, c.2)) (Err TrayShort) refl

      pub forecast_told : (N' : List ℕ) → AllTold d ks N N' → 3 + length ks ≤ length N → Hands (forecast_numbers d ks) N N' (Ok (3 + length ks))
      forecast_told N' t h =
          let c = numbers d ks has.0 has.1 few in
          hands_over_lem (forecast_numbers d ks) N N' c.0 c.1 (omega (arith, c.2)) (t.is c.0 c.1) (Ok (3 + length ks)) (ap Ok (sym c.2))

pub ruleset forecasts = (plan_long, plan_fits, forecast_refused, forecast_ready, forecast_short, forecast_told, rules)
