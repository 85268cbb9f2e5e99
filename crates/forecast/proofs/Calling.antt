-- The forecast beside the saves, as they are called. Assumes nothing.
use mathlib.Core.Path.{◌≡◌, refl, sym, ap, ◌∙◌}
use mathlib.Core.List.{List, ◌∷◌, ◌++◌, map}
use Prim.Native.Nat.{ℕ}
use native.Mathlib.Omega.{arith}
use lib.ListN.{length, drop}
use Rattle.std.specs.Prelude.{Ok}
use Rattle.outcome.specs.Outcome.{Outcome, answer_of}
use Rattle.outcome.proofs.Outcome.{gives, handed_fits, hands_given}
use Rattle.amend.specs.Amending.{run}
use Rattle.forecast.specs.Forecast.{Forecast, forecast, numbers_in, forecast_numbers}
use Rattle.forecast.specs.Claims.{Planned, save_of, lengths_of, answers_to, mark_for, used, Saves, Foretelling}
use Rattle.forecast.specs.Claims as Says
use Rattle.forecast.proofs.Forecasting.{forecasting}
use Rattle.forecast.proofs.Calls.{numbers}

-- calls in a row answer what the definitions answer, and leave their disk
answers_are : (d e : List ℕ) (ss : List Planned) (rs : List (Outcome (Unit {0}))) → Saves d ss rs e → (rs ≡ answers_to 16 d (map save_of ss)) × (e ≡ run 16 d (map save_of ss))
unfolding answers_to run
answers_are d e ss rs Says.none = (refl, refl)
answers_are d f ss rs (Says.more {e = e} {s = s} {ss = ss'} {rs = rs'} r a c) =
    let i = answers_are e f ss' rs' c in (
      (λ j. a.is j ∷ (i.0 ∙ ap (λ (x : List ℕ). answers_to 16 x (map save_of ss')) a.disk) j),
      i.1 ∙ ap (λ (x : List ℕ). run 16 x (map save_of ss')) a.disk,
    )

-- the numbers that were given are those of a forecast
forecast_given : (d ks ns : List ℕ) → forecast_numbers d ks ≡ Ok ns → (f : Forecast) × (forecast 16 d ks ≡ Ok f) × (numbers_in f ≡ ns)
unfolding forecast_numbers
forecast_given d ks ns e =
    let g = gives (forecast 16 d ks) (λ f. Ok (numbers_in f)) ns e in
    let q : Ok (numbers_in g.0) ≡ Ok ns = g.2 in
    (g.0, g.1, cc)

pub foretelling : Foretelling
foretelling =
    record {
      accepts = λ d c ks before after h u few wide.
          let n = numbers d ks c.has c.is few in
          let fits = handed_fits (forecast_numbers d ks) before n.1 (omega (arith, n.2)) in
          u.answer ∙ ap answer_of fits ∙ ap Ok n.2;
      equals = λ d c ls l ss a before after m u e rs s.
          let w = hands_given m u refl in
          let g = forecast_given d (lengths_of ss) w.0 w.1 in
          let t = forecasting.equals d c ls l ss a g.0 g.1 in
          let r = answers_are d e ss rs s in (
            g.0,
            w.3 ∙ ap (λ (x : List ℕ). x ++ drop (length x) before) (sym g.2),
            t.marks ∙ ap (map mark_for) (sym r.0),
            λ x q. ap (used 16) r.1 ∙ t.needs x q,
          );
    }
