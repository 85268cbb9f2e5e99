use Rattle.std.proofs.Common.{◌≡◌, ℕ, ap, sym, ◌∙◌, arith}
use Rattle.files.proofs.Runs.{pairings, pairing_stop, pairing_full, pairing_more}
use Rattle.files.proofs.parse_track_sector_list.Goals as goal

pub loop-i-init : goal.loop-i-init
loop-i-init c = search pairings

pub returns-then-q-eq0-clause-is : goal.returns-then-q-eq0-clause-is
returns-then-q-eq0-clause-is c = pairing_stop _ _ _ _ _ c.loop-i.invariant (omega arith) _ c.parse_track_sector_pair-q.ensures c.if-q-eq0.true

pub loop-i-preserved : goal.loop-i-preserved
loop-i-preserved c = pairing_more _ _ _ _ _ c.loop-i.invariant (omega arith) _ c.parse_track_sector_pair-q.ensures c.if-q-eq0.false _ c.on_disk-good.ensures

pub returns-clause-is : goal.returns-clause-is
returns-clause-is c =
    let e : c.loop-i.i ≡ 122 = omega arith in
    ap (λ (i : ℕ). record { count = i; good = c.loop-i.good }) (sym e) ∙ pairing_full _ _ _ _ _ c.loop-i.invariant (omega arith)
