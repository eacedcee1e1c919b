use Rattle.std.proofs.Common.{arith}
use Rattle.std.proofs.lemmas.Option.{slice_get-get_or}
use Rattle.auditor.proofs.Given.{Contains-get}
use Rattle.evidence_report.proofs.Clearing.{one_less, none_discharges}
use Rattle.evidence_report.proofs.releases.discharging.Goals as goal

pub discharging_at-requires : goal.discharging_at-requires
discharging_at-requires g c = (c.naming-index-items.ensures _).0 (Contains-get _ c.loop-index.index-index _
    (slice_get-get_or c.naming-index-items.result.now c.loop-index.index-index 0 c.loop-index-test.true))

pub loop-index-preserved : goal.loop-index-preserved
loop-index-preserved g c = one_less _ _ _ _ c.naming-index-items.result.now c.loop-index.index-index 0
    c.loop-index-test.true c.in_default.ensures c.loop-index.invariant

pub returns : goal.returns
returns g c = none_discharges _ _ _ _ c.naming-index-items.result.now c.loop-index.index-index
    c.naming-index-items.ensures (omega arith) c.loop-index.invariant
