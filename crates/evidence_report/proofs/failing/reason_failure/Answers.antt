use Rattle.std.specs.Prelude.{◌≡◌, List, Some, slice_get}
use Rattle.std.proofs.Common.{arith, ap, length, subst, refl}
use Rattle.std.proofs.lemmas.Option.{slice_get_read}
use Rattle.causal_order.specs.declared.certificate.Foreign.{Foreign}
use Rattle.attribution.specs.Acceptance.{ReasonHolds}
use Rattle.auditor.proofs.Tiling.{one_more, all_held}
use Rattle.evidence_report.specs.declared.faults.Failure.TheVariants.{Reason}
use Rattle.evidence_report.specs.declared.foreign_report.ForeignReport.{ForeignReport}
use Rattle.evidence_report.specs.Others.{IsForeignReport}
use Rattle.evidence_report.proofs.Refusing.{one_for, fails_as_shown, holds_as_shown}
use Rattle.evidence_report.proofs.failing.reason_failure.Goals as goal

pub returns-in-Some : goal.returns-in-Some
returns-in-Some c = λ js skew transit d h.
    let i = c.loop-shown.shown-index in
    let items = c.deref-shown-items.result.now in
    let at = subst (λ (xs : List ForeignReport). slice_get xs i ≡ Some c.shown-item.result)
    c.deref-shown-items.ensures.value
    (slice_get_read items (length items) i c.shown-item.result refl c.loop-shown-test.true c.shown-item.is) in
    let of = one_for (IsForeignReport js) d.foreign c.args.report.now.foreign.items i c.shown-item.result h.foreign at in
    let fails = fails_as_shown js skew transit d c.args.report.now h of.0 c.in-Some.fault
    (c.in-Some.ensures js of.0 of.2) in (
      i,
      of.0,
      c.in-Some.fault,
      ap (λ (f : Foreign). Reason f.grant c.in-Some.fault) of.2.entry,
      (of.1, fails.1, (c.loop-shown.invariant js skew transit d h).each),
      fails,
    )

pub loop-shown-preserved : goal.loop-shown-preserved
loop-shown-preserved c = λ js skew transit d h.
    let i = c.loop-shown.shown-index in
    let items = c.deref-shown-items.result.now in
    let at = subst (λ (xs : List ForeignReport). slice_get xs i ≡ Some c.shown-item.result)
    c.deref-shown-items.ensures.value
    (slice_get_read items (length items) i c.shown-item.result refl c.loop-shown-test.true c.shown-item.is) in
    let of = one_for (IsForeignReport js) d.foreign c.args.report.now.foreign.items i c.shown-item.result h.foreign at in
    one_more (ReasonHolds js skew transit d) d.foreign i of.0 of.1
    (holds_as_shown js skew transit d c.args.report.now h of.0 (c.in_default.ensures js of.0 of.2))
    (c.loop-shown.invariant js skew transit d h)

pub returns : goal.returns
returns c = λ js skew transit d h. all_held (ReasonHolds js skew transit d) d.foreign c.loop-shown.shown-index
    (omega (arith, h.foreign.count, ap length c.deref-shown-items.ensures.value))
    (c.loop-shown.invariant js skew transit d h)
