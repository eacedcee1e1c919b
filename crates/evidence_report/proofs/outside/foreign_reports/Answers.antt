use Rattle.std.specs.Prelude.{◌≡◌, ◌+◌, List, Some, slice_get}
use Rattle.std.proofs.Common.{sym, subst, length, refl}
use Rattle.std.proofs.lemmas.Option.{slice_get_read}
use Rattle.causal_order.specs.declared.certificate.Foreign.{Foreign}
use Rattle.evidence_report.specs.declared.foreign_report.ForeignReport.{ForeignReport}
use Rattle.evidence_report.specs.Others.{IsForeignReport}
use Rattle.evidence_report.proofs.Shown.{AreShownSoFar, one_shown}
use Rattle.evidence_report.proofs.outside.foreign_reports.Goals as goal

pub loop-entry-preserved : goal.loop-entry-preserved
loop-entry-preserved g c =
    let js = g.L.Lines.journals c.args.lines.now in
    let entries = c.as_slice-entry-items.result.now in
    let at : slice_get c.args.certificate.now.foreign c.loop-entry.entry-index ≡ Some c.entry-item.result =
    subst (λ (xs : List Foreign). slice_get xs c.loop-entry.entry-index ≡ Some c.entry-item.result)
    c.as_slice-entry-items.ensures
    (slice_get_read entries (length entries) c.loop-entry.entry-index c.entry-item.result refl c.loop-entry-test.true
    c.entry-item.is) in
    subst (λ (shown : List ForeignReport). AreShownSoFar (IsForeignReport js) c.args.certificate.now.foreign shown
    (c.loop-entry.entry-index + 1)) (sym c.in_ok-extend_from_slice.ensures.items)
    (one_shown (IsForeignReport js) c.args.certificate.now.foreign c.loop-entry.foreign.items c.loop-entry.entry-index
    c.entry-item.result _ at c.foreign_report.ensures c.loop-entry.invariant)
