use Rattle.std.specs.Prelude.{◌+◌, List}
use Rattle.std.proofs.Common.{sym, subst}
use Rattle.evidence_report.specs.declared.piece_report.ReleaseReport.{ReleaseReport}
use Rattle.evidence_report.proofs.Shown.{AreReportedSoFar, one_reported, none_missing}
use Rattle.evidence_report.proofs.releases.reports_of.Goals as goal
use Rattle.evidence_report.proofs.releases.reports_of.Goals.{in-Some+in_ok-extend_from_slice, in_default}

pub loop-at-preserved : goal.loop-at-preserved
loop-at-preserved g c =
    let js = g.L.Lines.journals c.args.lines.now in
    let refs = c.args.refs.now in
    let at = c.loop-at.at-index in
    elim c.match-mark_at.branch [
      | in-Some+in_ok-extend_from_slice w ↦ rw w.releases-is
          (subst (λ (shown : List ReleaseReport). AreReportedSoFar js c.args.skew c.args.piece.now refs shown (at + 1))
          (sym w.in_ok-extend_from_slice.ensures.items)
          (one_reported js c.args.skew c.args.piece.now refs c.loop-at.releases.items at _ w.in-Some.release _
          c.loop-at-test.true w.in-Some.ensures w.release_report.ensures.release w.release_report.ensures.shown
          c.loop-at.invariant))
      | in_default w ↦ absurd (none_missing js c.args.skew c.args.piece.now refs c.requires at _ c.loop-at-test.true
          w.in_default.ensures)
    ]
