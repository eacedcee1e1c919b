use Rattle.std.specs.Prelude.{◌+◌, List}
use Rattle.std.proofs.Common.{sym, subst, arith}
use Rattle.evidence_report.specs.declared.report.CitedLine.{CitedLine}
use Rattle.evidence_report.proofs.Lookup.{AreFoundSoFar, one_found, one_missing, all_found}
use Rattle.evidence_report.proofs.citing.found.Goals as goal
use Rattle.evidence_report.proofs.citing.found.Goals.{in-Some+in_ok-extend_from_slice, in_default}

pub loop-at-preserved : goal.loop-at-preserved
loop-at-preserved g c =
    let js = g.L.Lines.journals c.args.lines.now in
    let refs = c.args.refs.now in
    let at = c.loop-at.at-index in
    elim c.match-line.branch [
      | in-Some+in_ok-extend_from_slice w ↦ rw w.cited-is
          (subst (λ (cited : List CitedLine). AreFoundSoFar js refs cited (at + 1))
          (sym w.in_ok-extend_from_slice.ensures.items)
          (one_found js refs c.loop-at.cited.items at _ c.loop-at-test.true c.loop-at.invariant w.in-Some.line
          w.in-Some.ensures))
      | in_default w ↦ rw w.cited-is
          (one_missing js refs c.loop-at.cited.items at _ c.loop-at-test.true c.loop-at.invariant w.in_default.ensures)
    ]

pub returns : goal.returns
returns g c = all_found _ _ c.loop-at.cited.items c.loop-at.at-index (omega arith) c.loop-at.invariant
