use Rattle.std.proofs.Common.{arith}
use Rattle.evidence_report.proofs.Refusing.{has_earlier, past_by_line, past_by_clock, before_open}
use Rattle.evidence_report.proofs.failing.unopened.Goals as goal
use Rattle.evidence_report.proofs.failing.unopened.Goals.{then-has_line_of-via-then-has_line_of}
use Rattle.evidence_report.proofs.failing.unopened.Goals.{then-has_line_of-via-else-has_line_of+then-is_clear_of_open}

pub returns-then-has_line_of : goal.returns-then-has_line_of
returns-then-has_line_of c = λ js skew transit d p h q. elim c.then-has_line_of.branch [
  | then-has_line_of-via-then-has_line_of w ↦ past_by_line js skew p c.args.shown.now q c.partner-side.result
      c.partner-side.ensures (c.has_line_of.ensures.0 w.if-has_line_of.true)
  | then-has_line_of-via-else-has_line_of+then-is_clear_of_open w ↦
      past_by_clock js skew p c.args.shown.now q c.partner-side.result c.partner-side.ensures
      ((w.is_clear_of_open.ensures js skew transit d p h q).0 w.if-is_clear_of_open.true)
]

pub returns : goal.returns
returns c = λ js skew transit d p h q. before_open js skew p c.args.shown.now q c.partner-side.result
    c.partner-side.ensures
    (has_earlier js skew transit d c.args.report.now h c.partner-side.result c.side_of.result.now c.side_of.ensures
    (omega arith))
    (λ has. (let t = c.has_line_of.ensures.1 has in absurd (cc)))
    (λ clear. (let t = (c.is_clear_of_open.ensures js skew transit d p h q).1 clear in absurd (cc)))
