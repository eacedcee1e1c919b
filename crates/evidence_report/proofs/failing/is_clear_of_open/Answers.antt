use Rattle.std.proofs.Common.{rules}
use Rattle.evidence_report.proofs.Refusing.{clear_by, clear_unchained}
use Rattle.evidence_report.proofs.failing.is_clear_of_open.Goals as goal

pub returns-in_default-earliest : goal.returns-in_default-earliest
returns-in_default-earliest c = λ js skew transit d p h q. clear_unchained js skew transit d c.args.report.now h
    c.args.side c.side_of.result.now c.side_of.ensures p c.args.shown.now q c.in_default-earliest.is

pub returns : goal.returns
returns c = λ js skew transit d p h q. clear_by js skew transit d c.args.report.now h c.args.side
    c.side_of.result.now c.side_of.ensures p c.args.shown.now q c.in-Some.opened c.in-Some-earliest.earliest _
    c.in-Some.is c.in-Some-earliest.is (search rules)
