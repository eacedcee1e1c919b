use Rattle.std.proofs.Common.{sym}
use Rattle.evidence_report.proofs.Failed.{no_grant, late_begin, at_end}
use Rattle.evidence_report.proofs.piece_report.PieceReport.fault.Goals as goal

pub returns-in_default : goal.returns-in_default
returns-in_default c = λ js p h. no_grant js c.args.skew c.args.transit c.args.certificate.now p c.args.self.now h
    (sym c.in_default.is)

pub returns-in-Some-begin_fault : goal.returns-in-Some-begin_fault
returns-in-Some-begin_fault c = λ js p h.
    late_begin js c.args.skew c.args.transit c.args.certificate.now p c.args.self.now h
    c.in-Some.granted (sym c.in-Some.is) c.in-Some-begin_fault.fault c.in_default-holder_fault.ensures
    c.in-Some-begin_fault.ensures

pub returns : goal.returns
returns c = λ js p h. at_end js c.args.skew c.args.transit c.args.certificate.now p c.args.self.now h
    c.in-Some.granted (sym c.in-Some.is) c.end_fault.result c.in_default-holder_fault.ensures
    c.in_default-begin_fault.ensures c.end_fault.ensures
