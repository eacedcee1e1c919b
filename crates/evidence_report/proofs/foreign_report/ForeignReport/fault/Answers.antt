use Rattle.std.proofs.Common.{subst}
use Rattle.evidence_report.specs.Marks.{IsToldAt}
use Rattle.evidence_report.proofs.Unheld.{no_delegation, at_early, at_late, at_released}
use Rattle.evidence_report.proofs.foreign_report.ForeignReport.fault.Goals as goal

pub returns-in_default : goal.returns-in_default
returns-in_default c = λ js f h. no_delegation js c.args.skew c.args.transit c.args.certificate.now f
    (subst (IsToldAt js f.grant) c.in_default.is h.told)

pub returns-in-Early : goal.returns-in-Early
returns-in-Early c = λ js f h. at_early js c.args.skew c.args.transit c.args.certificate.now f c.args.self.now h
    c.in-Some.told c.in-Some.is c.in-Early.field-0 c.in-Early.latest c.early_fault.result c.in-Early.is
    c.early_fault.ensures

pub returns-in-Late : goal.returns-in-Late
returns-in-Late c = λ js f h. at_late js c.args.skew c.args.transit c.args.certificate.now f c.args.self.now h
    c.in-Some.told c.in-Some.is c.in-Late.field-0 c.in-Late.earliest c.late_fault.result c.in-Late.is
    c.late_fault.ensures

pub returns-in-Released : goal.returns-in-Released
returns-in-Released c = λ js f h. at_released js c.args.skew c.args.transit c.args.certificate.now f c.args.self.now h
    c.in-Some.told c.in-Some.is c.in-Released.release c.in-Released.gives_back c.in-Released.order
    c.in-Released.chain c.in-Released.latest c.released_fault.result c.in-Released.is c.released_fault.ensures
