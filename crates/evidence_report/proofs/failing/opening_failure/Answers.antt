use Rattle.evidence_report.proofs.Refusing.{opened_by}
use Rattle.evidence_report.proofs.failing.opening_failure.Goals as goal

pub returns : goal.returns
returns c = λ js skew transit d h. opened_by js skew transit d c.piece_before_open.result
    (c.in_default.ensures js skew transit d h) (c.in_default-before_open.ensures js skew transit d h)
    (c.piece_before_open.ensures js skew transit d h)
