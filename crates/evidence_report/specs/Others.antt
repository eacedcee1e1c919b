-- What is shown of other clients' delegations.
use Rattle.std.specs.Prelude.{◌≡◌, ◌↔◌, IsTrue}
use Rattle.causal_order.specs.declared.reference.Ref.{Ref}
use Rattle.causal_order.specs.declared.certificate.Foreign.{Foreign}
use Rattle.causal_order.specs.declared.certificate.Reason.{Reason}
use Rattle.causal_order.specs.declared.certificate.Reason.TheVariants.{Early as EndedBefore, Late as BegunAfter}
use Rattle.causal_order.specs.declared.certificate.Reason.TheVariants.{Released as GivenBack}
use Rattle.causal_order.specs.Journals.{Journals}
use Rattle.attribution.specs.declared.delegation.Delegation.{Delegation}
use Rattle.attribution.specs.Acceptance.{Tells, GivesBack}
use Rattle.evidence_report.specs.declared.foreign_report.ForeignEvidence.{ForeignEvidence}
use Rattle.evidence_report.specs.declared.foreign_report.ForeignEvidence.TheVariants.{Early, Late, Released}
use Rattle.evidence_report.specs.declared.foreign_report.ForeignReport.{ForeignReport}
use Rattle.evidence_report.specs.Marks.{IsLatestMark, IsEarliestMark, IsToldAt, IsOrderReport}

-- the release gives back what the line tells of
abbrev pub EndsTold : Journals → (r release : Ref) → Type 0
EndsTold js r release = (d : Delegation) × Tells js r d × GivesBack js release d

-- what is shown of why what the line r tells of doesn't touch the interval
abbrev pub IsOutsideReport : Journals → Ref → Reason → ForeignEvidence → Type 0
IsOutsideReport js r (EndedBefore chain) (Early shown latest) = (shown.now ≡ chain) × IsLatestMark js chain r latest
IsOutsideReport js r (BegunAfter chain) (Late shown earliest) =
    (shown.now ≡ chain) × IsEarliestMark js chain r earliest
IsOutsideReport js r (GivenBack release order chain) (Released at gives_back ordered shown latest) =
    (at ≡ release) × (IsTrue gives_back ↔ EndsTold js r release) × IsOrderReport js order r release ordered
    × (shown.now ≡ chain) × IsLatestMark js chain release latest
IsOutsideReport js r _ _ = ⊥

-- all that is shown of a foreign entry
pub record IsForeignReport (js : Journals) (f : Foreign) (shown : ForeignReport) : Type 0 where
  pub entry : shown.entry.now ≡ f
  pub told : IsToldAt js f.grant shown.told
  pub outside : IsOutsideReport js f.grant f.reason shown.outside
