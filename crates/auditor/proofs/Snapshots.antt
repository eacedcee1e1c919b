-- What is accepted over snapshots.
use Rattle.std.specs.Prelude.{◌≡◌, ℕ}
use Rattle.std.proofs.Common.{subst}
use Rattle.causal_order.specs.Journals.{Journals}
use Rattle.causal_order.specs.declared.certificate.Certificate.{Certificate}
use Rattle.book_rules.specs.NextHead.{AreLegal}
use Rattle.attribution.specs.declared.verdict.Verdict.TheVariants.{Accepted}
use Rattle.attribution.specs.Acceptance.{IsAccepted}
use Rattle.attribution.specs.FirstRefusal.{IsVerdict}
use Rattle.attribution.specs.Snapshot.{snapshots, IsTrueInRunsThatBeginSo}
use Rattle.attribution.proofs.Refusals.{accepted_from}
use Rattle.attribution.proofs.Lawful.{lawful}
use Rattle.attribution.proofs.Snapshot.{snapshots_true_of}
use Rattle.attribution.proofs.Cuts.{in_runs}

pub goes_on : (js : Journals) (skew transit : ℕ) (c : Certificate) → IsVerdict js skew transit c Accepted
    → (read : Journals) → js ≡ snapshots read → IsTrueInRunsThatBeginSo AreLegal read skew transit c
goes_on js skew transit c verdict read are = in_runs (snapshots_true_of AreLegal lawful) read skew transit c
    (subst (λ shown. IsAccepted shown skew transit c) are (accepted_from js skew transit c verdict))
