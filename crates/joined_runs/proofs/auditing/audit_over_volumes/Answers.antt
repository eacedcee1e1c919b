use Rattle.std.proofs.Common.{subst}
use Rattle.attribution.specs.FirstRefusal.{IsVerdict}
use Rattle.joined_runs.proofs.Verdicts.{over_joined, over_begun}
use Rattle.joined_runs.proofs.auditing.audit_over_volumes.Goals as goal

pub returns-clause-headline : goal.returns-clause-headline
returns-clause-headline g c accepted = over_joined c.verdict_is_one.ensures.accepts
    c.accepted_is_true_over_volumes.ensures.headline _ _ _ _
    (subst (IsVerdict _ _ _ _) accepted c.audit.ensures.verdict)

pub returns-clause-snapshots : goal.returns-clause-snapshots
returns-clause-snapshots g c accepted = over_begun c.verdict_is_one.ensures.accepts
    c.accepted_is_true_over_volumes.ensures.snapshots _ _ _ _
    (subst (IsVerdict _ _ _ _) accepted c.audit.ensures.verdict)
