use Rattle.std.proofs.Common.{subst}
use Rattle.attribution.specs.FirstRefusal.{IsVerdict}
use Rattle.book_rules.specs.NextHead.{AreLegal}
use Rattle.attribution.proofs.Refusals.{accepted_from}
use Rattle.attribution.proofs.Lawful.{lawful}
use Rattle.attribution.proofs.Headline.{headline}
use Rattle.auditor.proofs.Snapshots.{goes_on}
use Rattle.auditor.proofs.auditing.audit.Goals as goal

pub returns-clause-headline : goal.returns-clause-headline
returns-clause-headline g c accepted = headline AreLegal lawful _ _ _ _
    (accepted_from _ _ _ _ (subst (IsVerdict _ _ _ _) accepted c.judgment.ensures))

pub returns-clause-snapshots : goal.returns-clause-snapshots
returns-clause-snapshots g c accepted = goes_on _ _ _ _ (subst (IsVerdict _ _ _ _) accepted c.judgment.ensures)
