use Rattle.std.proofs.Common.{subst}
use Rattle.auditor.specs.Pair.{IsChecked}
use Rattle.auditor.proofs.TextVerdicts.{over_legal}
use Rattle.auditor.proofs.texts.verdict_on_journals.Goals as goal

pub returns : goal.returns
returns c =
    let legal = subst (IsChecked c.args.primary.now c.args.secondary.now) c.in_default.is c.in_ok-refusal.ensures in
    over_legal c.args.primary.now c.args.secondary.now _ _ _ _ _ c.in_default.field-0 legal c.new-source.ensures
    c.audit.ensures.verdict
