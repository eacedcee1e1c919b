use Rattle.std.proofs.Common.{Option, MatchOption, IfOk, subst}
use Rattle.binding_rules.specs.declared.role.Role.TheVariants.{Primary, Secondary}
use Rattle.journal_lines.specs.declared.line.Journal.{Journal}
use Rattle.causal_order.specs.Journals.{journals_of}
use Rattle.attribution.specs.declared.verdict.Verdict.{Verdict}
use Rattle.auditor.specs.Pair.{IsBroken, IsUnbroken, IsOrdered}
use Rattle.auditor.proofs.Pairs.{ordered_checked}
use Rattle.auditor.proofs.pair.check_pair.Goals as goal

pub returns : goal.returns
returns c =
    let a = c.args.primary.now in
    let b = c.args.secondary.now in
    let first = subst (λ (o : Option Verdict). MatchOption o (IsUnbroken Primary a) (IsBroken Primary a))
    c.in_default.is c.in_ok-refusal.ensures in
    let second = subst (λ (o : Option Verdict). MatchOption o (IsUnbroken Secondary b) (IsBroken Secondary b))
    c.in_default-2.is c.in_ok-refusal-2.ensures in
    let result = c.ordered.result in
    ordered_checked a b result first second
    (subst (λ (j : Journal). IfOk result (IsOrdered (journals_of a j))) c.in_ok-secondary.ensures
    (subst (λ (j : Journal). IfOk result (IsOrdered (journals_of j c.in_ok-secondary.secondary))) c.in_ok-primary.ensures
    c.ordered.ensures))
