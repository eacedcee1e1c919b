use Rattle.std.proofs.Common.{◌≡◌, MatchOption, IfOk, subst}
use Rattle.journal_lines.specs.declared.line.Journal.{Journal}
use Rattle.causal_order.specs.Journals.{journals_of}
use Rattle.causal_order.specs.LineOrder.{IsLeast}
use Rattle.journal_merge.specs.Early.{IsFarBelowSend, NoneIsFarBelow}
use Rattle.auditor.specs.Pair.{IsOrdered}
use Rattle.pair_judgement.proofs.finding.find.Goals as goal

pub returns-clause-order : goal.returns-clause-order
returns-clause-order g c =
    let a = c.args.primary.now in
    let b = c.args.secondary.now in
    let first = subst (λ r. IfOk r (λ noted. noted ≡ a)) c.in_ok-primary.was c.of_both-first.ensures.noted_primary in
    let second = subst (λ r. IfOk r (λ noted. noted ≡ b)) c.in_ok-secondary.was
    c.of_both-first.ensures.noted_secondary in
    subst (λ (j : Journal). IfOk c.ordered.result (IsOrdered (journals_of a j))) second
    (subst (λ (j : Journal). IfOk c.ordered.result (IsOrdered (journals_of j c.in_ok-secondary.secondary))) first
    c.ordered.ensures)

pub returns-clause-early : goal.returns-clause-early
returns-clause-early g c =
    let a = c.args.primary.now in
    let b = c.args.secondary.now in
    let first = subst (λ r. IfOk r (λ noted. noted ≡ a)) c.in_ok-primary.was c.of_both-first.ensures.noted_primary in
    let second = subst (λ r. IfOk r (λ noted. noted ≡ b)) c.in_ok-secondary.was
    c.of_both-first.ensures.noted_secondary in
    let skew = c.args.skew in
    subst (λ (j : Journal). IfOk c.first_early_noted.result (λ take. MatchOption take (NoneIsFarBelow (journals_of a j)
    skew) (IsLeast (IsFarBelowSend (journals_of a j) skew)))) second
    (subst (λ (j : Journal). IfOk c.first_early_noted.result (λ take. MatchOption take (NoneIsFarBelow (journals_of j
    c.in_ok-secondary.secondary) skew) (IsLeast (IsFarBelowSend (journals_of j c.in_ok-secondary.secondary) skew))))
    first c.first_early_noted.ensures)
