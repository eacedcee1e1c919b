use Rattle.std.specs.Prelude.{Some}
use Rattle.std.proofs.Common.{sym, ◌∙◌, ap, subst}
use Rattle.causal_order.specs.declared.reference.Ref.{Ref}
use Rattle.causal_order.specs.Order.{IsChain}
use Rattle.causal_order.specs.Tests.{first_of_chain, last_of_chain}
use Rattle.evidence_report.proofs.Marks.{earliest_shown, none_to_empty, none_to_other}
use Rattle.evidence_report.proofs.chains.earliest_mark.Goals as goal

pub returns-in_err-last_of_chain : goal.returns-in_err-last_of_chain
returns-in_err-last_of_chain g c = rw c.from_residual.ensures (none_to_empty _ _ _
    (ap last_of_chain (sym c.as_slice-refs.ensures) ∙ sym c.in_err-last_of_chain.ensures))

pub returns : goal.returns
returns g c =
    let links = subst (IsChain (g.L.Lines.journals c.args.lines.now)) c.as_slice-refs.ensures
    (c.is_chain.ensures.decided.0 c.if-not-is_chain.false) in
    let same = c.is_same.ensures.0 c.if-not-is_same.false in
    let last = ap (λ (r : Ref). Some r) (sym same)
    ∙ (c.in_ok-last_of_chain.ensures ∙ ap last_of_chain c.as_slice-refs.ensures) in
    let first = c.in_ok-first_of_chain.ensures ∙ ap first_of_chain c.as_slice-refs.ensures in
    rw c.mark_at.ensures (earliest_shown _ _ _ _ links last first)

pub returns-then-not-is_same : goal.returns-then-not-is_same
returns-then-not-is_same g c = none_to_other _ _ _ _ (c.in_ok-last_of_chain.ensures
    ∙ ap last_of_chain c.as_slice-refs.ensures) (λ e. (let t = c.is_same.ensures.1 e in absurd (cc)))
