use Rattle.std.proofs.Common.{rules, sym, ◌∙◌, ap}
use Rattle.std.specs.Prelude.{◌≡◌, Some}
use Rattle.causal_order.specs.Tests.{last_of_chain}
use Rattle.auditor.proofs.Bounds.{earliest_at, no_chain_to, ends_elsewhere}
use Rattle.auditor.proofs.grants.earliest_at.Goals as goal

pub returns-in_err-last_of_chain : goal.returns-in_err-last_of_chain
returns-in_err-last_of_chain g c =
    rw c.from_residual.ensures (no_chain_to _ _ _ c.args.skew (ap last_of_chain (sym c.as_slice-refs.ensures)
    ∙ sym c.in_err-last_of_chain.ensures))

pub returns-then-ne : goal.returns-then-ne
returns-then-ne g c = ends_elsewhere _ _ _ _ c.args.skew (c.in_ok-last_of_chain.ensures
    ∙ ap last_of_chain c.as_slice-refs.ensures) (search rules)

pub returns : goal.returns
returns g c =
    let end : Some c.args.at ≡ last_of_chain c.args.chain.now = search rules in
    earliest_at _ _ _ c.args.skew _ end (rw (sym c.as_slice-refs.ensures) c.earliest_of.ensures)
