use Rattle.std.proofs.Common.{◌∙◌, ◌++◌, List, ap, append_assoc}
use Rattle.settings_diagnostics.specs.declared.key_diagnostic.KeyDiagnostic.{KeyDiagnostic}
use Rattle.settings_diagnostics.proofs.Piling.{one_more_pool, all_pools}
use Rattle.settings_diagnostics.proofs.pools.add_of_each.Goals as goal

pub loop-before-preserved : goal.loop-before-preserved
loop-before-preserved c =
    let old = c.loop-before.invariant in
    let new = c.in_ok-add_of_pool.ensures in (
      old.0 ++ new.0,
      new.1 ∙ ap (λ (l : List KeyDiagnostic). l ++ new.0) old.1 ∙ append_assoc c.args.out.now.items old.0 new.0,
      one_more_pool c.args.pools.now c.loop-before.before c.index-pools-before.result old.0 new.0
          c.loop-before-test.true c.index-pools-before.is old.2 new.2,
    )

pub returns : goal.returns
returns c = let old = c.loop-before.invariant in (old.0, old.1, all_pools _ _ _ c.loop-before-test.false old.2)
