use Rattle.std.proofs.Common.{◌∙◌, ◌++◌, List, ap, subst}
use Rattle.toml.specs.View.{table_view}
use Rattle.settings_diagnostics.specs.declared.key_diagnostic.KeyDiagnostic.{KeyDiagnostic}
use Rattle.settings_diagnostics.specs.declared.key_diagnostic.KeyTable.TheVariants.{Top}
use Rattle.settings_diagnostics.specs.declared.key_rule.KeyRule.{KeyRule}
use Rattle.settings_diagnostics.specs.KeyRules.{AreDiagnostics}
use Rattle.settings_diagnostics.proofs.refusing.diagnostics.Goals as goal

pub returns : goal.returns
returns c =
    let top = c.in_ok-add_diagnostics.ensures in
    let pools = c.in_ok-add_of_pools.ensures in
    record {
      top = top.0;
      of_pools = pools.0;
      joined = pools.1 ∙ ap (λ (l : List KeyDiagnostic). l ++ pools.0) (top.1
          ∙ ap (λ (l : List KeyDiagnostic). l ++ top.0) c.new-out.ensures.items);
      keys = subst (λ (ws : List KeyRule). AreDiagnostics (table_view c.args.table.now) Top ws top.0) c.wishes.ensures
          top.2;
      pools = pools.2;
    }
