use Rattle.std.proofs.Common.{List, length, MatchOption, sym, subst}
use Rattle.toml.specs.declared.value.Value.{Value}
use Rattle.settings_diagnostics.specs.KeyRules.{IsCount, IsCountFault}
use Rattle.settings_diagnostics.proofs.Counting.{counted}
use Rattle.settings_diagnostics.proofs.key_rule.tables_fault.Goals as goal

pub returns-in-Some : goal.returns-in-Some
returns-in-Some c =
    counted c.in-Some.entries.now.items _ c.args.least c.args.most _ (sym c.in-Some.ensures)
    (subst (λ (vs : List Value). MatchOption c.count_fault.result (IsCount c.args.least c.args.most (length vs))
    (IsCountFault c.args.least c.args.most (length vs))) c.deref.ensures.value c.count_fault.ensures)
