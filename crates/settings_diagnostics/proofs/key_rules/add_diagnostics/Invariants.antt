use Rattle.std.proofs.Common.{◌≡◌, ◌++◌, List, take}
use Rattle.toml.specs.View.{table_view}
use Rattle.settings_diagnostics.specs.declared.key_diagnostic.KeyDiagnostic.{KeyDiagnostic}
use Rattle.settings_diagnostics.specs.KeyRules.{AreDiagnostics}
use Rattle.settings_diagnostics.proofs.key_rules.add_diagnostics.Given as goal

abbrev pub invariant-loop-wanted : goal.invariant-loop-wanted
invariant-loop-wanted l = (more : List KeyDiagnostic) × (l.out.items ≡ l.initial.out.items ++ more)
    × AreDiagnostics (table_view l.table) l.place (take l.wanted-index l.wishes) more
