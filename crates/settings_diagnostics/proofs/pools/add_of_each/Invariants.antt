use Rattle.std.proofs.Common.{◌≡◌, ◌++◌, List}
use Rattle.settings_diagnostics.specs.declared.key_diagnostic.KeyDiagnostic.{KeyDiagnostic}
use Rattle.settings_diagnostics.proofs.Piling.{AreFirst}
use Rattle.settings_diagnostics.proofs.pools.add_of_each.Given as goal

abbrev pub invariant-loop-before : goal.invariant-loop-before
invariant-loop-before l = (more : List KeyDiagnostic) × (l.out.items ≡ l.initial.out.items ++ more)
    × AreFirst l.pools l.before more
