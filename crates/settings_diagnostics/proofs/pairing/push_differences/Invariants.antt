use Rattle.std.specs.Prelude.{◌≡◌, ◌++◌, map}
use Rattle.std.proofs.Common.{take}
use Rattle.settings_diagnostics.specs.declared.pairing.PairConflict.TheVariants.{Setting}
use Rattle.settings_diagnostics.proofs.pairing.push_differences.Given as goal

abbrev pub invariant-loop-difference : goal.invariant-loop-difference
invariant-loop-difference l =
    l.conflicts.items ≡ l.initial.conflicts.items ++ map Setting (take l.difference-index l.differences)
