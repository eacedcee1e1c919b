use Rattle.std.proofs.Common.{ℕ, ◌<◌, ◌≤◌, get_or, Contains}
use Rattle.settings_diagnostics.specs.declared.key.Key.{Key}
use Rattle.settings_diagnostics.specs.Keys.{key_name}
use Rattle.settings_diagnostics.specs.Nearest.{apart}
use Rattle.settings_diagnostics.proofs.spelling_hint.nearest.Given as goal

abbrev pub invariant-loop-key : goal.invariant-loop-key
invariant-loop-key l = record {
  known : Contains l.known l.best;
  least : (k : ℕ) → k < l.key-index → (d : Key)
      → apart l.word (key_name l.best) ≤ apart l.word (key_name (get_or l.known k d));
}
