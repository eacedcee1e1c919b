use Rattle.std.proofs.Common.{◌≡◌, ◌≤◌, take}
use Rattle.std.specs.List.{count_by}
use Rattle.settings_diagnostics.specs.Nearest.{lacks}
use Rattle.settings_diagnostics.proofs.spelling_hint.lacking.Given as goal

abbrev pub invariant-loop-octet : goal.invariant-loop-octet
invariant-loop-octet l = record {
  count : l.count ≡ count_by (lacks l.other) (take l.octet-index l.word);
  few : l.count ≤ l.octet-index;
}
