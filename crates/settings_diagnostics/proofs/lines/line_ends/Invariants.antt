use Rattle.std.proofs.Common.{◌≡◌, ◌≤◌, ◌==◌, take}
use Rattle.std.specs.List.{count_by}
use Rattle.settings_diagnostics.proofs.lines.line_ends.Given as goal

abbrev pub invariant-loop-octet : goal.invariant-loop-octet
invariant-loop-octet l = record {
  count : l.count ≡ count_by (λ octet. octet == 10) (take l.octet-index l.text);
  few : l.count ≤ l.octet-index;
}
