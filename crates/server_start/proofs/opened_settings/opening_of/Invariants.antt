use Rattle.std.proofs.Common.{◌≡◌, drop}
use Rattle.server_start.specs.FirstLines.{with_lines}
use Rattle.server_start.proofs.opened_settings.opening_of.Given as goal

abbrev pub invariant-loop-line : goal.invariant-loop-line
invariant-loop-line l =
    with_lines l.opening (drop l.line-index l.line-items) ≡ with_lines l.initial.opening l.line-items
