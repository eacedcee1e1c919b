use Rattle.std.proofs.Common.{◌≡◌, drop}
use Rattle.folder_start.specs.Reached.{restarts_before}
use Rattle.folder_start.proofs.reached.restarts_before.Given as goal

abbrev pub invariant-loop-line : goal.invariant-loop-line
invariant-loop-line l = restarts_before (drop l.line-index l.lines) ≡ restarts_before l.lines
