use Rattle.std.proofs.Common.{◌≡◌, drop}
use Rattle.folder_start.specs.Reached.{change_before}
use Rattle.folder_start.proofs.reached.change_before.Given as goal

abbrev pub invariant-loop-line : goal.invariant-loop-line
invariant-loop-line l = change_before l.prefix (drop l.line-index l.lines) ≡ change_before l.prefix l.lines
