use Rattle.std.proofs.Common.{◌≡◌, ◌++◌, drop}
use Rattle.archive_desk.specs.Warnings.{warned_all}
use Rattle.archive_desk.proofs.judged_telling.warned_all.Given as goal

abbrev pub invariant-loop-each : goal.invariant-loop-each
invariant-loop-each l = l.out.items ++ warned_all l.names (drop l.each-index l.warnings) ≡ warned_all l.names l.warnings
