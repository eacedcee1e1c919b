use Rattle.std.specs.Prelude.{◌-◌, length}
use Rattle.journal_paths.proofs.Counted.{AreCounted}
use Rattle.journal_paths.proofs.synced_lines.first_lines.Given as goal

abbrev pub invariant-loop-end : goal.invariant-loop-end
invariant-loop-end l = AreCounted l.text l.count l.end l.left

abbrev pub decreases-loop-end : goal.decreases-loop-end
decreases-loop-end l = length l.text - l.end
