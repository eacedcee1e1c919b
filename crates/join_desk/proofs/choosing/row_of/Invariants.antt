use Rattle.std.proofs.Common.{length, ◌≡◌, ◌+◌, ◌-◌, ◌≤◌}
use Rattle.std.specs.Prelude.{max}
use Rattle.join_desk.specs.Choosing.{AreInRow}
use Rattle.join_desk.proofs.choosing.row_of.Given as goal

abbrev pub invariant-loop-number : goal.invariant-loop-number
invariant-loop-number l = AreInRow l.volumes l.from l.chosen.items × (l.from + length l.chosen.items ≡ l.number)
    × (l.number ≤ max l.from (l.to + 1))

abbrev pub decreases-loop-number : goal.decreases-loop-number
decreases-loop-number l = l.to + 1 - l.number
