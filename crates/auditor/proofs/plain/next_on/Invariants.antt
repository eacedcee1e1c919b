use Rattle.std.proofs.Common.{◌≡◌, ◌+◌, ◌-◌, length, drop}
use Rattle.auditor.specs.Passing.{answers, passing_from}
use Rattle.auditor.proofs.plain.next_on.Given as goal

abbrev pub invariant-loop-index : goal.invariant-loop-index
invariant-loop-index l = passing_from (answers l.question) l.side (l.from + 1) (drop l.from l.lines)
    ≡ passing_from (answers l.question) l.side (l.index + 1) (drop l.index l.lines)

abbrev pub decreases-loop-index : goal.decreases-loop-index
decreases-loop-index l = length l.lines - l.index
