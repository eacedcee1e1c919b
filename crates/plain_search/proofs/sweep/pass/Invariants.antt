use Rattle.std.proofs.Common.{length, ◌-◌}
use Rattle.plain_search.specs.Search.{IsPassed}
use Rattle.plain_search.proofs.sweep.pass.Given as goal

abbrev pub invariant-loop-count : goal.invariant-loop-count
invariant-loop-count l = IsPassed l.reaches l.moment (record { count = l.count; best = l.best })

abbrev pub decreases-loop-count : goal.decreases-loop-count
decreases-loop-count l = length l.reaches - l.count
