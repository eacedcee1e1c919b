use Rattle.std.proofs.Common.{◌≡◌, ◌-◌}
use Rattle.prefix_range.specs.Parsing.{padded}
use Rattle.prefix_range.proofs.row.Row.padded.Given as goal

-- the groups so far and the zeros that are left make the row
abbrev pub invariant-loop : goal.invariant-loop
invariant-loop l = padded l.row (l.zeros - l.counter) ≡ padded l.fn.self l.zeros
