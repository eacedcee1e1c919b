use Rattle.std.proofs.Common.{◌-◌}
use Rattle.candidate_leases.proofs.PoolLines.{NoneMetBelow}
use Rattle.candidate_leases.proofs.pools.met_on.Given as goal

abbrev pub invariant-loop-number : goal.invariant-loop-number
invariant-loop-number g l = NoneMetBelow (g.L.Lines.journals l.lines) l.prefix l.least l.side l.number

abbrev pub decreases-loop-number : goal.decreases-loop-number
decreases-loop-number g l = 18 - l.number
