use Rattle.std.proofs.Common.{arith}
use Rattle.candidate_leases.proofs.PoolLines.{none_at_all}
use Rattle.candidate_leases.proofs.pools.met_on.Goals as goal

pub returns : goal.returns
returns g c = none_at_all (g.L.Lines.journals c.args.lines.now) c.args.prefix.now c.args.least c.args.side
    c.loop-number.number (let t = c.loop-number-test.false in omega arith) c.loop-number.invariant
