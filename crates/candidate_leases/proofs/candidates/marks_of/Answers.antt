use Rattle.std.proofs.Common.{arith}
use Rattle.candidate_leases.proofs.Listed.{all_marked}
use Rattle.candidate_leases.proofs.candidates.marks_of.Goals as goal

pub returns : goal.returns
returns g c = all_marked (g.S.Lines.journals c.args.source.now) c.args.refs.now c.loop-at.marks.items
    c.loop-at.at-index (let t = c.loop-at-test.false in omega arith) c.loop-at.invariant
