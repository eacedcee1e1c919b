use Rattle.std.proofs.Common.{arith, sym, subst}
use Rattle.candidate_leases.specs.Conditions.{asked_of}
use Rattle.candidate_leases.specs.Leases.{AreConcerning}
use Rattle.candidate_leases.proofs.Listed.{all_near}
use Rattle.candidate_leases.proofs.candidates.candidate_leases.Goals as goal

pub returns : goal.returns
returns g c = all_near (g.S.Lines.journals c.args.source.now) c.args.query.now.prefix (asked_of c.args.query.now)
    c.deref-at-items.result.now c.loop-at.leases.items c.loop-at.at-index
    (let t = c.loop-at-test.false in omega arith)
    (subst (AreConcerning (g.S.Lines.journals c.args.source.now) c.args.query.now.prefix)
    (sym c.deref-at-items.ensures.value) c.in_ok-refs.ensures)
    c.loop-at.invariant
