use Rattle.candidate_leases.proofs.Listed.{all_concerning}
use Rattle.candidate_leases.proofs.candidates.concerning.Goals as goal

pub returns : goal.returns
returns g c = all_concerning _ _ _ c.loop-at.refs.items _ _ c.overlaps-walk.ensures.exact
    c.in_default.ensures c.loop-at.invariant c.in_ok-once.ensures
