use Rattle.plain_search.proofs.Candidates.{ends_before}
use Rattle.plain_search.proofs.reach.reach_at.Goals as goal

pub returns-in-None-clause-reach : goal.returns-in-None-clause-reach
returns-in-None-clause-reach g c =
    ends_before (g.S.Lines.journals c.args.source.now) c.args.query.now c.in-Some.candidate c.args.at
    c.in-Some.ensures.0 c.in-Some.ensures.1 (rw c.in-None.is at c.in_ok-end.ensures.end)
