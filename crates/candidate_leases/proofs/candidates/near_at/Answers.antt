use Rattle.candidate_leases.specs.Conditions.{asked_of}
use Rattle.candidate_leases.proofs.Listed.{untold}
use Rattle.candidate_leases.proofs.candidates.near_at.Goals as goal

pub returns-in_default : goal.returns-in_default
returns-in_default g c = untold (g.S.Lines.journals c.args.source.now) c.args.query.now.prefix
    (asked_of c.args.query.now) c.args.at c.in_default.ensures
