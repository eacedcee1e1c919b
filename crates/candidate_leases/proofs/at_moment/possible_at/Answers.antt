use Rattle.attribution.specs.declared.delegation.Lasting.TheVariants.{For}
use Rattle.candidate_leases.proofs.at_moment.possible_at.Goals as goal

pub returns-in-Some-clause-so : goal.returns-in-Some-clause-so
returns-in-Some-clause-so g c = c.in-Some.ensures.0 (g.S.Lines.journals c.args.source.now)

pub returns-in-Some-doubt_by_volumes-clause-so : goal.returns-in-Some-doubt_by_volumes-clause-so
returns-in-Some-doubt_by_volumes-clause-so g c =
    c.in-Some-doubt_by_volumes.ensures.1 (For c.args.valid) c.args.releases.now
