use Rattle.candidate_leases.specs.declared.at_moment.AtMoment.TheVariants.{Ended}
use Rattle.candidate_leases.specs.Conditions.{asked_of}
use Rattle.candidate_leases.proofs.ShownSo.{shown_so}
use Rattle.candidate_leases.proofs.at_moment.state_at.Goals as goal

pub returns-in-Some-clause-shown : goal.returns-in-Some-clause-shown
returns-in-Some-clause-shown g c = shown_so (g.S.Lines.journals c.args.source.now) (asked_of c.args.query.now)
    c.args.line.now c.args.lasting.now c.args.releases.now (Ended c.in-Some.end) c.in-Some.ensures
