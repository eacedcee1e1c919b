use Rattle.candidate_leases.proofs.Whys.{none_so, carried_so, one_so}
use Rattle.candidate_leases.proofs.why.why_by.Goals as goal

pub returns-in_default : goal.returns-in_default
returns-in_default c case unit = none_so c.args.leases.now case unit c.in_default.ensures

pub returns-in-Some-first_carried : goal.returns-in-Some-first_carried
returns-in-Some-first_carried c case unit = carried_so c.args.leases.now case unit c.in-Some.first c.in-Some.ensures
    c.in_default-first_rival.ensures c.in-Some-first_carried.lease c.in-Some-first_carried.ensures

pub returns-in-None : goal.returns-in-None
returns-in-None c case unit = one_so c.args.leases.now case unit c.in-Some.first c.in-Some.ensures
    c.in_default-first_rival.ensures c.in-None.ensures
