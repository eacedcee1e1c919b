use Rattle.std.proofs.Common.{subst}
use Rattle.attribution_desk.specs.Case.{IsCaseOf}
use Rattle.desk_reports.proofs.Opened.{open_explained}
use Rattle.desk_reports.proofs.explaining.explain_case.Goals as goal

pub returns-in-Open-clause-explained : goal.returns-in-Open-clause-explained
returns-in-Open-clause-explained c = open_explained c.args.primary.now c.args.secondary.now c.args.skew c.args.transit
    c.args.claim.now c.in-Open.index.journals c.explain_indexed.result
    (subst (IsCaseOf c.args.primary.now c.args.secondary.now c.args.skew) c.in-Open.is c.requires)
    c.explain_indexed.ensures.shown
