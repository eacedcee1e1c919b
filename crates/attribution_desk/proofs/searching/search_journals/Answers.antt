use Rattle.std.proofs.Common.{subst}
use Rattle.attribution_desk.specs.Case.{IsCaseOf}
use Rattle.attribution_desk.proofs.Asked.{open_searched, ruled_out}
use Rattle.attribution_desk.proofs.searching.search_journals.Goals as goal

pub returns-in-Open-clause-answer : goal.returns-in-Open-clause-answer
returns-in-Open-clause-answer g c =
    open_searched c.args.primary.now c.args.secondary.now c.args.search.now c.in-Open.index.journals c.skew.result
    c.search_open.result c.skew.ensures
    (subst (IsCaseOf c.args.primary.now c.args.secondary.now c.skew.result) c.in-Open.is c.in_ok-case.ensures.case)
    c.search_open.ensures.answer

pub returns-clause-answer : goal.returns-clause-answer
returns-clause-answer g c =
    ruled_out c.args.primary.now c.args.secondary.now c.args.search.now c.in-Refused.ruling c.skew.result c.skew.ensures
    (subst (IsCaseOf c.args.primary.now c.args.secondary.now c.skew.result) c.in-Refused.is c.in_ok-case.ensures.case)
