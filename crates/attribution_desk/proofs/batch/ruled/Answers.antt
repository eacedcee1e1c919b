use Rattle.std.proofs.Common.{rules, subst, sym}
use Rattle.parallel_check.specs.Verdicts.{AreVerdicts as AllJudged}
use Rattle.attribution_desk.specs.Case.{IsCaseOf}
use Rattle.attribution_desk.specs.Claims.{AreRuledOn}
use Rattle.attribution_desk.proofs.Batches.{all_refused, all_audited}
use Rattle.attribution_desk.proofs.batch.ruled.Goals as goal

pub returns-in-Refused-clause-rulings : goal.returns-in-Refused-clause-rulings
returns-in-Refused-clause-rulings g c =
    let out = subst (IsCaseOf c.args.primary.now c.args.secondary.now c.args.skew) c.in-Refused.is
    c.in_ok-case.ensures.case in
    let items = c.in_ok-vec-in-Refused.ensures.items_if_clones_equal (λ y e. search rules) in
    subst (AreRuledOn c.args.primary.now c.args.secondary.now c.args.skew c.args.transit c.args.certificates.now)
    (sym items)
    (all_refused c.args.primary.now c.args.secondary.now c.args.skew c.args.transit c.in-Refused.ruling out
    c.args.certificates.now)

pub returns-clause-rulings : goal.returns-clause-rulings
returns-clause-rulings g c =
    let fit = subst (IsCaseOf c.args.primary.now c.args.secondary.now c.args.skew) c.in-Open.is
    c.in_ok-case.ensures.case in
    let judged =
    subst (λ js. AllJudged js c.args.skew c.args.transit c.args.certificates.now c.in_ok-verdicts.verdicts.items)
    fit.1 c.in_ok-verdicts.ensures.verdicts in
    subst (AreRuledOn c.args.primary.now c.args.secondary.now c.args.skew c.args.transit c.args.certificates.now)
    (sym (search rules))
    (all_audited c.args.primary.now c.args.secondary.now c.args.skew c.args.transit fit.0 c.args.certificates.now
    c.in_ok-verdicts.verdicts.items judged)
