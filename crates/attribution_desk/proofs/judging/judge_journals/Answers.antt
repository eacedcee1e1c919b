use Rattle.std.proofs.Common.{◌≡◌, ◌∙◌, inr, subst}
use Rattle.attribution.specs.declared.verdict.Verdict.TheVariants.{Accepted}
use Rattle.pair_judgement.specs.PairJudgements.{IsRuledOut}
use Rattle.attribution.specs.FirstRefusal.{IsVerdict}
use Rattle.auditor.proofs.Pairs.{refused_not_accepted}
use Rattle.attribution_desk.specs.Case.{IsCaseOf}
use Rattle.attribution_desk.proofs.Rulings.{refused_as}
use Rattle.attribution_desk.proofs.judging.judge_journals.Goals as goal

pub returns-clause-ruling : goal.returns-clause-ruling
returns-clause-ruling g c =
    refused_as c.args.primary.now c.args.secondary.now c.args.skew c.args.transit c.args.claim.now
    c.in-Refused.ruling
    (subst (IsCaseOf c.args.primary.now c.args.secondary.now c.args.skew) c.in-Refused.is c.in_ok-case.ensures.case)

pub returns-in-Open-clause-ruling : goal.returns-in-Open-clause-ruling
returns-in-Open-clause-ruling g c =
    let fit = subst (IsCaseOf c.args.primary.now c.args.secondary.now c.args.skew) c.in-Open.is
    c.in_ok-case.ensures.case in
    inr (
      fit.0,
      subst (λ js. IsVerdict js c.args.skew c.args.transit c.args.claim.now c.audit.result) fit.1
          c.audit.ensures.verdict,
    )

pub returns-clause-snapshots : goal.returns-clause-snapshots
returns-clause-snapshots g c is read same =
    let out = subst (IsCaseOf c.args.primary.now c.args.secondary.now c.args.skew) c.in-Refused.is
    c.in_ok-case.ensures.case in
    absurd (refused_not_accepted c.args.primary.now c.args.secondary.now
    (subst (IsRuledOut c.args.primary.now c.args.secondary.now c.args.skew) is out))

pub returns-in-Open-clause-snapshots : goal.returns-in-Open-clause-snapshots
returns-in-Open-clause-snapshots g c is read same =
    let fit = subst (IsCaseOf c.args.primary.now c.args.secondary.now c.args.skew) c.in-Open.is
    c.in_ok-case.ensures.case in
    let accepted : c.audit.result ≡ Accepted = cc in
    c.audit.ensures.snapshots accepted read (fit.1 ∙ same)
