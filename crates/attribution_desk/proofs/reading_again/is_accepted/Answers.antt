use Rattle.std.proofs.Common.{subst}
use Rattle.attribution.specs.declared.verdict.Verdict.TheVariants.{Accepted}
use Rattle.attribution.specs.FirstRefusal.{IsVerdict}
use Rattle.attribution.proofs.Refusals.{one_verdict}
use Rattle.attribution_desk.proofs.reading_again.is_accepted.Goals as goal

pub returns : goal.returns
returns g c =
    let js = g.S.Lines.journals c.args.source.now in
    let c' = c.args.certificate.now in (
      λ t. subst (IsVerdict js c.args.skew c.args.transit c') (c.accepts.ensures.0 t) c.audit.ensures.verdict,
      λ h. c.accepts.ensures.1 (one_verdict js c.args.skew c.args.transit c' _ Accepted c.audit.ensures.verdict h),
    )
