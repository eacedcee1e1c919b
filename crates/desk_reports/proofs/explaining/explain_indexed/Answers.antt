use Rattle.std.proofs.Common.{refl}
use Rattle.desk_reports.proofs.explaining.explain_indexed.Goals as goal

pub returns-clause-shown : goal.returns-clause-shown
returns-clause-shown c = (
  c.audit-verdict.result,
  c.in-Ok.report,
  refl,
  c.audit-verdict.ensures.verdict,
  refl,
  c.in-Ok.ensures,
  c.failure_of-failure.ensures.failure c.args.skew c.args.transit c.args.claim.now c.in-Ok.ensures
      c.audit-verdict.ensures.verdict,
)
