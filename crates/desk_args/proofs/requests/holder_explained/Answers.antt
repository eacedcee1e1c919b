use Rattle.std.proofs.Common.{rules}
use Rattle.desk_args.specs.declared.request.AnswerForm.TheVariants.{Plain, Json}
use Rattle.desk_args.specs.declared.request.DeskRequest.TheVariants.{Answer, Explain, ExplainHolder, Join, Copy, Volumes}
use Rattle.desk_args.proofs.requests.holder_explained.Goals as goal

pub returns-in_err-query-clause-refused : goal.returns-in_err-query-clause-refused
returns-in_err-query-clause-refused c usage (ExplainHolder query settings telling) is =
    let error = c.from_residual.ensures in
    c.in_err-query.ensures.refused (search rules) query is.2
returns-in_err-query-clause-refused c usage (Answer command Plain) is = is.1.0.unexplained c.requires
returns-in_err-query-clause-refused c usage (Answer command Json) is = is.1.0.unexplained c.requires
returns-in_err-query-clause-refused c usage (Explain skew transit telling) is = let name = is.0 in search rules
returns-in_err-query-clause-refused c usage (Join query) is = let name = is.0 in search rules
returns-in_err-query-clause-refused c usage (Copy query) is = let name = is.0 in search rules
returns-in_err-query-clause-refused c usage Volumes is = let name = is in search rules
