use Rattle.std.proofs.Common.{rules, ◌≡◌, codes}
use Rattle.desk_args.specs.declared.request.DeskRequest.TheVariants.{Answer, Explain, ExplainHolder, Join, Copy, Volumes}
use Rattle.desk_args.proofs.requests.request_given.Goals as goal

pub returns-clause-refused : goal.returns-clause-refused
returns-clause-refused c usage (Answer command form) is = c.answered.ensures.refused usage command form is.0 is.1
returns-clause-refused c usage (Explain skew transit telling) is =
    let name : c.args.name.now ≡ codes "explain" = is.0 in
    let same = c.eq.ensures in
    let other = c.if-eq.false in
    search rules
returns-clause-refused c usage (ExplainHolder query settings telling) is =
    let why = c.asks_why.ensures.1 (is.0, is.1) in
    let not = c.if-asks_why.false in
    search rules
returns-clause-refused c usage (Join query) is =
    let name : c.args.name.now ≡ codes "join" = is.0 in
    let same = c.eq-2.ensures in
    let other = c.if-eq-2.false in
    search rules
returns-clause-refused c usage (Copy query) is =
    let name : c.args.name.now ≡ codes "copy" = is.0 in
    let same = c.eq-3.ensures in
    let other = c.if-eq-3.false in
    search rules
returns-clause-refused c usage Volumes is =
    let name : c.args.name.now ≡ codes "volumes" = is in
    let same = c.eq-4.ensures in
    let other = c.if-eq-4.false in
    search rules
