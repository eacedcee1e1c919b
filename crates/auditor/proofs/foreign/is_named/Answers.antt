use Rattle.std.proofs.Common.{rules}
use Rattle.auditor.proofs.Others.{named_by_some, some_by_name}
use Rattle.auditor.proofs.foreign.is_named.Goals as goal

pub returns : goal.returns
returns c = (
  λ t. named_by_some c.args.certificate.now c.args.at c.naming.result.now c.naming.ensures (search rules),
  λ named. (let some = some_by_name c.args.certificate.now c.args.at c.naming.result.now c.naming.ensures named in
      search rules),
)
