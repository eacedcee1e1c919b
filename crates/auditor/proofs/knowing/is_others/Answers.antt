use Rattle.std.proofs.Common.{rules}
use Rattle.auditor.proofs.Known.{others_tested}
use Rattle.auditor.proofs.knowing.is_others.Goals as goal

pub returns-then-ne : goal.returns-then-ne
returns-then-ne c = others_tested c.args.delegation.now c.args.holder.now c.args.prefix.now _
    (search rules) c.overlaps.ensures
