use Rattle.std.proofs.Common.{rules}
use Rattle.auditor.proofs.Closings.{reaches_by_reading}
use Rattle.auditor.proofs.auditing.reaches.Goals as goal

pub returns : goal.returns
returns g c = reaches_by_reading _ c.close_reading.result _ _ c.close_reading.ensures (search rules)
