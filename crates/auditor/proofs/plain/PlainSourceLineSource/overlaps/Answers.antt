use Rattle.auditor.proofs.Given.{passing_is_listing}
use Rattle.auditor.proofs.plain.PlainSourceLineSource.overlaps.Goals as goal

pub returns : goal.returns
returns c = record { exact = passing_is_listing c.args.self.now c.args._prefix.now }
