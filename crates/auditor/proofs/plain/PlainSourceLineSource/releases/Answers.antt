use Rattle.auditor.proofs.Given.{passing_are_releases}
use Rattle.auditor.proofs.plain.PlainSourceLineSource.releases.Goals as goal

pub returns : goal.returns
returns c = record { exact = passing_are_releases c.args.self.now c.args._delegation.now }
