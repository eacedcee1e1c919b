use Rattle.auditor.proofs.Pairs.{few_lines}
use Rattle.auditor.proofs.laws.unbroken_is_short.Goals as goal

pub returns : goal.returns
returns c = few_lines
