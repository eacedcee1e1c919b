use Rattle.disk_model.proofs.Stays.{left_are_first}
use Rattle.disk_model.proofs.line_laws.left_are_first.Goals as goal

pub returns : goal.returns
returns c = left_are_first
