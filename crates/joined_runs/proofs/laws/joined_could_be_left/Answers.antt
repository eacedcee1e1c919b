use Rattle.joined_runs.proofs.Closed.{could_be_left}
use Rattle.joined_runs.proofs.SoFar.{could_be_left_so_far}
use Rattle.joined_runs.proofs.laws.joined_could_be_left.Goals as goal

pub returns-clause-closed : goal.returns-clause-closed
returns-clause-closed c = could_be_left c.joined_is_legal.ensures

pub returns-clause-so_far : goal.returns-clause-so_far
returns-clause-so_far c = could_be_left_so_far c.joined_is_legal.ensures
