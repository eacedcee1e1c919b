use Rattle.time_text.proofs.Written.{read_again}
use Rattle.time_text.proofs.laws.times_are_read_again.Goals as goal

pub returns-clause-again : goal.returns-clause-again
returns-clause-again c = read_again
